-- Paths that are lifted.
use Rattle.std.specs.Prelude.{true, false, Option, Some, None}
use Rattle.composition.specs.Paths.{Path, limits, fits}

-- the path, where it is within the limits of paths
unfoldable pub within_limits : Path → Option Path
within_limits p = elim (fits limits p) [ true ↦ Some p | false ↦ None ]
