-- Paths within the limits.
use Rattle.std.proofs.Common.{◌≡◌, arith, Bool, true, false, [], ◌++◌, length, Option, Some, None}
use Rattle.std.specs.Prelude.{nat_le}
use Rattle.std.proofs.lemmas.Bool.{leb-true, le-leb}
use Rattle.sdf_paths.specs.Paths.{IsPath, rest_after, is_property, depth, printed}
use Rattle.sdf_paths.proofs.Shapes.{joined_path, may_follow, depth_joined, length_printed}
use Rattle.composition.specs.Paths.{Path, limits, fits}
use Rattle.composition.proofs.Tests.{both_hold, both_parts}

-- a path, by whether it is within the limits
abbrev pub kept_if : Path → Bool → Option Path
kept_if p b = elim b as (λ _. Option Path) [ true ↦ Some p | false ↦ None ]

-- what is a path is within the limits
pub path_fits : (p : Path) → IsPath p → fits limits p ≡ true
path_fits p h =
    both_hold (nat_le (depth p) 64) (nat_le (length (printed p)) 4096) (le-leb (depth p) 64 h.well_formed.few) (le-leb (length (printed p)) 4096 h.short)

-- what may be put together and is within the limits is a path
pub joined_fits : (target by p rest : Path) → IsPath by → IsPath p → (by ≡ [] → ⊥) → is_property by ≡ false → Some rest ≡ rest_after target p → fits limits (by ++ rest) ≡ true → IsPath (by ++ rest)
joined_fits target by p rest good whole below prim is within =
    let parts = both_parts (nat_le (depth (by ++ rest)) 64) (nat_le (length (printed (by ++ rest))) 4096) within in
    let few = leb-true (depth (by ++ rest)) 64 parts.0 in
    let short = leb-true (length (printed (by ++ rest))) 4096 parts.1 in
    joined_path target by p rest good whole is (may_follow by rest below prim) (omega (arith, few, depth_joined by rest)) (omega (arith, short, length_printed (by ++ rest)))
