-- World 103, by computing.
use Rattle.std.proofs.Common.{refl}
use Rattle.std.specs.Fmt.{digits}
use Rattle.composition.specs.Compose.{meaning}
use Rattle.composition_worlds.proofs.world_103.world_103.Goals as goal

pub returns : goal.returns
unfolding meaning digits
returns c = (refl, refl, refl)
