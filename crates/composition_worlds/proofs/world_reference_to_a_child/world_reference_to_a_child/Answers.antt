-- World reference_to_a_child, by computing.
use Rattle.std.proofs.Common.{refl}
use Rattle.std.specs.Fmt.{digits}
use Rattle.composition.specs.Compose.{meaning}
use Rattle.composition_worlds.proofs.world_reference_to_a_child.world_reference_to_a_child.Goals as goal

pub returns : goal.returns
unfolding meaning digits
returns c = (refl, refl)
