-- World a_reference_to_itself, by computing.
use Rattle.std.proofs.Common.{refl}
use Rattle.std.specs.Fmt.{digits}
use Rattle.composition.specs.Compose.{meaning}
use Rattle.composition_worlds.proofs.world_a_reference_to_itself.world_a_reference_to_itself.Goals as goal

pub returns : goal.returns
unfolding meaning digits
returns c = refl
