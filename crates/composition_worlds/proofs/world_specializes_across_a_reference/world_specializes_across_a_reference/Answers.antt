-- World specializes_across_a_reference, by computing.
use Rattle.std.proofs.Common.{refl}
use Rattle.std.specs.Fmt.{digits}
use Rattle.composition.specs.Compose.{meaning}
use Rattle.composition_worlds.proofs.world_specializes_across_a_reference.world_specializes_across_a_reference.Goals as goal

pub returns : goal.returns
unfolding meaning digits
returns c = refl
