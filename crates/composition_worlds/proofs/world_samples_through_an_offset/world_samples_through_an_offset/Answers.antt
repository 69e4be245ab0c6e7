-- World samples_through_an_offset, by computing.
use Rattle.std.proofs.Common.{refl}
use Rattle.std.specs.Fmt.{digits}
use Rattle.composition.specs.Compose.{meaning}
use Rattle.composition_worlds.proofs.world_samples_through_an_offset.world_samples_through_an_offset.Goals as goal

pub returns : goal.returns
unfolding meaning digits
returns c = refl
