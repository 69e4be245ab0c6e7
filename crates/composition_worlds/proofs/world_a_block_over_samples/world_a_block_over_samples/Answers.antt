-- World a_block_over_samples, by computing.
use Rattle.std.proofs.Common.{refl}
use Rattle.std.specs.Fmt.{digits}
use Rattle.composition.specs.Compose.{meaning}
use Rattle.composition_worlds.proofs.world_a_block_over_samples.world_a_block_over_samples.Goals as goal

pub returns : goal.returns
unfolding meaning digits
returns c = refl
