-- World selection_in_a_variant, by computing.
use Rattle.std.proofs.Common.{refl}
use Rattle.std.specs.Fmt.{digits}
use Rattle.composition.specs.Compose.{meaning}
use Rattle.composition_worlds.proofs.world_selection_in_a_variant.world_selection_in_a_variant.Goals as goal

pub returns : goal.returns
unfolding meaning digits
returns c = refl
