-- World targets_through_a_reference, by computing.
use Rattle.std.proofs.Common.{refl}
use Rattle.std.specs.Fmt.{digits}
use Rattle.composition.specs.Compose.{meaning}
use Rattle.prim_view.specs.Printing.{target_word}
use Rattle.composition_worlds.proofs.world_targets_through_a_reference.world_targets_through_a_reference.Goals as goal

pub returns : goal.returns
unfolding meaning digits target_word
returns c = refl
