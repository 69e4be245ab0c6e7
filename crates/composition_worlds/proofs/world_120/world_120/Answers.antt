-- World 120, by computing.
use Rattle.std.proofs.Common.{refl}
use Rattle.std.specs.Fmt.{digits}
use Rattle.composition.specs.Compose.{meaning}
use Rattle.prim_view.specs.Printing.{target_word, time_word}
use Rattle.composition_worlds.proofs.world_120.world_120.Goals as goal

pub returns : goal.returns
unfolding meaning digits target_word time_word
returns c = (refl, refl, refl, refl, refl)
