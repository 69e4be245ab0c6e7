-- World 116, by computing.
use Rattle.std.proofs.Common.{refl}
use Rattle.std.specs.Fmt.{digits}
use Rattle.composition.specs.Compose.{meaning}
use Rattle.prim_view.specs.Printing.{target_word}
use Rattle.composition_worlds.proofs.world_116.world_116.Goals as goal

pub returns : goal.returns
unfolding meaning digits target_word
returns c = (refl, refl, refl, refl, refl, refl, refl, refl, refl, refl, refl, refl, refl, refl, refl, refl, refl, refl, refl, refl, refl, refl, refl, refl, refl, refl, refl, refl, refl)
