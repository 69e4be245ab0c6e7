-- World selections_of_an_ancestor, by computing.
use Rattle.std.proofs.Common.{refl}
use Rattle.std.specs.Fmt.{digits}
use Rattle.composition.specs.Compose.{meaning}
use Rattle.composition_worlds.proofs.world_selections_of_an_ancestor.world_selections_of_an_ancestor.Goals as goal

pub returns : goal.returns
unfolding meaning digits
returns c = refl
