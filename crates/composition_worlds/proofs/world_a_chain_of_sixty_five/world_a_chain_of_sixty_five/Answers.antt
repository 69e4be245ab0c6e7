-- World a_chain_of_sixty_five, by computing.
use Rattle.std.proofs.Common.{refl}
use Rattle.std.specs.Fmt.{digits}
use Rattle.composition.specs.Compose.{meaning}
use Rattle.composition_worlds.proofs.world_a_chain_of_sixty_five.world_a_chain_of_sixty_five.Goals as goal

pub returns : goal.returns
unfolding meaning digits
returns c = (refl, refl)
