-- By computing.
use Rattle.std.proofs.Common.{refl}
use Rattle.std.specs.Fmt.{digits}
use Rattle.composition.specs.Compose.{meaning}
use Rattle.composition_worlds.proofs.refused_arcs.offsets_compose_with_layers.Goals as goal

pub returns-clause-of_its_own_stack : goal.returns-clause-of_its_own_stack
unfolding digits meaning
returns-clause-of_its_own_stack c = refl

pub returns-clause-of_the_targets_stack : goal.returns-clause-of_the_targets_stack
unfolding digits meaning
returns-clause-of_the_targets_stack c = refl
