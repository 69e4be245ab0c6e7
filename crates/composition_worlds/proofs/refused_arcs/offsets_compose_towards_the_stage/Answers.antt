-- By computing.
use Rattle.std.proofs.Common.{refl}
use Rattle.std.specs.Fmt.{digits}
use Rattle.composition.specs.Compose.{meaning}
use Rattle.composition_worlds.proofs.refused_arcs.offsets_compose_towards_the_stage.Goals as goal

pub returns-clause-scale : goal.returns-clause-scale
unfolding digits meaning
returns-clause-scale c = refl

pub returns-clause-in_range : goal.returns-clause-in_range
unfolding digits meaning
returns-clause-in_range c = refl

pub returns-clause-offset : goal.returns-clause-offset
unfolding digits meaning
returns-clause-offset c = refl

pub returns-clause-at_the_limit : goal.returns-clause-at_the_limit
unfolding digits meaning
returns-clause-at_the_limit c = refl
