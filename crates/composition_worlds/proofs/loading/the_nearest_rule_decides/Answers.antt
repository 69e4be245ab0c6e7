-- By computing.
use Rattle.std.proofs.Common.{refl}
use Rattle.std.specs.Fmt.{digits}
use Rattle.composition.specs.Compose.{meaning}
use Rattle.composition_worlds.proofs.loading.the_nearest_rule_decides.Goals as goal

pub returns-clause-upper : goal.returns-clause-upper
unfolding digits meaning
returns-clause-upper c = refl

pub returns-clause-lower : goal.returns-clause-lower
unfolding digits meaning
returns-clause-lower c = refl

pub returns-clause-brought : goal.returns-clause-brought
unfolding digits meaning
returns-clause-brought c = refl

pub returns-clause-other_way : goal.returns-clause-other_way
unfolding digits meaning
returns-clause-other_way c = refl
