-- By computing.
use Rattle.std.proofs.Common.{refl}
use Rattle.std.specs.Fmt.{digits}
use Rattle.composition.specs.Compose.{meaning}
use Rattle.composition.specs.Visits.{visits}
use Rattle.composition_worlds.proofs.loading.payloads_of_what_is_unloaded_are_passed_over.Goals as goal

pub returns-clause-upper : goal.returns-clause-upper
unfolding digits meaning visits
returns-clause-upper c = refl

pub returns-clause-lower : goal.returns-clause-lower
unfolding digits meaning visits
returns-clause-lower c = refl

pub returns-clause-no_fault : goal.returns-clause-no_fault
unfolding digits meaning visits
returns-clause-no_fault c = refl

pub returns-clause-asked : goal.returns-clause-asked
unfolding digits meaning visits
returns-clause-asked c = refl

pub returns-clause-not_asked : goal.returns-clause-not_asked
unfolding digits meaning visits
returns-clause-not_asked c = refl
