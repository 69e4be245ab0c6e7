-- By computing.
use Rattle.std.proofs.Common.{refl}
use Rattle.std.specs.Fmt.{digits}
use Rattle.composition.specs.Compose.{meaning}
use Rattle.composition_worlds.proofs.loading.payloads_are_followed_without_rules.Goals as goal

pub returns-clause-upper : goal.returns-clause-upper
unfolding digits meaning
returns-clause-upper c = refl

pub returns-clause-lower : goal.returns-clause-lower
unfolding digits meaning
returns-clause-lower c = refl

pub returns-clause-missing : goal.returns-clause-missing
unfolding digits meaning
returns-clause-missing c = refl
