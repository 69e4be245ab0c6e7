use Rattle.layer_returns.proofs.Owners.{owners_say}
use Rattle.layer_returns.proofs.laws.owners_say_their_specs.Goals as goal

pub returns : goal.returns
returns c = owners_say
