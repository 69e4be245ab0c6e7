use Rattle.layer_returns.proofs.Reached.{reached_specs_are_read}
use Rattle.layer_returns.proofs.laws.reached_specs_are_read.Goals as goal

pub returns : goal.returns
returns c = reached_specs_are_read
