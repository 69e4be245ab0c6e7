use Rattle.layer_returns.proofs.Examples.{examples_come_back}
use Rattle.layer_returns.proofs.laws.examples_come_back.Goals as goal

pub returns : goal.returns
returns c = examples_come_back
