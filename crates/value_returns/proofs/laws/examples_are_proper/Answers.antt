use Rattle.value_returns.proofs.Examples.{examples_proper}
use Rattle.value_returns.proofs.laws.examples_are_proper.Goals as goal

pub returns : goal.returns
returns c = examples_proper
