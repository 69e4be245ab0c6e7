use Rattle.proper_layers.proofs.Examples.{proper_examples}
use Rattle.proper_layers.proofs.laws.proper_examples_hold.Goals as goal

pub returns : goal.returns
returns c = proper_examples
