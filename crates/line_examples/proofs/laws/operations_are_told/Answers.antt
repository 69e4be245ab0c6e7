use Rattle.line_examples.proofs.Operations.{are_told}
use Rattle.line_examples.proofs.laws.operations_are_told.Goals as goal

pub returns : goal.returns
returns c = are_told
