use Rattle.line_examples.proofs.Lines.{are_told}
use Rattle.line_examples.proofs.laws.lines_are_told.Goals as goal

pub returns : goal.returns
returns c = are_told
