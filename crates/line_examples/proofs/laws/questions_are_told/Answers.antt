use Rattle.line_examples.proofs.Questions.{are_told}
use Rattle.line_examples.proofs.laws.questions_are_told.Goals as goal

pub returns : goal.returns
returns c = are_told
