use Rattle.stage_examples.proofs.Questions.{are_told}
use Rattle.stage_examples.proofs.laws.questions_are_answered.Goals as goal

pub returns : goal.returns
returns c = are_told
