use Rattle.stage_questions.specs.Answers.{flat_text}
use Rattle.stage_session.proofs.flat.edition_text.Goals as goal

pub returns : goal.returns
unfolding flat_text
returns c = rw c.view.ensures at c.flatten_text.ensures
