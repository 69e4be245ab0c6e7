use Rattle.stage_examples.proofs.Replies.{are_told}
use Rattle.stage_examples.proofs.laws.replies_are_told.Goals as goal

pub returns : goal.returns
returns c = are_told
