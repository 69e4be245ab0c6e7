use Rattle.text_examples.proofs.Refusals.{are_told}
use Rattle.text_examples.proofs.laws.refusals_are_told.Goals as goal

pub returns : goal.returns
returns c = are_told
