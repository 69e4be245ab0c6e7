use Rattle.text_examples.proofs.Lists.{are_told}
use Rattle.text_examples.proofs.laws.lists_are_told.Goals as goal

pub returns : goal.returns
returns c = are_told
