use Rattle.edit_examples.proofs.Values.{are_told}
use Rattle.edit_examples.proofs.laws.values_are_told.Goals as goal

pub returns : goal.returns
returns c = are_told
