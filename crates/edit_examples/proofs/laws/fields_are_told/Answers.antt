use Rattle.edit_examples.proofs.Fields.{are_told}
use Rattle.edit_examples.proofs.laws.fields_are_told.Goals as goal

pub returns : goal.returns
returns c = are_told
