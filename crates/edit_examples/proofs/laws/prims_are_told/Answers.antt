use Rattle.edit_examples.proofs.Prims.{are_told}
use Rattle.edit_examples.proofs.laws.prims_are_told.Goals as goal

pub returns : goal.returns
returns c = are_told
