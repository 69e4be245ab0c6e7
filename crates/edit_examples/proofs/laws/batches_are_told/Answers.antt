use Rattle.edit_examples.proofs.Batches.{are_told}
use Rattle.edit_examples.proofs.laws.batches_are_told.Goals as goal

pub returns : goal.returns
returns c = are_told
