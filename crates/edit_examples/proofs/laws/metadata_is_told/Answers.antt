use Rattle.edit_examples.proofs.Metadata.{are_told}
use Rattle.edit_examples.proofs.laws.metadata_is_told.Goals as goal

pub returns : goal.returns
returns c = are_told
