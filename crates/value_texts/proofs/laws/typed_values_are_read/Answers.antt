use Rattle.value_texts.proofs.TypedReads.{typed_read}
use Rattle.value_texts.proofs.laws.typed_values_are_read.Goals as goal

pub returns : goal.returns
returns c = typed_read
