use Rattle.value_texts.proofs.ValueReads.{value_read}
use Rattle.value_texts.proofs.laws.values_are_read.Goals as goal

pub returns : goal.returns
returns c = value_read
