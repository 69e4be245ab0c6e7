use Rattle.value_texts.proofs.ValueReads.{dictionary_read}
use Rattle.value_texts.proofs.laws.dictionaries_are_read.Goals as goal

pub returns : goal.returns
returns c = dictionary_read
