use Rattle.value_texts.proofs.ValueReads.{source_read}
use Rattle.value_texts.proofs.laws.sources_are_read.Goals as goal

pub returns : goal.returns
returns c = source_read
