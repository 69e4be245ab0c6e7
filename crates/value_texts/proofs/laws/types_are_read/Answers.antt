use Rattle.value_texts.proofs.TypesRead.{types_read}
use Rattle.value_texts.proofs.laws.types_are_read.Goals as goal

pub returns : goal.returns
returns c = types_read
