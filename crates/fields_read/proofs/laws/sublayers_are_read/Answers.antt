use Rattle.fields_read.proofs.Proper.{sublayers_read}
use Rattle.fields_read.proofs.laws.sublayers_are_read.Goals as goal

pub returns : goal.returns
returns c = sublayers_read
