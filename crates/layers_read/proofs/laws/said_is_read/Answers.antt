use Rattle.layers_read.proofs.Texts.{said_read}
use Rattle.layers_read.proofs.laws.said_is_read.Goals as goal

pub returns : goal.returns
returns c = said_read
