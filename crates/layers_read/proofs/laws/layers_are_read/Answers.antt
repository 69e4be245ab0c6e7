use Rattle.layers_read.proofs.Layers.{layers_read}
use Rattle.layers_read.proofs.laws.layers_are_read.Goals as goal

pub returns : goal.returns
returns c = layers_read
