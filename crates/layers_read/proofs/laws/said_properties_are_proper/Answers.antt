use Rattle.layers_read.proofs.Properties.{properties_read}
use Rattle.layers_read.proofs.laws.said_properties_are_proper.Goals as goal

pub returns : goal.returns
returns c = properties_read
