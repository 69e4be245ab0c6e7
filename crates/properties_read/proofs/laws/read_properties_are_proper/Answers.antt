use Rattle.properties_read.proofs.Properties.{properties_read}
use Rattle.properties_read.proofs.laws.read_properties_are_proper.Goals as goal

pub returns : goal.returns
returns c = properties_read
