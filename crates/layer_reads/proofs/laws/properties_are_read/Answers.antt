use Rattle.layer_reads.proofs.Relationships.{property_read}
use Rattle.layer_reads.proofs.laws.properties_are_read.Goals as goal

pub returns : goal.returns
returns c = property_read
