use Rattle.properties_read.proofs.Owners.{owners_read}
use Rattle.properties_read.proofs.laws.owners_are_read.Goals as goal

pub returns : goal.returns
returns c = owners_read
