use Rattle.properties_read.proofs.Aims.{values_aimed}
use Rattle.properties_read.proofs.laws.values_are_aimed.Goals as goal

pub returns : goal.returns
returns c = values_aimed
