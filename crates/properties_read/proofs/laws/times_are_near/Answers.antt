use Rattle.properties_read.proofs.Values.{times_near}
use Rattle.properties_read.proofs.laws.times_are_near.Goals as goal

pub returns : goal.returns
returns c = times_near
