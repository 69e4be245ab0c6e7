use Rattle.properties_read.proofs.Aiming.{steps_aimed}
use Rattle.properties_read.proofs.laws.steps_keep_aims.Goals as goal

pub returns : goal.returns
returns c = steps_aimed
