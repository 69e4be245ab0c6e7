use Rattle.properties_read.proofs.Targets.{targets_proper}
use Rattle.properties_read.proofs.laws.targets_are_proper.Goals as goal

pub returns : goal.returns
returns c = targets_proper
