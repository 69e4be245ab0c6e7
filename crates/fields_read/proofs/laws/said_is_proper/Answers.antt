use Rattle.fields_read.proofs.Proper.{said_proper}
use Rattle.fields_read.proofs.laws.said_is_proper.Goals as goal

pub returns : goal.returns
returns c = said_proper
