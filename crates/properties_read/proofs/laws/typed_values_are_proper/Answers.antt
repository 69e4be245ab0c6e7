use Rattle.properties_read.proofs.Values.{typed_proper}
use Rattle.properties_read.proofs.laws.typed_values_are_proper.Goals as goal

pub returns : goal.returns
returns c = typed_proper
