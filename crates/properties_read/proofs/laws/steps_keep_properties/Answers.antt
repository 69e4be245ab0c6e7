use Rattle.properties_read.proofs.Steps.{steps_keep}
use Rattle.properties_read.proofs.laws.steps_keep_properties.Goals as goal

pub returns : goal.returns
returns c = steps_keep
