use Rattle.layer_texts.proofs.Properties.{property_spelled}
use Rattle.layer_texts.proofs.laws.properties_are_spelled.Goals as goal

pub returns : goal.returns
returns c = property_spelled
