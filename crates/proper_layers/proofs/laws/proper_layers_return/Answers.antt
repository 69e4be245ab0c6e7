use Rattle.proper_layers.proofs.Returns.{proper_layers_return}
use Rattle.proper_layers.proofs.laws.proper_layers_return.Goals as goal

pub returns : goal.returns
returns c = proper_layers_return
