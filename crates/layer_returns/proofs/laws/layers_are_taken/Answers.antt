use Rattle.layer_returns.proofs.Layers.{layers_taken}
use Rattle.layer_returns.proofs.laws.layers_are_taken.Goals as goal

pub returns : goal.returns
returns c = layers_taken
