use Rattle.layer_returns.proofs.Theorem.{layers_come_back}
use Rattle.layer_returns.proofs.laws.layers_come_back.Goals as goal

pub returns : goal.returns
returns c = layers_come_back
