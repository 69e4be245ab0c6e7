use Rattle.layer_returns.proofs.Layers.{texts_taken}
use Rattle.layer_returns.proofs.laws.texts_are_taken.Goals as goal

pub returns : goal.returns
returns c = texts_taken
