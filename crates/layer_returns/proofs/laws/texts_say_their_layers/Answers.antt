use Rattle.layer_returns.proofs.Texts.{texts_say_their_layers}
use Rattle.layer_returns.proofs.laws.texts_say_their_layers.Goals as goal

pub returns : goal.returns
returns c = texts_say_their_layers
