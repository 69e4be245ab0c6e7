use Rattle.layer_returns.proofs.Whole.{specs_are_the_layers}
use Rattle.layer_returns.proofs.laws.specs_are_the_layers.Goals as goal

pub returns : goal.returns
returns c = specs_are_the_layers
