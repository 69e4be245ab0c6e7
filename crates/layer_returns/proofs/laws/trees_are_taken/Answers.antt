use Rattle.layer_returns.proofs.Trees.{body_read, roots_read}
use Rattle.layer_returns.proofs.laws.trees_are_taken.Goals as goal

pub returns : goal.returns
returns c = record { bodies = body_read; roots = roots_read }
