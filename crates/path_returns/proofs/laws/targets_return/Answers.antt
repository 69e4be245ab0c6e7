use Rattle.path_returns.proofs.Returns.{targets_return}
use Rattle.path_returns.proofs.laws.targets_return.Goals as goal

pub returns : goal.returns
returns c = targets_return
