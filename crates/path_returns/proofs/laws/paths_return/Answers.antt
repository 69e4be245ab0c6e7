use Rattle.path_returns.proofs.Returns.{paths_return}
use Rattle.path_returns.proofs.laws.paths_return.Goals as goal

pub returns : goal.returns
returns c = paths_return
