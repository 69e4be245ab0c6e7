use Rattle.path_returns.proofs.Returns.{value_paths_return}
use Rattle.path_returns.proofs.laws.value_paths_return.Goals as goal

pub returns : goal.returns
returns c = value_paths_return
