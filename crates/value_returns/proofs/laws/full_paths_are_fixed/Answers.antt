use Rattle.value_returns.proofs.Fixed.{full_paths_fixed}
use Rattle.value_returns.proofs.laws.full_paths_are_fixed.Goals as goal

pub returns : goal.returns
returns c = full_paths_fixed
