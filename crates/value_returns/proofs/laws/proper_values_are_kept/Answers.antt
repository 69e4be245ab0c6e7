use Rattle.value_returns.proofs.Kept.{values_kept}
use Rattle.value_returns.proofs.laws.proper_values_are_kept.Goals as goal

pub returns : goal.returns
returns c = values_kept
