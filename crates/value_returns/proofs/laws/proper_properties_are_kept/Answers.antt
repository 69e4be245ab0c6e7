use Rattle.value_returns.proofs.Kept.{properties_kept}
use Rattle.value_returns.proofs.laws.proper_properties_are_kept.Goals as goal

pub returns : goal.returns
returns c = properties_kept
