use Rattle.value_returns.proofs.Kept.{metadata_kept}
use Rattle.value_returns.proofs.laws.proper_metadata_is_kept.Goals as goal

pub returns : goal.returns
returns c = metadata_kept
