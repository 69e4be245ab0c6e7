use Rattle.value_returns.proofs.HeadKeys.{head_keys_kept}
use Rattle.value_returns.proofs.laws.proper_head_keys_are_kept.Goals as goal

pub returns : goal.returns
returns c = head_keys_kept
