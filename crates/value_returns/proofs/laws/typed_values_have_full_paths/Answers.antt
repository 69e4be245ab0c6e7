use Rattle.value_returns.proofs.Typed.{typed_full}
use Rattle.value_returns.proofs.laws.typed_values_have_full_paths.Goals as goal

pub returns : goal.returns
returns c = typed_full
