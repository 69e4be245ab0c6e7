use Rattle.value_returns.proofs.Typed.{shallow}
use Rattle.value_returns.proofs.laws.typed_values_are_shallow.Goals as goal

pub returns : goal.returns
returns c = shallow
