use Rattle.value_returns.proofs.Printed.{prints_full}
use Rattle.value_returns.proofs.laws.prints_are_full.Goals as goal

pub returns : goal.returns
returns c = prints_full
