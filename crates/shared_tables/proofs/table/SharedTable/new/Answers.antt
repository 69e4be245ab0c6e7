use Rattle.std.proofs.Common.{refl, arith}
use Rattle.spec_tables.proofs.Order.{none}
use Rattle.shared_tables.proofs.table.SharedTable.new.Goals as goal

pub invariant_of-result : goal.invariant_of-result
invariant_of-result g c = (none g.K.Ord.cmp, refl, omega arith)
