use Rattle.spec_tables.proofs.Order.{none}
use Rattle.spec_tables.proofs.table.OrderedTable.new.Goals as goal

pub invariant_of-result : goal.invariant_of-result
invariant_of-result g c = (none g.K.Ord.cmp, tt)
