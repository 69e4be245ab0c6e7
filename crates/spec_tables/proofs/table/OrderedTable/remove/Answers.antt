use Rattle.std.proofs.Common.{subst, sym}
use Rattle.spec_tables.specs.Tables.{IsTable}
use Rattle.spec_tables.proofs.Order.{table_without}
use Rattle.spec_tables.proofs.table.OrderedTable.remove.Goals as goal

pub invariant_of-self : goal.invariant_of-self
invariant_of-self g c =
    (subst (IsTable g.K.Ord.cmp) (sym c.take.ensures.removed) (table_without g.K.Ord.cmp c.args.key.now _ c.self.invariant.0), c.take.ensures.few)
