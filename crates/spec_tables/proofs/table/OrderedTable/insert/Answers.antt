use Rattle.std.proofs.Common.{subst, sym}
use Rattle.spec_tables.specs.Tables.{IsTable}
use Rattle.spec_tables.proofs.Moves.{table_put}
use Rattle.spec_tables.proofs.table.OrderedTable.insert.Goals as goal

pub invariant_of-self-2 : goal.invariant_of-self-2
invariant_of-self-2 g c =
    let order = subst (IsTable g.K.Ord.cmp) (sym c.make_room.ensures.same) c.self.invariant.0 in
    (table_put g.met.K.Ord.total c.args.key c.args.value _ _ c.put.result order c.put.ensures.ok c.put.ensures.err, c.put.ensures.few)
