use Rattle.spec_tables.proofs.Moves.{table_exchanged}
use Rattle.spec_tables.proofs.table.OrderedTable.replace.Goals as goal

pub invariant_of-self : goal.invariant_of-self
invariant_of-self g c =
    (table_exchanged g.met.K.Ord.total c.args.key.now c.args.value _ _ c.exchange.result c.self.invariant.0 c.exchange.ensures.ok c.exchange.ensures.err, c.exchange.ensures.few)
