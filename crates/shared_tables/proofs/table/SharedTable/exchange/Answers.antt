use Rattle.shared_tables.proofs.Exchanges.{holds_exchanged}
use Rattle.shared_tables.proofs.table.SharedTable.exchange.Goals as goal

pub invariant_of-self : goal.invariant_of-self
invariant_of-self g c =
    holds_exchanged g.K.Ord.cmp c.args.key.now c.args.value _ _ _ c.exchange.result c.self.invariant.0 c.self.invariant.1 c.self.invariant.2 c.exchange.ensures.ok c.exchange.ensures.err
