use Rattle.std.proofs.Common.{subst}
use Rattle.spec_tables.specs.Tables.{IsTable}
use Rattle.shared_tables.proofs.Counts.{holds_with}
use Rattle.shared_tables.proofs.table.SharedTable.insert.Goals as goal

pub invariant_of-self : goal.invariant_of-self
invariant_of-self g c =
    let order = subst (IsTable g.K.Ord.cmp) c.self.view_is c.self.invariant.0 in
    let made = rw (c.in_ok-entry.ensures, c.self.view_is) at (c.in_ok-root.ensures c.self.invariant.0) in
    holds_with g.met.K.Ord.total c.args.key c.args.value c.args.self.now _ _ order made c.in_ok-len.ensures.count c.in_ok-len.ensures.bound

pub returns-clause-ok : goal.returns-clause-ok
returns-clause-ok g c = rw (c.in_ok-entry.ensures, c.self.view_is) at (c.in_ok-root.ensures c.self.invariant.0)
