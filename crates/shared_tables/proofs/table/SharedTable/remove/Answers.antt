use Rattle.std.proofs.Common.{is_some, sym, ap, ◌∙◌}
use Rattle.spec_tables.specs.Tables.{at_key}
use Rattle.shared_tables.proofs.Counts.{holds_without}
use Rattle.spec_tables.proofs.Splits.{without_absent}
use Rattle.shared_tables.proofs.table.SharedTable.remove.Goals as goal

pub invariant_of-self : goal.invariant_of-self
invariant_of-self g c =
    let there = ap (λ es. is_some (at_key g.K.Ord.cmp c.args.key.now es)) c.self.view_is ∙ sym c.has-there.ensures ∙ c.if-there.true in
    holds_without g.K.Ord.cmp c.args.key.now _ _ _ c.self.invariant.0 c.self.invariant.1 c.self.invariant.2 (c.in_ok-root.ensures c.self.invariant.0) there

pub returns-else-there-clause-ok : goal.returns-else-there-clause-ok
returns-else-there-clause-ok g c = sym (without_absent g.K.Ord.cmp c.args.key.now c.args.self.now (sym c.has-there.ensures ∙ c.if-there.false))
