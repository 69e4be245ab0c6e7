use Rattle.std.proofs.Common.{subst, ap, ◌∙◌}
use Rattle.spec_tables.specs.Tables.{IsTable}
use Rattle.shared_tables.specs.Rest.{head, entries_after}
use Rattle.shared_tables.proofs.Firsts.{past_key}
use Rattle.shared_tables.proofs.table.SharedTable.after.Goals as goal

pub returns : goal.returns
returns g c =
    let order : IsTable g.K.Ord.cmp c.args.self.now = subst (IsTable g.K.Ord.cmp) c.self.view_is c.self.invariant.0 in
    let first = c.first_after.ensures c.self.invariant.0 ∙ ap (λ es. head (entries_after g.K.Ord.cmp c.args.key.now es)) c.self.view_is in
    past_key g.met.K.Ord.total c.args.key.now c.args.self.now order _ first
