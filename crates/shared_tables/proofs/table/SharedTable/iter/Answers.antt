use Rattle.std.proofs.Common.{◌<◌, ◌^◌, List, length, subst, ap, ◌∙◌, arith}
use Rattle.std.specs.Map.Iter.{deref_pair}
use Rattle.spec_tables.proofs.Runs.{shows_in_order}
use Rattle.spec_tables.specs.Tables.{IsTable}
use Rattle.shared_tables.specs.Rest.{head}
use Rattle.shared_tables.specs.Trees.{link_entries}
use Rattle.shared_tables.proofs.Firsts.{from_start}
use Rattle.shared_tables.proofs.table.SharedTable.iter.Goals as goal

pub returns : goal.returns
returns g c =
    let order : IsTable g.K.Ord.cmp c.args.self.now = subst (IsTable g.K.Ord.cmp) c.self.view_is c.self.invariant.0 in
    let short : length (link_entries c.self.inside.root) < 2 ^ 63 = omega (arith, c.self.invariant.1, c.self.invariant.2) in
    let bound = subst (λ (es : List (g.row.K.Denot × g.row.V.Denot)). length es < 2 ^ 63) c.self.view_is short in
    record {
      rest = from_start g.met.K.Ord.total c.args.self.now order _ (c.first.ensures ∙ ap head c.self.view_is);
      runs = shows_in_order deref_pair;
      order = order;
      bound = bound;
    }
