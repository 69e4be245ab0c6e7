use Rattle.std.proofs.Common.{◌<◌, ◌^◌, List, length, sym, subst, ap, ◌∙◌, arith}
use Rattle.std.specs.Map.Iter.{deref_pair}
use Rattle.std.specs.Ordering.{is_le}
use Rattle.spec_tables.proofs.Runs.{shows_in_order}
use Rattle.spec_tables.specs.Tables.{IsTable, entries_from}
use Rattle.shared_tables.specs.Rest.{head}
use Rattle.shared_tables.specs.Trees.{link_entries}
use Rattle.shared_tables.proofs.Counts.{length_filter}
use Rattle.shared_tables.proofs.Firsts.{from_key}
use Rattle.shared_tables.proofs.table.SharedTable.iter_from.Goals as goal

pub returns : goal.returns
returns g c =
    let order : IsTable g.K.Ord.cmp c.args.self.now = subst (IsTable g.K.Ord.cmp) c.self.view_is c.self.invariant.0 in
    let first = c.first_from.ensures c.self.invariant.0 ∙ ap (λ es. head (entries_from g.K.Ord.cmp c.args.key.now es)) c.self.view_is in
    let rest = from_key g.met.K.Ord.total c.args.key.now c.args.self.now order _ first in
    let few = length_filter (λ (e : g.row.K.Denot × g.row.V.Denot). is_le (g.K.Ord.cmp c.args.key.now e.0)) c.args.self.now in
    let short : length (link_entries c.self.inside.root) < 2 ^ 63 = omega (arith, c.self.invariant.1, c.self.invariant.2) in
    let bound = subst (λ (es : List (g.row.K.Denot × g.row.V.Denot)). length es < 2 ^ 63) c.self.view_is short in
    record {
      rest = rest;
      runs = shows_in_order deref_pair;
      order = order;
      bound = subst (λ (es : List (g.row.K.Denot × g.row.V.Denot)). length es < 2 ^ 63) (sym rest) (omega (arith, few, bound));
    }
