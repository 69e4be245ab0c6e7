use Rattle.std.proofs.Common.{ap, ◌∙◌}
use Rattle.dependency_table.specs.Tables.{is_noted, marked}
use Rattle.dependency_table.proofs.Marked.{marked_by_noted}
use Rattle.dependency_table.proofs.table.Table.marked_by.Goals as goal

pub returns-clause-places : goal.returns-clause-places
returns-clause-places g c = let P = g.P.Ord.cmp in let K = g.K.Ord.cmp in let fields = c.self.inside in let keys = c.args.keys.now in let found = c.in_ok-places.places in
    marked_by_noted P K g.met.P.Ord.total g.met.P.ExactOrd.tie_is_same (is_noted P K fields.readers) fields.reads.entries keys found.items c.self.invariant c.len.ensures.ordered c.in_ok-places.ensures.order c.in_ok-places.ensures.found
    ∙ ap (λ t. marked K t keys) c.self.view_is
