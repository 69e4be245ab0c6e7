use Rattle.std.proofs.Common.{Some, sym, ap, subst, ◌∙◌}
use Rattle.spec_tables.specs.Tables.{IsTable, at_key}
use Rattle.shared_tables.proofs.Nodes.{tree_is}
use Rattle.spec_tables.proofs.Order.{front, past}
use Rattle.spec_tables.proofs.Splits.{at_left, at_middle, at_right}
use Rattle.shared_tables.proofs.search.+found.Goals as goal

pub returns-in-Less : goal.returns-in-Less
returns-in-Less g t c = λ s.
    let is = tree_is c.args.tree.now _ _ c.in-Some.is c.deref-node.ensures in
    let s' = subst (IsTable g.K.Ord.cmp) is s in
    let less = sym c.in-Less.ensures in
    c.found.ensures (front _ _ _ s') ∙ sym (at_left g.met.K.Ord.total c.args.key.now _ _ _ s' (rw c.key.ensures at less)) ∙ ap (at_key g.K.Ord.cmp c.args.key.now) (sym is)

pub returns-in-Equal : goal.returns-in-Equal
returns-in-Equal g t c = λ s.
    let is = tree_is c.args.tree.now _ _ c.in-Some.is c.deref-node.ensures in
    let s' = subst (IsTable g.K.Ord.cmp) is s in
    let equal = sym c.in-Equal.ensures in
    ap Some c.value.ensures ∙ sym (at_middle g.met.K.Ord.total c.args.key.now _ _ _ s' (rw c.key.ensures at equal)) ∙ ap (at_key g.K.Ord.cmp c.args.key.now) (sym is)

pub returns-in-Greater : goal.returns-in-Greater
returns-in-Greater g t c = λ s.
    let is = tree_is c.args.tree.now _ _ c.in-Some.is c.deref-node.ensures in
    let s' = subst (IsTable g.K.Ord.cmp) is s in
    let greater = sym c.in-Greater.ensures in
    c.found-in-Greater.ensures (past _ _ _ _ s') ∙ sym (at_right g.met.K.Ord.total c.args.key.now _ _ _ s' (rw c.key.ensures at greater)) ∙ ap (at_key g.K.Ord.cmp c.args.key.now) (sym is)
