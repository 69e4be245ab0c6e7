use Rattle.std.proofs.Common.{Some, refl, sym, ap, subst, ◌∙◌}
use Rattle.std.specs.Ordering.{is_lt}
use Rattle.spec_tables.specs.Tables.{IsTable}
use Rattle.shared_tables.proofs.Firsts.{first_at, first_less, first_past}
use Rattle.shared_tables.proofs.Nodes.{tree_is}
use Rattle.spec_tables.proofs.Order.{front, past, before_equal, before_greater}
use Rattle.shared_tables.proofs.search.+first_after.Goals as goal

pub returns-in-None-first_after : goal.returns-in-None-first_after
returns-in-None-first_after g t c = λ s.
    let is = tree_is c.args.tree.now _ _ c.in-Some.is c.deref-node.ensures in
    let s' = subst (IsTable g.K.Ord.cmp) is s in
    let less = rw c.key.ensures at (sym c.in-Less.ensures) in
    ap Some c.pair.ensures ∙ first_at g.K.Ord.cmp c.args.key.now is_lt _ _ _ _ is (ap is_lt less) (c.in-None-first_after.ensures (front _ _ _ s'))

pub returns-in-Some-first_after : goal.returns-in-Some-first_after
returns-in-Some-first_after g t c = λ s.
    let is = tree_is c.args.tree.now _ _ c.in-Some.is c.deref-node.ensures in
    let s' = subst (IsTable g.K.Ord.cmp) is s in
    let less = rw c.key.ensures at (sym c.in-Less.ensures) in
    first_less g.K.Ord.cmp c.args.key.now is_lt _ _ _ _ is (ap is_lt less) _ (c.in-Some-first_after.ensures (front _ _ _ s'))

pub returns-in-Equal : goal.returns-in-Equal
returns-in-Equal g t c = λ s.
    let is = tree_is c.args.tree.now _ _ c.in-Some.is c.deref-node.ensures in
    let s' = subst (IsTable g.K.Ord.cmp) is s in
    let equal = rw c.key.ensures at (sym c.in-Equal.ensures) in
    let before = before_equal g.met.K.Ord.total c.args.key.now _ _ _ s' equal in
    c.first_after-in-Equal.ensures (past _ _ _ _ s') ∙ first_past g.K.Ord.cmp c.args.key.now is_lt _ _ _ _ is refl before (ap is_lt equal)

pub returns-in-Greater : goal.returns-in-Greater
returns-in-Greater g t c = λ s.
    let is = tree_is c.args.tree.now _ _ c.in-Some.is c.deref-node.ensures in
    let s' = subst (IsTable g.K.Ord.cmp) is s in
    let greater = rw c.key.ensures at (sym c.in-Greater.ensures) in
    let before = before_greater g.met.K.Ord.total c.args.key.now _ _ _ s' greater in
    c.first_after-in-Greater.ensures (past _ _ _ _ s') ∙ first_past g.K.Ord.cmp c.args.key.now is_lt _ _ _ _ is refl before (ap is_lt greater)
