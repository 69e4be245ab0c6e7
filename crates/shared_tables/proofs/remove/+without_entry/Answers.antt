use Rattle.std.proofs.Common.{refl, sym, subst, ap, ◌∙◌}
use Rattle.spec_tables.specs.Tables.{IsTable, without_key}
use Rattle.shared_tables.specs.Trees.{link_entries}
use Rattle.shared_tables.proofs.Nodes.{tree_is, if_made, put_left, put_right}
use Rattle.spec_tables.proofs.Order.{front, past}
use Rattle.spec_tables.proofs.Splits.{without_left, without_middle, without_right}
use Rattle.shared_tables.proofs.remove.+without_entry.Goals as goal

pub returns-in_ok-tree-in-Less : goal.returns-in_ok-tree-in-Less
returns-in_ok-tree-in-Less g t c = λ s.
    let is = tree_is c.args.tree.now _ _ c.in-Some.is c.deref-node.ensures in
    let s' = subst (IsTable g.K.Ord.cmp) is s in
    let less = rw c.key.ensures at (sym c.in-Less.ensures) in
    let whole = without_left g.met.K.Ord.total c.args.key.now _ _ _ s' less in
    c.in_ok-tree-in-Less.ensures ∙ put_left (without_key g.K.Ord.cmp c.args.key.now) _ _ _ _ is _ _ _ whole (c.in_ok-before-in-Less.ensures (front _ _ _ s')) refl refl

pub returns-in-Equal : goal.returns-in-Equal
returns-in-Equal g t c = λ s.
    let is = tree_is c.args.tree.now _ _ c.in-Some.is c.deref-node.ensures in
    let s' = subst (IsTable g.K.Ord.cmp) is s in
    let equal = rw c.key.ensures at (sym c.in-Equal.ensures) in
    let whole = without_middle g.met.K.Ord.total c.args.key.now _ _ _ s' equal in
    if_made link_entries _ _ (sym whole ∙ ap (without_key g.K.Ord.cmp c.args.key.now) (sym is)) _ c.together.ensures

pub returns-in_ok-tree-in-Greater : goal.returns-in_ok-tree-in-Greater
returns-in_ok-tree-in-Greater g t c = λ s.
    let is = tree_is c.args.tree.now _ _ c.in-Some.is c.deref-node.ensures in
    let s' = subst (IsTable g.K.Ord.cmp) is s in
    let greater = rw c.key.ensures at (sym c.in-Greater.ensures) in
    let whole = without_right g.met.K.Ord.total c.args.key.now _ _ _ s' greater in
    c.in_ok-tree-in-Greater.ensures ∙ put_right (without_key g.K.Ord.cmp c.args.key.now) _ _ _ _ is _ _ _ whole refl refl (c.in_ok-after-in-Greater.ensures (past _ _ _ _ s'))
