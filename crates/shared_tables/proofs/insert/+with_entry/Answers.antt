use Rattle.std.proofs.Common.{refl, sym, subst}
use Rattle.spec_tables.specs.Tables.{IsTable, with_key}
use Rattle.shared_tables.specs.Trees.{entries}
use Rattle.shared_tables.proofs.Nodes.{tree_is, if_made, put_left, put_middle, put_right}
use Rattle.spec_tables.proofs.Order.{front, past}
use Rattle.spec_tables.proofs.Splits.{with_left, with_middle, with_right}
use Rattle.shared_tables.proofs.insert.+with_entry.Goals as goal

pub returns-in_ok-before-in-Less : goal.returns-in_ok-before-in-Less
returns-in_ok-before-in-Less g t c = λ s.
    let is = tree_is c.args.tree.now _ _ c.in-Some.is c.deref-node.ensures in
    let s' = subst (IsTable g.K.Ord.cmp) is s in
    let less = rw (c.key.ensures, c.key-in-Some.ensures) at (sym c.in-Less.ensures) in
    let whole = with_left g.met.K.Ord.total c.args.entry.0 _ _ _ s' c.args.entry.1 less in
    if_made (λ n. entries n.value) _ _ (put_left (with_key g.K.Ord.cmp c.args.entry.0 c.args.entry.1) _ _ _ _ is _ _ _ whole (c.in_ok-before-in-Less.ensures (front _ _ _ s')) refl refl) _ c.with_before.ensures

pub returns-in_ok-after-in-Equal : goal.returns-in_ok-after-in-Equal
returns-in_ok-after-in-Equal g t c = λ s.
    let is = tree_is c.args.tree.now _ _ c.in-Some.is c.deref-node.ensures in
    let s' = subst (IsTable g.K.Ord.cmp) is s in
    let equal = rw (c.key.ensures, c.key-in-Some.ensures) at (sym c.in-Equal.ensures) in
    let whole = with_middle g.met.K.Ord.total c.args.entry.0 _ _ _ s' c.args.entry.1 equal in
    let made = rw c.into_value.ensures at c.in_ok-middle-in-Equal.ensures in
    if_made (λ n. entries n.value) _ _ (put_middle (with_key g.K.Ord.cmp c.args.entry.0 c.args.entry.1) _ _ _ _ is _ _ _ _ whole c.in_ok-before-in-Equal.ensures made c.in_ok-after-in-Equal.ensures) _ c.joined-in-Equal.ensures

pub returns-in_ok-after-in-Greater : goal.returns-in_ok-after-in-Greater
returns-in_ok-after-in-Greater g t c = λ s.
    let is = tree_is c.args.tree.now _ _ c.in-Some.is c.deref-node.ensures in
    let s' = subst (IsTable g.K.Ord.cmp) is s in
    let greater = rw (c.key.ensures, c.key-in-Some.ensures) at (sym c.in-Greater.ensures) in
    let whole = with_right g.met.K.Ord.total c.args.entry.0 _ _ _ s' c.args.entry.1 greater in
    if_made (λ n. entries n.value) _ _ (put_right (with_key g.K.Ord.cmp c.args.entry.0 c.args.entry.1) _ _ _ _ is _ _ _ whole refl refl (c.in_ok-after-in-Greater.ensures (past _ _ _ _ s'))) _ c.with_after.ensures
