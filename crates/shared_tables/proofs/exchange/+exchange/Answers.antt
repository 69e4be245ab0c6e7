use Rattle.std.proofs.Common.{refl, sym, ap, subst, ◌∙◌, Some}
use Rattle.std.proofs.lemmas.Result.{on_ok_weaker, on_err_weaker}
use Rattle.spec_tables.specs.Tables.{IsTable, at_key, with_value}
use Rattle.shared_tables.specs.Trees.{link_entries}
use Rattle.shared_tables.specs.declared.node.Node.{out-Node}
use Rattle.shared_tables.proofs.Exchanges.{tree_parts, lent, same_entries, any_err, failed, answered}
use Rattle.shared_tables.proofs.Nodes.{if_made, put_left, put_middle, put_right}
use Rattle.spec_tables.proofs.Order.{front, past}
use Rattle.spec_tables.proofs.Splits.{at_left, at_middle, at_right, value_left, value_middle, value_right}
use Rattle.shared_tables.proofs.exchange.+exchange.Goals as goal

pub returns-in_err-node-in-Some-clause-err : goal.returns-in_err-node-in-Some-clause-err
returns-in_err-node-in-Some-clause-err g t c =
    any_err c.from_residual.result (same_entries _ _ (failed _ _ c.in_err-node-in-Some.was c.make_mut.follows.holds-at-none) ∙ sym (ap link_entries c.in-Some.is))

pub returns-in-Less-clause-err : goal.returns-in-Less-clause-err
returns-in-Less-clause-err g t c =
    let is = tree_parts c.args.tree.now _ _ c.in-Some.is c.in_ok-node-in-Some.ensures.value in
    on_err_weaker c.exchange.result (λ kept. lent _ (out-Node _ _ c.in_ok-node-in-Some.node.now).entry (out-Node _ _ c.in_ok-node-in-Some.node.now).height c.exchange.new.tree (out-Node _ _ c.in_ok-node-in-Some.node.now).after (c.make_mut.follows.holds _ (answered _ _ c.in_ok-node-in-Some.was)) ∙ (put_left (λ es. es) _ _ _ _ is _ _ _ refl kept refl refl)) c.exchange.ensures.err

pub returns-in-Less-clause-ok : goal.returns-in-Less-clause-ok
returns-in-Less-clause-ok g t c = λ s.
    let is = tree_parts c.args.tree.now _ _ c.in-Some.is c.in_ok-node-in-Some.ensures.value in
    let s' = subst (IsTable g.K.Ord.cmp) is s in
    let whole = value_left g.met.K.Ord.total c.args.key.now _ _ _ s' c.args.value (rw c.key.ensures at (sym c.in-Less.ensures)) in
    on_ok_weaker c.exchange.result (λ kept. lent _ (out-Node _ _ c.in_ok-node-in-Some.node.now).entry (out-Node _ _ c.in_ok-node-in-Some.node.now).height c.exchange.new.tree (out-Node _ _ c.in_ok-node-in-Some.node.now).after (c.make_mut.follows.holds _ (answered _ _ c.in_ok-node-in-Some.was)) ∙ (put_left (with_value g.K.Ord.cmp c.args.key.now c.args.value) _ _ _ _ is _ _ _ whole kept refl refl)) (c.exchange.ensures.ok (front _ _ _ s'))

pub returns-in-Less-clause-before : goal.returns-in-Less-clause-before
returns-in-Less-clause-before g t c = λ s.
    let is = tree_parts c.args.tree.now _ _ c.in-Some.is c.in_ok-node-in-Some.ensures.value in
    let s' = subst (IsTable g.K.Ord.cmp) is s in
    let found = at_left g.met.K.Ord.total c.args.key.now _ _ _ s' (rw c.key.ensures at (sym c.in-Less.ensures)) in
    if_made (λ b. b) _ _ (sym found ∙ ap (at_key g.K.Ord.cmp c.args.key.now) (sym is)) c.exchange.result (c.exchange.ensures.before (front _ _ _ s'))

pub returns-in-Greater-clause-err : goal.returns-in-Greater-clause-err
returns-in-Greater-clause-err g t c =
    let is = tree_parts c.args.tree.now _ _ c.in-Some.is c.in_ok-node-in-Some.ensures.value in
    on_err_weaker c.exchange-in-Greater.result (λ kept. lent _ (out-Node _ _ c.in_ok-node-in-Some.node.now).entry (out-Node _ _ c.in_ok-node-in-Some.node.now).height (out-Node _ _ c.in_ok-node-in-Some.node.now).before c.exchange-in-Greater.new.tree (c.make_mut.follows.holds _ (answered _ _ c.in_ok-node-in-Some.was)) ∙ (put_right (λ es. es) _ _ _ _ is _ _ _ refl refl refl kept)) c.exchange-in-Greater.ensures.err

pub returns-in-Greater-clause-ok : goal.returns-in-Greater-clause-ok
returns-in-Greater-clause-ok g t c = λ s.
    let is = tree_parts c.args.tree.now _ _ c.in-Some.is c.in_ok-node-in-Some.ensures.value in
    let s' = subst (IsTable g.K.Ord.cmp) is s in
    let whole = value_right g.met.K.Ord.total c.args.key.now _ _ _ s' c.args.value (rw c.key.ensures at (sym c.in-Greater.ensures)) in
    on_ok_weaker c.exchange-in-Greater.result (λ kept. lent _ (out-Node _ _ c.in_ok-node-in-Some.node.now).entry (out-Node _ _ c.in_ok-node-in-Some.node.now).height (out-Node _ _ c.in_ok-node-in-Some.node.now).before c.exchange-in-Greater.new.tree (c.make_mut.follows.holds _ (answered _ _ c.in_ok-node-in-Some.was)) ∙ (put_right (with_value g.K.Ord.cmp c.args.key.now c.args.value) _ _ _ _ is _ _ _ whole refl refl kept)) (c.exchange-in-Greater.ensures.ok (past _ _ _ _ s'))

pub returns-in-Greater-clause-before : goal.returns-in-Greater-clause-before
returns-in-Greater-clause-before g t c = λ s.
    let is = tree_parts c.args.tree.now _ _ c.in-Some.is c.in_ok-node-in-Some.ensures.value in
    let s' = subst (IsTable g.K.Ord.cmp) is s in
    let found = at_right g.met.K.Ord.total c.args.key.now _ _ _ s' (rw c.key.ensures at (sym c.in-Greater.ensures)) in
    if_made (λ b. b) _ _ (sym found ∙ ap (at_key g.K.Ord.cmp c.args.key.now) (sym is)) c.exchange-in-Greater.result (c.exchange-in-Greater.ensures.before (past _ _ _ _ s'))

pub returns-in_err-exchange-in-Equal-clause-err : goal.returns-in_err-exchange-in-Equal-clause-err
returns-in_err-exchange-in-Equal-clause-err g t c =
    let is = tree_parts c.args.tree.now _ _ c.in-Some.is c.in_ok-node-in-Some.ensures.value in
    any_err c.from_residual-in_err-exchange-in-Equal.result (lent _ c.exchange-in-Equal.new.self (out-Node _ _ c.in_ok-node-in-Some.node.now).height (out-Node _ _ c.in_ok-node-in-Some.node.now).before (out-Node _ _ c.in_ok-node-in-Some.node.now).after (c.make_mut.follows.holds _ (answered _ _ c.in_ok-node-in-Some.was)) ∙ (put_middle (λ es. es) _ _ _ _ is _ _ _ _ refl refl c.in_err-exchange-in-Equal.ensures.err refl))

pub returns-in_ok-exchange-in-Equal-clause-before : goal.returns-in_ok-exchange-in-Equal-clause-before
returns-in_ok-exchange-in-Equal-clause-before g t c = λ s.
    let is = tree_parts c.args.tree.now _ _ c.in-Some.is c.in_ok-node-in-Some.ensures.value in
    let s' = subst (IsTable g.K.Ord.cmp) is s in
    let found = at_middle g.met.K.Ord.total c.args.key.now _ _ _ s' (rw c.key.ensures at (sym c.in-Equal.ensures)) in
    ap Some c.in_ok-exchange-in-Equal.ensures.before ∙ (sym found ∙ ap (at_key g.K.Ord.cmp c.args.key.now) (sym is))

pub returns-in_ok-exchange-in-Equal-clause-ok : goal.returns-in_ok-exchange-in-Equal-clause-ok
returns-in_ok-exchange-in-Equal-clause-ok g t c = λ s.
    let is = tree_parts c.args.tree.now _ _ c.in-Some.is c.in_ok-node-in-Some.ensures.value in
    let s' = subst (IsTable g.K.Ord.cmp) is s in
    let whole = value_middle g.met.K.Ord.total c.args.key.now _ _ _ s' c.args.value (rw c.key.ensures at (sym c.in-Equal.ensures)) in
    lent _ c.exchange-in-Equal.new.self (out-Node _ _ c.in_ok-node-in-Some.node.now).height (out-Node _ _ c.in_ok-node-in-Some.node.now).before (out-Node _ _ c.in_ok-node-in-Some.node.now).after (c.make_mut.follows.holds _ (answered _ _ c.in_ok-node-in-Some.was)) ∙ (put_middle (with_value g.K.Ord.cmp c.args.key.now c.args.value) _ _ _ _ is _ _ _ _ whole refl c.in_ok-exchange-in-Equal.ensures.ok refl)
