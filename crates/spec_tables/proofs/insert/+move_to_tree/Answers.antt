use Rattle.std.proofs.Common.{◌∙◌, ap, length, arith}
use Rattle.std.proofs.lemmas.Bool.{false≢true}
use Rattle.std.proofs.lemmas.Result.{on_ok_weaker, on_err_weaker}
use Rattle.spec_tables.proofs.Moves.{all_moved, moved_on, order_stays, taken_back}
use Rattle.spec_tables.proofs.insert.+move_to_tree.Goals as goal

pub returns-in-Some-pop_first-clause-err : goal.returns-in-Some-pop_first-clause-err
returns-in-Some-pop_first-clause-err g t c = λ s.
    let R = g.K.Ord.cmp in
    let es = c.args.entries.now.items in
    let l = c.pop.new.self.items in
    let e : g.row.K.Denot × g.row.V.Denot = (c.in-Some.key, c.in-Some.value) in
    let is = c.in-Some.ensures.items in
    let made = c.in-Ok.ensures.entries in
    let order = order_stays R es l c.args.tree.now.entries e is s c.insert.new.self.entries made in
    on_err_weaker c.move_to_tree-moved.result
    (λ kept. taken_back R es l c.args.tree.now.entries e is s c.insert.new.self.entries _ _ _ _ c.in-Some-pop_first.entry made kept c.in-Some-pop_first.ensures.removal c.put_back.ensures.items)
    (c.move_to_tree-moved.ensures.err order)

pub returns-else-is_err-clause-ok : goal.returns-else-is_err-clause-ok
returns-else-is_err-clause-ok g t c = λ s.
    let R = g.K.Ord.cmp in
    let es = c.args.entries.now.items in
    let l = c.pop.new.self.items in
    let e : g.row.K.Denot × g.row.V.Denot = (c.in-Some.key, c.in-Some.value) in
    let is = c.in-Some.ensures.items in
    let made = c.in-Ok.ensures.entries in
    let order = order_stays R es l c.args.tree.now.entries e is s c.insert.new.self.entries made in
    on_ok_weaker c.move_to_tree-moved.result
    (λ all. all_moved R es l c.args.tree.now.entries e is s c.insert.new.self.entries _ made all)
    (c.move_to_tree-moved.ensures.ok order)

pub returns-in_default-clause-err : goal.returns-in_default-clause-err
returns-in_default-clause-err g t c = λ s.
    let R = g.K.Ord.cmp in
    let es = c.args.entries.now.items in
    let l = c.pop.new.self.items in
    let e : g.row.K.Denot × g.row.V.Denot = (c.in-Some.key, c.in-Some.value) in
    let is = c.in-Some.ensures.items in
    let made = c.in-Ok.ensures.entries in
    let order = order_stays R es l c.args.tree.now.entries e is s c.insert.new.self.entries made in
    on_err_weaker c.move_to_tree-moved.result
    (λ kept. let some = ap length (kept.1 ∙ moved_on R es l c.args.tree.now.entries e is s c.insert.new.self.entries made) in
    absurd (false≢true (c.in_default.ensures.variant.1 (omega (arith, some)))))
    (c.move_to_tree-moved.ensures.err order)
