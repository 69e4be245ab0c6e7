use Rattle.std.proofs.Common.{◌≡◌, ◌++◌, ◌∷◌, [], ◌∙◌, cond, ap, arith, take}
use Rattle.std.proofs.lemmas.Grind.{common_steps}
use Rattle.list_ops.specs.ListEdits.{contains, firsts, without}
use Rattle.list_ops.proofs.EditLemmas.{firsts_more, without_none}
use Rattle.list_ops.proofs.edits.firsts.Goals as goal
use Rattle.list_ops.proofs.edits.firsts.Goals.{then-not-stands_before+in_ok-copy+in_ok-push, else-not-stands_before}

pub loop-i-init : goal.loop-i-init
loop-i-init g c = ap (λ l. l ++ without g.T.PartialEq.eq (firsts g.T.PartialEq.eq c.args.items.now) []) c.new-kept.ensures ∙ without_none g.T.PartialEq.eq (firsts g.T.PartialEq.eq c.args.items.now)

pub loop-i-preserved : goal.loop-i-preserved
loop-i-preserved g c =
    let x = c.index-items-i.result in
    let pushed : c.if-not-stands_before.kept ≡ cond (contains g.T.PartialEq.eq (take c.loop-i.i c.args.items.now) x) c.loop-i.kept (c.loop-i.kept ++ x ∷ []) =
    elim c.if-not-stands_before.branch [ then-not-stands_before+in_ok-copy+in_ok-push w ↦ grind (arith, common_steps) | else-not-stands_before w ↦ grind (arith, common_steps) ] in
    firsts_more g.T.PartialEq.eq c.args.items.now c.loop-i.kept c.if-not-stands_before.kept c.loop-i.i x (firsts g.T.PartialEq.eq c.args.items.now) c.loop-i-test.true c.index-items-i.is pushed c.loop-i.invariant
