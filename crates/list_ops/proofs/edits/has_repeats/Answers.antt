use Rattle.std.proofs.Common.{◌≡◌, ◌+◌, ◌++◌, ◌∷◌, [], ◌∙◌, false, cond, ap, sym, take}
use Rattle.std.proofs.lemmas.List.{take_more}
use Rattle.list_ops.specs.ListEdits.{contains, firsts}
use Rattle.list_ops.proofs.EditLemmas.{firsts_more, without_none}
use Rattle.list_ops.proofs.edits.has_repeats.Goals as goal

pub loop-i-init : goal.loop-i-init
loop-i-init g c = without_none g.T.PartialEq.eq (firsts g.T.PartialEq.eq c.args.items.now)

pub loop-i-preserved : goal.loop-i-preserved
loop-i-preserved g c =
    let xs = c.args.items.now in
    let i = c.loop-i.i in
    let x = c.index-items-i.result in
    let new : contains g.T.PartialEq.eq (take i xs) x ≡ false = sym c.is_among.ensures ∙ c.if-is_among.false in
    firsts_more g.T.PartialEq.eq xs (take i xs) (take (i + 1) xs) i x (firsts g.T.PartialEq.eq xs) c.loop-i-test.true c.index-items-i.is
    (take_more xs i x c.loop-i-test.true ∙ (ap (λ y. take i xs ++ y ∷ []) (sym c.index-items-i.is) ∙ sym (ap (λ b. cond b (take i xs) (take i xs ++ x ∷ [])) new)))
    c.loop-i.invariant
