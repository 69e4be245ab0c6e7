use Rattle.std.proofs.Common.{arith, ◌≡◌, ◌&&◌, not, true, false, Bool, take, ap, ◌∙◌}
use Rattle.std.proofs.lemmas.Grind.{common_steps}
use Rattle.std.specs.BTreeMap.{is_at}
use Rattle.std.specs.Cmp.{Equal-is}
use Rattle.std.proofs.lemmas.List.Folds.{list_any_more}
use Rattle.dependency_table.specs.Tables.{is_noted, is_listed}
use Rattle.dependency_table.proofs.Noted.{any_of_first, undone}
use Rattle.dependency_table.proofs.links.link_all.Goals as goal

pub loop-key-preserved : goal.loop-key-preserved
loop-key-preserved g c k p = grind (arith, common_steps, list_any_more, c.loop-key.invariant k p, c.in_default.ensures.ok k p)

pub returns-in-Err-clause-err : goal.returns-in-Err-clause-err
returns-in-Err-clause-err g c k p =
    let place = c.args.place.now in let keys = c.args.keys.now in let P = g.P.Ord.cmp in let K = g.K.Ord.cmp in
    let was = is_noted P K c.args.readers.now k p in
    let part = is_listed K (take c.loop-key.key-index keys) k in let all = is_listed K keys k in let here = is_at (P p) place in
    let within : part ≡ true → all ≡ true = any_of_first (is_at (K k)) keys c.loop-key.key-index in
    let apart : all ≡ true → here ≡ true → was ≡ false = λ a h.
    let same : p ≡ place = g.met.P.ExactOrd.tie_is_same p place ((Equal-is (P p place)).0 h) in ap (is_noted P K c.args.readers.now k) same ∙ c.requires k a in
    c.unlink_all.ensures k p ∙ (ap (λ (b : Bool). b && not (all && here)) (c.in-Err.ensures.err k p ∙ c.loop-key.invariant k p) ∙ undone was part all here within apart)
