use Rattle.std.proofs.Common.{◌≡◌, ◌∙◌, ◌+◌, ◌-◌, ◌<◌, ◌++◌, ◌∷◌, [], List, map, drop, Err, ap, sym, subst, arith}
use Rattle.std.proofs.lemmas.List.{drop_all}
use Rattle.usda_values.specs.declared.fault.PartFault.{PartFault}
use Rattle.usda_values.specs.Shaping.{Taking, taken, take_counted, GivesAll}
use Rattle.usda_values.proofs.Members.{behind, counted_step, counted_stops, counted_lacks, member_at, gives_err}
use Rattle.usda_values.proofs.shaping.+taken.Goals as goal

pub take_counted-returns-in-Err : goal.take_counted-returns-in-Err
take_counted-returns-in-Err t c =
    let left : 0 < c.args.count - c.loop-i.i = omega (arith, c.if-i-count.false) in
    gives_err c.in-Err.fault (taken c.index-values-i.result c.args.ty) _ c.in-Err.ensures
    (λ k e. sym c.loop-i.invariant.same
    ∙ ap (λ m. behind c.loop-i.all (take_counted (c.args.count - c.loop-i.i) m c.args.ty)) (member_at c.args.values.now c.loop-i.i c.index-values-i.result c.loop-i-test.true c.index-values-i.is)
    ∙ counted_stops (c.args.count - c.loop-i.i) c.loop-i.all k _ _ c.args.ty left e)

pub take_counted-loop-i-preserved : goal.take_counted-loop-i-preserved
take_counted-loop-i-preserved t c =
    let left : 0 < c.args.count - c.loop-i.i = omega (arith, c.if-i-count.false) in
    let rest : List Taking = map taken (drop (c.loop-i.i + 1) c.args.values.now) in
    record {
      same = ap (λ vs. behind vs (take_counted (c.args.count - (c.loop-i.i + 1)) rest c.args.ty)) c.in_ok-push-in-Ok.ensures.ok
          ∙ ap (λ k. behind (c.loop-i.all ++ c.in-Ok.value ∷ []) (take_counted k rest c.args.ty)) (let f : c.args.count - (c.loop-i.i + 1) ≡ c.args.count - c.loop-i.i - 1 = omega arith in f)
          ∙ sym (counted_step (c.args.count - c.loop-i.i) c.loop-i.all c.in-Ok.value (taken c.index-values-i.result) rest c.args.ty left c.in-Ok.ensures)
          ∙ ap (λ m. behind c.loop-i.all (take_counted (c.args.count - c.loop-i.i) m c.args.ty)) (sym (member_at c.args.values.now c.loop-i.i c.index-values-i.result c.loop-i-test.true c.index-values-i.is))
          ∙ c.loop-i.invariant.same;
      room = omega (arith, c.if-i-count.false);
    }

pub take_counted-returns-then-values-count : goal.take_counted-returns-then-values-count
take_counted-returns-then-values-count t c =
    let left : 0 < c.args.count - c.loop-i.i = omega (arith, c.if-values-count.true, c.loop-i.auto.i-end) in
    subst (λ (f : PartFault). GivesAll (Err f) (take_counted c.args.count (map taken c.args.values.now) c.args.ty)) (sym c.shape_fault-then-values-count.ensures)
    (sym c.loop-i.invariant.same
    ∙ ap (λ xs. behind c.loop-i.all (take_counted (c.args.count - c.loop-i.i) (map taken xs) c.args.ty)) (drop_all c.loop-i.i c.args.values.now (omega (arith, c.loop-i-test.false)))
    ∙ counted_lacks (c.args.count - c.loop-i.i) c.loop-i.all c.args.ty left)
