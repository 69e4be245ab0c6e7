use Rattle.std.proofs.Common.{refl, sym, subst, Some, None, true}
use Rattle.change_core.specs.Kept.{AreHits}
use Rattle.change_core.proofs.Keeping.{arrives, moved, stays}
use Rattle.change_core.proofs.arrive.move_over.Goals as goal

pub returns : goal.returns
returns g c now before changed was hits covers same = let m = g.C.Composer in
    let laws = g.met.C.Composer g.world.𝓛 g.world.𝓜 g.world.𝓡 ((λ s x. x), (λ x. x), (λ x. x), λ x. x) in
    let order = g.met.C.Key.Ord g.world.𝓛 g.world.𝓜 g.world.𝓡 ((λ s x. x), (λ x. x), (λ x. x), λ x. x) in
    let exact = g.met.C.Key.ExactOrd g.world.𝓛 g.world.𝓜 g.world.𝓡 ((λ s x. x), (λ x. x), (λ x. x), λ x. x) in
    let kept = c.args.kept in
    arrives m.index_of m.reads_of g.C.Key.Ord.cmp m.entry_of m.parent_of now before changed kept.place c.in_ok-copy.field-0 kept None None (Some c.new.result) true
    c.in_ok-copy.ensures refl (moved m.index_of m.reads_of g.C.Key.Ord.cmp m.entry_of m.parent_of m.value_of laws.reads_cover order.total exact.tie_is_same now before changed kept was hits covers same)
    tt tt (subst (AreHits g.C.Key.Ord.cmp changed (m.reads_of before kept.place)) (sym c.new.ensures) hits)
    (λ t. (stays m.index_of m.reads_of g.C.Key.Ord.cmp m.entry_of m.parent_of m.value_of laws.reads_cover order.total exact.tie_is_same now before changed kept.place hits covers).1)
