use Rattle.std.proofs.Common.{refl, sym, subst, Some, None, true}
use Rattle.change_core.proofs.Keeping.{arrives, same_as_before}
use Rattle.change_core.proofs.arrive.arrive_again.Goals as goal

pub returns : goal.returns
returns g c before changed above was hits covers = let m = g.C.Composer in
    let laws = g.met.C.Composer g.world.𝓛 g.world.𝓜 g.world.𝓡 ((λ s x. x), (λ x. x), (λ x. x), λ x. x) in
    let order = g.met.C.Key.Ord g.world.𝓛 g.world.𝓜 g.world.𝓡 ((λ s x. x), (λ x. x), (λ x. x), λ x. x) in
    let exact = g.met.C.Key.ExactOrd g.world.𝓛 g.world.𝓜 g.world.𝓡 ((λ s x. x), (λ x. x), (λ x. x), λ x. x) in
    let now = c.args.world.now in let old = c.args.old in let new = c.in_ok-kept.field-0.kept in
    arrives m.index_of m.reads_of g.C.Key.Ord.cmp m.entry_of m.parent_of now before changed old.place c.in_ok-copy.field-0 new (Some c.in_ok-kept.field-0.index) (Some c.in_ok-kept.field-0.reads) (Some c.args.hits) c.reads_as_before-same.result
    c.in_ok-copy.ensures c.in_ok-kept.ensures.place c.in_ok-kept.ensures.current c.in_ok-kept.ensures.index c.in_ok-kept.ensures.reads hits
    (λ t. same_as_before m.index_of m.reads_of g.C.Key.Ord.cmp m.entry_of m.parent_of m.value_of laws.reads_cover order.total exact.tie_is_same now before changed old new c.args.hits c.args.above.now above c.requires.place was c.in_ok-kept.ensures.current c.in_ok-kept.ensures.place hits covers laws.reads_are_in_order (c.reads_as_before-same.ensures t))
