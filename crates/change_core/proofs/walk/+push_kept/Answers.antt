use Rattle.std.proofs.Common.{rules, ◌≡◌, ◌∙◌, ap, sym, refl, subst, ◌++◌, ◌-◌, ◌∷◌, [], take, length, slice_get, Some, append-nil, ◌≤◌, ◌<◌, arith, Err}
use Rattle.std.specs.List.{flat_map}
use Rattle.compose_api.specs.Stage.{walked}
use Rattle.compose_api.specs.declared.refused.StageRefused.TheVariants as StageRefused
use Rattle.change_core.specs.Above.{IsAbove}
use Rattle.compose_api.proofs.Walks.{child_is_listed, walk_goes_on, walk_ends, walked-some, walked-none, all_listed, longer_by_one, too_long_below}
use Rattle.change_core.proofs.walk.+push_kept.Goals as goal

pub returns-then-levels-eq0-clause-stage : goal.returns-then-levels-eq0-clause-stage
returns-then-levels-eq0-clause-stage g t c = let m = g.C.Composer in let e = walked-none m.entry_of m.listed c.args.world.now c.args.place in
    let z : c.args.levels ≡ 0 = c.if-levels-eq0.true in
    rw z (rw e (sym (append-nil c.args.made.now.stage)))

pub returns-then-len-most-clause-full : goal.returns-then-len-most-clause-full
returns-then-len-most-clause-full g t c = let m = g.C.Composer in
    let unfolds = walked-some m.entry_of m.listed c.args.levels c.args.world.now c.args.place c.if-levels-eq0.false in
    let at : c.len.result ≡ length c.args.made.now.stage = c.len.ensures in
    let past : c.args.most ≤ c.len.result = c.if-len-most.true in
    let many : c.args.most ≤ length c.args.made.now.stage = omega (arith, at, past) in
    λ e. longer_by_one c.args.made.now.stage _ _ _ c.args.most many unfolds

pub push_kept-requires-clause-place : goal.push_kept-requires-clause-place
push_kept-requires-clause-place g t c κs within = let m = g.C.Composer in
    let w = c.args.world.now in
    let kids = m.listed c.args.place (m.entry_of w c.args.place) in
    let laws = g.met.C.Composer g.world.𝓛 g.world.𝓜 g.world.𝓡 ((λ s x. x), (λ x. x), (λ x. x), λ x. x) in
    let found : slice_get kids c.loop-i.i ≡ Some c.in_ok-child.child = subst (λ e. slice_get (m.listed c.args.place e) c.loop-i.i ≡ Some c.in_ok-child.child) c.in_ok-entry.ensures.entry c.in_ok-child.ensures in
    let above = laws.listed_are_below w c.args.place c.in_ok-child.child (child_is_listed kids c.loop-i.i c.in_ok-child.child found) in
    c.loop-i.invariant.4 ∙ sym above.0

pub loop-i-preserved : goal.loop-i-preserved
loop-i-preserved g t c = let m = g.C.Composer in
    let w = c.args.world.now in
    let f = walked m.entry_of m.listed (c.args.levels - 1) w in
    let kids = m.listed c.args.place (m.entry_of w c.args.place) in
    let found : slice_get kids c.loop-i.i ≡ Some c.in_ok-child.child = subst (λ e. slice_get (m.listed c.args.place e) c.loop-i.i ≡ Some c.in_ok-child.child) c.in_ok-entry.ensures.entry c.in_ok-child.ensures in
    let after : c.push_kept.new.made.stage ≡ c.loop-i.made.stage ++ f c.in_ok-child.child = c.in_ok-push_kept.ensures.stage in
    let same : c.push_kept.new.old.world ≡ c.loop-i.old.world = c.in_ok-push_kept.ensures.world in (
      walk_goes_on f c.loop-i.made.stage c.arrive.new.made.stage c.push_kept.new.made.stage kids c.loop-i.i c.in_ok-child.child c.loop-i.invariant.0 after found,
      c.in_ok-push_kept.ensures.made ∙ c.loop-i.invariant.1,
      same ∙ c.loop-i.invariant.2,
      subst (λ v. IsAbove m.index_of m.reads_of g.C.Key.Ord.cmp w v c.args.changed.now c.push_kept.new.above) (sym same) c.in_ok-push_kept.ensures.above,
      c.in_ok-push_kept.ensures.above_is ∙ c.loop-i.invariant.4,
    )

pub returns-clause-stage : goal.returns-clause-stage
returns-clause-stage g t c = let m = g.C.Composer in
    let w = c.args.world.now in
    let f = walked m.entry_of m.listed (c.args.levels - 1) w in
    let first : g.row.C-Place.Denot × g.row.C-Entry.Denot = (c.args.place, m.entry_of w c.args.place) in
    let kids = m.listed c.args.place (m.entry_of w c.args.place) in
    let pushed : c.arrive.new.made.stage ≡ c.args.made.now.stage ++ first ∷ [] = c.in_ok-entry.ensures.stage in
    let count : c.child_count-count.result ≡ length kids = c.child_count-count.ensures c.args.place ∙ ap (λ e. length (m.listed c.args.place e)) c.in_ok-entry.ensures.entry in
    let unfolds = walked-some m.entry_of m.listed c.args.levels w c.args.place c.if-levels-eq0.false in
    let all = all_listed kids c.child_count-count.result c.loop-i.i count c.loop-i-test.false in
    ap (λ s. s.stage) c.close.ensures
    ∙ (walk_ends f c.loop-i.made.stage c.arrive.new.made.stage c.args.made.now.stage first kids c.loop-i.i c.loop-i.invariant.0 pushed all
    ∙ sym (ap (λ x. c.args.made.now.stage ++ x) unfolds))

pub returns-in_err-push_kept-clause-full : goal.returns-in_err-push_kept-clause-full
returns-in_err-push_kept-clause-full g t c = let m = g.C.Composer in
    let w = c.args.world.now in
    let f = walked m.entry_of m.listed (c.args.levels - 1) w in
    let first : g.row.C-Place.Denot × g.row.C-Entry.Denot = (c.args.place, m.entry_of w c.args.place) in
    let kids = m.listed c.args.place (m.entry_of w c.args.place) in
    let pushed : c.arrive.new.made.stage ≡ c.args.made.now.stage ++ first ∷ [] = c.in_ok-entry.ensures.stage in
    let found : slice_get kids c.loop-i.i ≡ Some c.in_ok-child.child = subst (λ e. slice_get (m.listed c.args.place e) c.loop-i.i ≡ Some c.in_ok-child.child) c.in_ok-entry.ensures.entry c.in_ok-child.ensures in
    let unfolds = walked-some m.entry_of m.listed c.args.levels w c.args.place c.if-levels-eq0.false in
    let full : c.push_kept.result ≡ Err StageRefused.Full → c.args.most < length (c.loop-i.made.stage ++ f c.in_ok-child.child) = c.push_kept.ensures.full in
    λ e. rw unfolds (too_long_below f c.loop-i.made.stage c.arrive.new.made.stage c.args.made.now.stage first kids c.loop-i.i c.args.most c.in_ok-child.child c.loop-i.invariant.0 pushed found (full (search rules)))
