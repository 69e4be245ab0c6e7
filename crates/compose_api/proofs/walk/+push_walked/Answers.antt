use Rattle.std.proofs.Common.{rules, ◌≡◌, ◌∙◌, ap, sym, ◌++◌, ◌-◌, ◌∷◌, [], take, length, slice_get, Some, append-nil, ◌≤◌, ◌<◌, arith, Err}
use Rattle.std.specs.List.{flat_map}
use Rattle.compose_api.specs.Stage.{walked}
use Rattle.compose_api.specs.declared.refused.StageRefused.TheVariants as StageRefused
use Rattle.compose_api.proofs.Walks.{item_kept, child_is_listed, walk_goes_on, walk_ends, walked-some, walked-none, told_of, parent_told, all_listed, longer_by_one, too_long_below}
use Rattle.compose_api.proofs.walk.+push_walked.Goals as goal

pub returns-then-levels-eq0-clause-items : goal.returns-then-levels-eq0-clause-items
returns-then-levels-eq0-clause-items g t c = let m = g.C.Composer in let e = walked-none m.entry_of m.listed c.args.world.now c.args.place in
    let z : c.args.levels ≡ 0 = c.if-levels-eq0.true in
    rw z (rw e (sym (append-nil c.args.items.now)))

pub returns-then-len-most-clause-full : goal.returns-then-len-most-clause-full
returns-then-len-most-clause-full g t c = let m = g.C.Composer in
    let unfolds = walked-some m.entry_of m.listed c.args.levels c.args.world.now c.args.place c.if-levels-eq0.false in
    let at : c.len.result ≡ length c.args.items.now = c.len.ensures in
    let past : c.args.most ≤ c.len.result = c.if-len-most.true in
    let many : c.args.most ≤ length c.args.items.now = omega (arith, at, past) in
    λ e. longer_by_one c.args.items.now _ _ _ c.args.most many unfolds

pub push_walked-requires-after_bounds : goal.push_walked-requires-after_bounds
push_walked-requires-after_bounds g t c κs within = let m = g.C.Composer in
    let w = c.args.world.now in
    let first : g.row.C-Place.Denot × g.row.C-Entry.Denot = (c.args.place, m.entry_of w c.args.place) in
    let kids = m.listed c.args.place (m.entry_of w c.args.place) in
    let rest = flat_map (walked m.entry_of m.listed (c.args.levels - 1) w) (take c.loop-i.i kids) in
    let pushed : c.push_place.new.items ≡ c.args.items.now ++ first ∷ [] = c.in_ok-index.ensures.items in
    let here = item_kept c.loop-i.items c.push_place.new.items c.args.items.now rest first c.len-at.result c.len-at.ensures c.loop-i.invariant pushed in
    let laws = g.met.C.Composer g.world.𝓛 g.world.𝓜 g.world.𝓡 ((λ s x. x), (λ x. x), (λ x. x), λ x. x) in
    let found : slice_get kids c.loop-i.i ≡ Some c.in_ok-child.child = told_of (λ item. slice_get (m.listed item.0 item.1) c.loop-i.i ≡ Some c.in_ok-child.child) _ first here c.in_ok-child.ensures in
    let above = laws.listed_are_below w c.args.place c.in_ok-child.child (child_is_listed kids c.loop-i.i c.in_ok-child.child found) in
    parent_told (m.index_of w) m.parent_of c.in_ok-index.index c.args.place c.in_ok-child.child c.in_ok-index.ensures.index above.0

pub loop-i-preserved : goal.loop-i-preserved
loop-i-preserved g t c = let m = g.C.Composer in
    let w = c.args.world.now in
    let f = walked m.entry_of m.listed (c.args.levels - 1) w in
    let first : g.row.C-Place.Denot × g.row.C-Entry.Denot = (c.args.place, m.entry_of w c.args.place) in
    let kids = m.listed c.args.place (m.entry_of w c.args.place) in
    let pushed : c.push_place.new.items ≡ c.args.items.now ++ first ∷ [] = c.in_ok-index.ensures.items in
    let here = item_kept c.loop-i.items c.push_place.new.items c.args.items.now (flat_map f (take c.loop-i.i kids)) first c.len-at.result c.len-at.ensures c.loop-i.invariant pushed in
    let found : slice_get kids c.loop-i.i ≡ Some c.in_ok-child.child = told_of (λ item. slice_get (m.listed item.0 item.1) c.loop-i.i ≡ Some c.in_ok-child.child) _ first here c.in_ok-child.ensures in
    let after : c.push_walked.new.items ≡ c.loop-i.items ++ f c.in_ok-child.child = c.in_ok-push_walked.ensures.items in
    walk_goes_on f c.loop-i.items c.push_place.new.items c.push_walked.new.items kids c.loop-i.i c.in_ok-child.child c.loop-i.invariant after found

pub returns-clause-items : goal.returns-clause-items
returns-clause-items g t c = let m = g.C.Composer in
    let w = c.args.world.now in
    let f = walked m.entry_of m.listed (c.args.levels - 1) w in
    let first : g.row.C-Place.Denot × g.row.C-Entry.Denot = (c.args.place, m.entry_of w c.args.place) in
    let kids = m.listed c.args.place (m.entry_of w c.args.place) in
    let pushed : c.push_place.new.items ≡ c.args.items.now ++ first ∷ [] = c.in_ok-index.ensures.items in
    let there = item_kept c.push_place.new.items c.push_place.new.items c.args.items.now [] first c.len-at.result c.len-at.ensures (sym (append-nil c.push_place.new.items)) pushed in
    let count : c.count_below-count.result ≡ length kids = told_of (λ item. c.count_below-count.result ≡ length (m.listed item.0 item.1)) _ first there c.count_below-count.ensures in
    let unfolds = walked-some m.entry_of m.listed c.args.levels w c.args.place c.if-levels-eq0.false in
    let all = all_listed kids c.count_below-count.result c.loop-i.i count c.loop-i-test.false in
    walk_ends f c.loop-i.items c.push_place.new.items c.args.items.now first kids c.loop-i.i c.loop-i.invariant pushed all
    ∙ sym (ap (λ x. c.args.items.now ++ x) unfolds)

pub returns-in_err-push_walked-clause-full : goal.returns-in_err-push_walked-clause-full
returns-in_err-push_walked-clause-full g t c = let m = g.C.Composer in
    let w = c.args.world.now in
    let f = walked m.entry_of m.listed (c.args.levels - 1) w in
    let first : g.row.C-Place.Denot × g.row.C-Entry.Denot = (c.args.place, m.entry_of w c.args.place) in
    let kids = m.listed c.args.place (m.entry_of w c.args.place) in
    let pushed : c.push_place.new.items ≡ c.args.items.now ++ first ∷ [] = c.in_ok-index.ensures.items in
    let here = item_kept c.loop-i.items c.push_place.new.items c.args.items.now (flat_map f (take c.loop-i.i kids)) first c.len-at.result c.len-at.ensures c.loop-i.invariant pushed in
    let found : slice_get kids c.loop-i.i ≡ Some c.in_ok-child.child = told_of (λ item. slice_get (m.listed item.0 item.1) c.loop-i.i ≡ Some c.in_ok-child.child) _ first here c.in_ok-child.ensures in
    let unfolds = walked-some m.entry_of m.listed c.args.levels w c.args.place c.if-levels-eq0.false in
    let full : c.push_walked.result ≡ Err StageRefused.Full → c.args.most < length (c.loop-i.items ++ f c.in_ok-child.child) = c.push_walked.ensures.full in
    λ e. rw unfolds (too_long_below f c.loop-i.items c.push_place.new.items c.args.items.now first kids c.loop-i.i c.args.most c.in_ok-child.child c.loop-i.invariant pushed found (full (search rules)))
