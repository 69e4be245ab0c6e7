use Rattle.std.proofs.Common.{rules, ◌≡◌, ◌∙◌, ap, ◌++◌, ◌<◌, length, arith, Err}
use Rattle.compose_api.specs.Stage.{walked, stage_of}
use Rattle.compose_api.specs.declared.refused.StageRefused.TheVariants as StageRefused
use Rattle.change_core.proofs.walk.kept_stage.Goals as goal

pub returns-clause-stage : goal.returns-clause-stage
unfolding stage_of
returns-clause-stage g c = let m = g.C.Composer in let w = c.args.world.now in
    let after = c.in_ok-push_kept.ensures.stage in
    let walk : c.new-made.result.stage ++ walked m.entry_of m.listed 65 w c.in_ok-root.root ≡ walked m.entry_of m.listed 65 w c.in_ok-root.root = ap (λ x. x ++ walked m.entry_of m.listed 65 w c.in_ok-root.root) c.new-made.ensures.stage in
    after ∙ (walk ∙ ap (walked m.entry_of m.listed 65 w) c.in_ok-root.ensures)

pub returns-then-len-most-clause-full : goal.returns-then-len-most-clause-full
unfolding stage_of
returns-then-len-most-clause-full g c = let m = g.C.Composer in let w = c.args.world.now in
    let after = c.in_ok-push_kept.ensures.stage in
    let walk : c.new-made.result.stage ++ walked m.entry_of m.listed 65 w c.in_ok-root.root ≡ walked m.entry_of m.listed 65 w c.in_ok-root.root = ap (λ x. x ++ walked m.entry_of m.listed 65 w c.in_ok-root.root) c.new-made.ensures.stage in
    let is : c.push_kept.new.made.stage ≡ walked m.entry_of m.listed 65 w m.root_place = after ∙ (walk ∙ ap (walked m.entry_of m.listed 65 w) c.in_ok-root.ensures) in
    let at : c.len.result ≡ length c.push_kept.new.made.stage = c.len.ensures in
    let past : c.args.most < c.len.result = c.if-len-most.true in
    λ e. rw (← is) (omega (arith, at, past))

pub returns-in_err-push_kept-clause-full : goal.returns-in_err-push_kept-clause-full
unfolding stage_of
returns-in_err-push_kept-clause-full g c = let m = g.C.Composer in let w = c.args.world.now in
    let walk : c.new-made.result.stage ++ walked m.entry_of m.listed 65 w c.in_ok-root.root ≡ walked m.entry_of m.listed 65 w c.in_ok-root.root = ap (λ x. x ++ walked m.entry_of m.listed 65 w c.in_ok-root.root) c.new-made.ensures.stage in
    let is : c.new-made.result.stage ++ walked m.entry_of m.listed 65 w c.in_ok-root.root ≡ walked m.entry_of m.listed 65 w m.root_place = walk ∙ ap (walked m.entry_of m.listed 65 w) c.in_ok-root.ensures in
    let full : c.push_kept.result ≡ Err StageRefused.Full → c.args.most < length (c.new-made.result.stage ++ walked m.entry_of m.listed 65 w c.in_ok-root.root) = c.push_kept.ensures.full in
    λ e. rw (← is) (full (search rules))
