use Rattle.std.proofs.Common.{rules, ◌≡◌, ◌<◌, [], length, Err}
use Rattle.compose_api.specs.declared.refused.StageRefused.TheVariants as StageRefused
use Rattle.stage_session.specs.Sessions.{most_paths, stage_after}
use Rattle.stage_session.proofs.flat.stage_of_world.Goals as goal

pub returns-clause-stage : goal.returns-clause-stage
unfolding stage_after
returns-clause-stage c = c.in_ok-items.ensures.stage

pub returns-in_err-items-clause-full : goal.returns-in_err-items-clause-full
unfolding stage_after
returns-in_err-items-clause-full c =
    let full : c.stage_items_within.result ≡ Err StageRefused.Full → most_paths < length (stage_after c.args.world.now []) = c.stage_items_within.ensures.full in
    λ e. full (search rules)
