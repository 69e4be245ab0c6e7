use Rattle.std.proofs.Common.{rules, ◌≡◌, ◌<◌, length, Err}
use Rattle.compose_api.specs.declared.refused.StageRefused.TheVariants as StageRefused
use Rattle.stage_session.specs.Sessions.{most_paths, stage_after}
use Rattle.stage_session.proofs.session.publish_core.Goals as goal

pub returns-clause-published : goal.returns-clause-published
unfolding stage_after
returns-clause-published c =
    let n = c.in_ok-edition.ensures.answer in
    record {
      noted = rw (n.version_is, n.batches_is) at n.noted;
      version_is = n.version_is;
      batches_is = n.batches_is;
      stage = n.stage;
    }

pub returns-in_err-edition-clause-full : goal.returns-in_err-edition-clause-full
unfolding stage_after
returns-in_err-edition-clause-full c =
    let full : c.publish_within.result ≡ Err StageRefused.Full → most_paths < length (stage_after c.args.core.now.opened c.args.core.now.history) = c.publish_within.ensures.full in
    λ e. full (search rules)
