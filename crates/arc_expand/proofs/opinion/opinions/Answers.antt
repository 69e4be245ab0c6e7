use Rattle.std.proofs.Common.{◌∙◌, sym, Some}
use Rattle.layer_set.specs.LookUps.{look_ups}
use Rattle.arc_expand.specs.Authoring.{opinion_of}
use Rattle.arc_expand.proofs.Kept.{kept_more, kept_same, opinion_some, opinion_none}
use Rattle.arc_expand.proofs.opinion.opinions.Goals as goal
use Rattle.arc_expand.proofs.opinion.opinions.Goals.{in-Some+in_ok-push, in_default}

pub loop-entry-preserved : goal.loop-entry-preserved
loop-entry-preserved c =
    elim c.match-spec.branch [
      | in-Some+in_ok-push w ↦
          kept_more (opinion_of (look_ups c.args.world.now) c.args.at.now) c.as_slice-entry-items.result.now c.loop-entry.entry-index c.entry-item.result
          c.loop-entry-test.true c.entry-item.is (record { layer = c.entry-item.result.0; offset = c.entry-item.result.1; spec = w.in-Some.spec.now }) c.loop-entry.all c.match-spec.all
          (opinion_some (look_ups c.args.world.now) c.args.at.now c.entry-item.result w.in-Some.spec.now (sym w.in-Some.ensures))
          (w.all-is ∙ w.in_ok-push.ensures.ok) c.loop-entry.invariant
      | in_default w ↦
          kept_same (opinion_of (look_ups c.args.world.now) c.args.at.now) c.as_slice-entry-items.result.now c.loop-entry.entry-index c.entry-item.result
          c.loop-entry-test.true c.entry-item.is c.loop-entry.all c.match-spec.all
          (opinion_none (look_ups c.args.world.now) c.args.at.now c.entry-item.result (sym w.in_default.ensures))
          w.all-is c.loop-entry.invariant
    ]
