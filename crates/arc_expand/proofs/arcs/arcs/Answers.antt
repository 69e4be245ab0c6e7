use Rattle.std.proofs.Common.{◌∙◌, sym}
use Rattle.arc_expand.specs.Arcs.{arc_of}
use Rattle.arc_expand.proofs.Kept.{kept_more, kept_same}
use Rattle.arc_expand.proofs.arcs.arcs.Goals as goal
use Rattle.arc_expand.proofs.arcs.arcs.Goals.{in-Some+in_ok-push, in_default}

pub loop-one-preserved : goal.loop-one-preserved
loop-one-preserved c =
    elim c.match-branch-2.branch [
      | in-Some+in_ok-push w ↦
          kept_more (arc_of) c.args.all.now c.loop-one.one-index c.one-item.result c.loop-one-test.true c.one-item.is w.in-Some.arc c.loop-one.arcs c.match-branch-2.arcs
          (sym c.in_ok-arc.ensures ∙ w.in-Some.is) (w.arcs-is ∙ w.in_ok-push.ensures.ok) c.loop-one.invariant
      | in_default w ↦
          kept_same (arc_of) c.args.all.now c.loop-one.one-index c.one-item.result c.loop-one-test.true c.one-item.is c.loop-one.arcs c.match-branch-2.arcs
          (sym c.in_ok-arc.ensures ∙ w.in_default.is) w.arcs-is c.loop-one.invariant
    ]
