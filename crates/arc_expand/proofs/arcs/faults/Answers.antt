use Rattle.std.proofs.Common.{◌∙◌, sym}
use Rattle.arc_expand.specs.Arcs.{fault_of}
use Rattle.arc_expand.proofs.Kept.{kept_more, kept_same}
use Rattle.arc_expand.proofs.arcs.faults.Goals as goal
use Rattle.arc_expand.proofs.arcs.faults.Goals.{in-Some+in_ok-push, in_default}

pub loop-one-preserved : goal.loop-one-preserved
loop-one-preserved c =
    elim c.match-branch-2.branch [
      | in-Some+in_ok-push w ↦
          kept_more (fault_of c.args.at.now c.args.kind) c.args.all.now c.loop-one.one-index c.one-item.result c.loop-one-test.true c.one-item.is w.in-Some.fault c.loop-one.faults c.match-branch-2.faults
          (sym c.in_ok-fault.ensures ∙ w.in-Some.is) (w.faults-is ∙ w.in_ok-push.ensures.ok) c.loop-one.invariant
      | in_default w ↦
          kept_same (fault_of c.args.at.now c.args.kind) c.args.all.now c.loop-one.one-index c.one-item.result c.loop-one-test.true c.one-item.is c.loop-one.faults c.match-branch-2.faults
          (sym c.in_ok-fault.ensures ∙ w.in_default.is) w.faults-is c.loop-one.invariant
    ]
