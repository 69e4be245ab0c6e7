use Rattle.std.proofs.Common.{◌∙◌, ap, sym}
use Rattle.list_ops.specs.ListEdits.{applied}
use Rattle.list_ops.proofs.Skipped.{step_applied, step_passed}
use Rattle.list_ops.proofs.edits.fold.Goals as goal
use Rattle.list_ops.proofs.edits.fold.Goals.{then-is_opinion+in_ok-list, else-is_opinion+else-not-is_once}

pub loop-op-preserved : goal.loop-op-preserved
loop-op-preserved g c =
    elim c.if-is_opinion.branch [
      | then-is_opinion+in_ok-list w ↦
          step_applied g.T.PartialEq.eq c.args.ops.now c.loop-op.op-index c.op-item.result c.loop-op.list c.if-is_opinion.list _ c.loop-op-test.true c.op-item.is c.loop-op.invariant.0
          c.is_opinion-is_opinion.result c.if-is_opinion.is_once (w.list-is ∙ w.in_ok-list.ensures) c.is_opinion-is_opinion.ensures w.is_once-is
      | else-is_opinion+else-not-is_once w ↦
          step_passed g.T.PartialEq.eq c.args.ops.now c.loop-op.op-index c.op-item.result c.loop-op.list c.if-is_opinion.list _ c.loop-op-test.true c.op-item.is c.loop-op.invariant.0
          c.if-is_opinion.is_once w.list-is (sym c.is_opinion-is_opinion.ensures ∙ w.if-is_opinion.false) (c.loop-op.invariant.1 w.if-not-is_once.false)
    ]
