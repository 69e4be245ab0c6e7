use Rattle.std.proofs.Common.{sym, subst, take, List}
use Rattle.std.specs.List.{All, Contains}
use Rattle.edit_batches.specs.declared.op.Op.{Op}
use Rattle.layer_changes.specs.Parts.{parts_of}
use Rattle.layer_changes.specs.declared.part.Part.{Part}
use Rattle.layer_changes.proofs.Walks.{more_hold, all_hold, ops_kept}
use Rattle.layer_changes.proofs.named.parts_of_all.Goals as goal

pub loop-op-preserved : goal.loop-op-preserved
loop-op-preserved c =
    more_hold (λ (op : Op). All (Contains c.add_parts.new.set.keys) (parts_of op)) c.args.ops.now c.loop-op.op-index c.op-item.result c.loop-op-test.true c.op-item.is
    (ops_kept c.loop-op.set.keys c.add_parts.new.set.keys (take c.loop-op.op-index c.args.ops.now) c.in_ok-add_parts.ensures.kept c.loop-op.invariant)
    c.in_ok-add_parts.ensures.added

pub returns : goal.returns
returns c =
    subst (λ (ps : List Part). All (λ (op : Op). All (Contains ps) (parts_of op)) c.args.ops.now) (sym c.in_ok-parts.ensures.list)
    (all_hold (λ (op : Op). All (Contains c.loop-op.set.keys) (parts_of op)) c.args.ops.now c.loop-op.op-index c.loop-op-test.false c.loop-op.invariant)
