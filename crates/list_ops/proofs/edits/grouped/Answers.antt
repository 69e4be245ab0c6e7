use Rattle.list_ops.specs.ListEdits.{group_of, grouped}
use Rattle.list_ops.proofs.EditLemmas.{group_more}
use Rattle.list_ops.proofs.edits.grouped.Goals as goal

pub loop-item-preserved : goal.loop-item-preserved
loop-item-preserved g c =
    group_more (group_of g.T.PartialEq.eq c.args.order.now c.args.items.now) c.args.order.now c.loop-item.next c.push_group_of.new.out c.loop-item.item-index c.item-item.result
    (grouped g.T.PartialEq.eq c.args.order.now c.args.items.now) c.loop-item-test.true c.item-item.is c.in_ok-push_group_of.ensures c.loop-item.invariant
