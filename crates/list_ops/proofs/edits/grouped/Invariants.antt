use Rattle.std.proofs.Common.{◌≡◌, ◌++◌, drop, flat_map}
use Rattle.list_ops.specs.ListEdits.{group_of, grouped}
use Rattle.list_ops.proofs.edits.grouped.Given as goal

abbrev pub invariant-loop-item : goal.invariant-loop-item
invariant-loop-item g l = l.next ++ flat_map (group_of g.T.PartialEq.eq l.order l.items) (drop l.item-index l.order) ≡ grouped g.T.PartialEq.eq l.order l.items
