use Rattle.std.proofs.Common.{◌≡◌, ◌++◌, drop}
use Rattle.list_ops.specs.ListEdits.{until_listed}
use Rattle.list_ops.proofs.edits.push_until_listed.Given as goal

abbrev pub invariant-loop-item : goal.invariant-loop-item
invariant-loop-item g l = l.out ++ until_listed g.T.PartialEq.eq l.order (drop l.item-index l.items) ≡ l.initial.out ++ until_listed g.T.PartialEq.eq l.order l.items
