use Rattle.std.proofs.Common.{◌≡◌, ◌++◌, drop}
use Rattle.list_ops.specs.ListEdits.{without}
use Rattle.list_ops.proofs.edits.without.Given as goal

abbrev pub invariant-loop-item : goal.invariant-loop-item
invariant-loop-item g l = l.kept ++ without g.T.PartialEq.eq (drop l.item-index l.items) l.out ≡ without g.T.PartialEq.eq l.items l.out
