use Rattle.std.proofs.Common.{◌≡◌, ◌++◌, drop, take}
use Rattle.list_ops.specs.ListEdits.{without, firsts}
use Rattle.list_ops.proofs.edits.firsts.Given as goal

abbrev pub invariant-loop-i : goal.invariant-loop-i
invariant-loop-i g l = l.kept ++ without g.T.PartialEq.eq (firsts g.T.PartialEq.eq (drop l.i l.items)) (take l.i l.items) ≡ firsts g.T.PartialEq.eq l.items
