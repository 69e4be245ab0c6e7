use Rattle.std.proofs.Common.{◌≡◌, ◌++◌, drop, take}
use Rattle.list_ops.specs.ListEdits.{without, firsts}
use Rattle.list_ops.proofs.edits.has_repeats.Given as goal

-- no item is a repeat so far
abbrev pub invariant-loop-i : goal.invariant-loop-i
invariant-loop-i g l = take l.i l.items ++ without g.T.PartialEq.eq (firsts g.T.PartialEq.eq (drop l.i l.items)) (take l.i l.items) ≡ firsts g.T.PartialEq.eq l.items
