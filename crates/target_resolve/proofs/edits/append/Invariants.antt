use Rattle.std.proofs.Common.{◌≡◌, ◌++◌, take}
use Rattle.target_resolve.proofs.edits.append.Given as goal

abbrev pub invariant-loop-item : goal.invariant-loop-item
invariant-loop-item l = l.out ≡ l.initial.out ++ take l.item-index l.item-items
