use Rattle.std.proofs.Common.{◌≡◌, ◌++◌}
use Rattle.layer_changes.proofs.growing.into_list.Given as goal

-- what was moved, and what is left
abbrev pub invariant-loop-item : goal.invariant-loop-item
invariant-loop-item g l = l.list.items ++ l.item-iterator ≡ l.initial.item-iterator
