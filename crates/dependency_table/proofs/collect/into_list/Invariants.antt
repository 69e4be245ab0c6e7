use Rattle.std.proofs.Common.{◌≡◌, ◌++◌}
use Rattle.dependency_table.proofs.collect.into_list.Given as goal

-- what was moved, and what is left
abbrev pub invariant-loop-place : goal.invariant-loop-place
invariant-loop-place g l = l.list.items ++ l.place-iterator ≡ l.initial.place-iterator
