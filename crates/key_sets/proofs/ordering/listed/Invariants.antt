use Rattle.std.proofs.Common.{◌≡◌, ◌++◌}
use Rattle.key_sets.proofs.ordering.listed.Given as goal

-- what was moved, and what is left
abbrev pub invariant-loop-key : goal.invariant-loop-key
invariant-loop-key l = l.list.items ++ l.key-iterator ≡ l.initial.key-iterator
