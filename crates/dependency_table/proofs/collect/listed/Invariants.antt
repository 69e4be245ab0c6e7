use Rattle.std.proofs.Common.{◌≡◌, take}
use Rattle.dependency_table.proofs.collect.listed.Given as goal

abbrev pub invariant-loop-key : goal.invariant-loop-key
invariant-loop-key g l = l.list ≡ take l.key-index l.keys
