use Rattle.std.proofs.Common.{◌≡◌, ◌++◌, take}
use Rattle.change_core.proofs.differences.append.Given as goal

abbrev pub invariant-loop-key : goal.invariant-loop-key
invariant-loop-key g l = l.list ≡ l.fn.list ++ take l.key-index l.more
