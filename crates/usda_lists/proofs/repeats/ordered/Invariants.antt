use Rattle.std.proofs.Common.{◌≡◌}
use Rattle.usda_lists.proofs.repeats.ordered.Given as goal

abbrev pub invariant-loop-item : goal.invariant-loop-item
invariant-loop-item l = l.all ≡ l.yielded
