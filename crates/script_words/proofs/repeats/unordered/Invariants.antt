use Rattle.std.proofs.Common.{◌≡◌}
use Rattle.script_words.proofs.repeats.unordered.Given as goal

abbrev pub invariant-loop-item : goal.invariant-loop-item
invariant-loop-item l = l.all ≡ l.yielded
