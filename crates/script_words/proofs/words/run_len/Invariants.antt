use Rattle.std.proofs.Common.{◌≡◌, ◌+◌, drop}
use Rattle.script_words.specs.Words.{run_len}
use Rattle.script_words.proofs.words.run_len.Given as goal

abbrev pub invariant-loop-i : goal.invariant-loop-i
invariant-loop-i l = run_len l.bytes ≡ l.i + run_len (drop l.i l.bytes)
