use Rattle.std.proofs.Common.{◌≡◌, ◌+◌, drop}
use Rattle.script_lines.specs.Lines.{blanks_len}
use Rattle.script_lines.proofs.grammar.blanks_len.Given as goal

abbrev pub invariant-loop-i : goal.invariant-loop-i
invariant-loop-i l = blanks_len l.bytes ≡ l.i + blanks_len (drop l.i l.bytes)
