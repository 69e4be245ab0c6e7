use Rattle.std.proofs.Common.{◌≡◌, ◌+◌, drop}
use Rattle.usda_lexer.specs.Forms.{closed_line}
use Rattle.usda_lexer.proofs.forms.closed_line.Given as goal

abbrev pub invariant-loop-i : goal.invariant-loop-i
invariant-loop-i l = closed_line l.close (l.i + 1) (drop l.i l.bytes) ≡ closed_line l.close 1 l.bytes
