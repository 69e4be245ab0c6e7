use Rattle.std.proofs.Common.{◌≡◌, ◌+◌, drop, false}
use Rattle.usda_lexer.specs.Forms.{closed_string}
use Rattle.usda_lexer.proofs.forms.closed_string.Given as goal

abbrev pub invariant-loop-i : goal.invariant-loop-i
invariant-loop-i l = closed_string l.quote l.escaped (l.i + 1) (drop l.i l.bytes) ≡ closed_string l.quote false 1 l.bytes
