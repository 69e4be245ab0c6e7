use Rattle.std.proofs.Common.{◌≡◌, ◌<◌, ◌+◌, drop, false}
use Rattle.usda_lexer.specs.Forms.{closed_tripled}
use Rattle.usda_lexer.proofs.forms.closed_tripled.Given as goal

abbrev pub invariant-loop-i : goal.invariant-loop-i
invariant-loop-i l = record {
  same : closed_tripled l.quote l.escaped l.run (l.i + 3) (drop l.i l.bytes) ≡ closed_tripled l.quote false 0 3 l.bytes;
  few : l.run < 3;
}
