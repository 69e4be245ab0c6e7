use Rattle.std.proofs.Common.{◌≡◌, ◌≤◌, ◌+◌, drop}
use Rattle.usda_lexer.specs.Places.{place_behind}
use Rattle.usda_lexer.proofs.place.place_of.Given as goal

abbrev pub invariant-loop-i : goal.invariant-loop-i
invariant-loop-i l = record {
  same : place_behind l.place (drop l.i l.front) ≡ place_behind (record { line = 1; column = 1 }) l.front;
  line : l.place.line ≤ l.i + 1;
  column : l.place.column ≤ l.i + 1;
}
