use Rattle.std.proofs.Common.{◌≡◌, ◌+◌, drop, length, false}
use Rattle.std.specs.Str.{chars, IsUtf8, IsCharBoundary}
use Rattle.usda_lexer.specs.Names.{name_end}
use Rattle.usda_lexer.proofs.name.name_len.Given as goal

abbrev pub invariant-loop-c : goal.invariant-loop-c
invariant-loop-c l = record {
  same : name_end false 0 0 (chars l.text) ≡ name_end l.begun l.end l.at (chars l.c-iterator.rest.now);
  rest : drop l.at l.text ≡ l.c-iterator.rest.now;
  len : l.at + length l.c-iterator.rest.now ≡ length l.text;
  utf8 : IsUtf8 l.c-iterator.rest.now;
  boundary : IsCharBoundary l.text l.end;
}
