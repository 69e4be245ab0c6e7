use Rattle.std.proofs.Common.{◌≡◌, ◌≤◌, ◌<◌, drop}
use Rattle.usda_lexer.specs.Meanings.{octal}
use Rattle.usda_lexer.proofs.escapes.octal.Given as goal

abbrev pub invariant-loop-c : goal.invariant-loop-c
invariant-loop-c l = record {
  same : octal l.len l.value (drop l.c-index l.bytes) ≡ octal 1 l.first l.bytes;
  some : 1 ≤ l.len;
  few : l.len ≤ 3;
  one : l.len ≤ 1 → l.value < 8;
  two : l.len ≤ 2 → l.value < 64;
  all : l.value < 512;
}
