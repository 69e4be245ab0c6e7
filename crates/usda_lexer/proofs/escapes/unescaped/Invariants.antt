use Rattle.std.proofs.Common.{◌≡◌, ◌++◌, drop, false}
use Rattle.usda_lexer.specs.Meanings.{unescaped}
use Rattle.usda_lexer.proofs.escapes.unescaped.Given as goal

abbrev pub invariant-loop-i : goal.invariant-loop-i
invariant-loop-i l = l.out.items ++ unescaped l.taken l.after (drop l.i l.bytes) ≡ unescaped 0 false l.bytes
