use Rattle.std.proofs.Common.{◌≡◌, drop}
use Rattle.usda_lexer.specs.Blanks.{gap}
use Rattle.usda_lexer.specs.declared.blanks.Between.TheVariants.{Blank}
use Rattle.usda_lexer.proofs.Cuts.{MayCut}
use Rattle.usda_lexer.proofs.blanks.gap_len.Given as goal

abbrev pub invariant-loop-i : goal.invariant-loop-i
invariant-loop-i l = record {
  same : gap l.state l.opened l.i (drop l.i l.bytes) ≡ gap Blank 0 0 l.bytes;
  cut : MayCut l.state l.bytes l.i;
}
