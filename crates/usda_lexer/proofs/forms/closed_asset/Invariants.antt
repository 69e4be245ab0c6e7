use Rattle.std.proofs.Common.{◌≡◌, ◌≤◌, ◌+◌, drop}
use Rattle.usda_lexer.specs.Forms.{closed_asset}
use Rattle.usda_lexer.proofs.forms.closed_asset.Given as goal

abbrev pub invariant-loop-i : goal.invariant-loop-i
invariant-loop-i l = record {
  same : closed_asset l.run (l.i + 3) (drop l.i l.bytes) ≡ closed_asset 0 3 l.bytes;
  few : l.run ≤ 2;
}
