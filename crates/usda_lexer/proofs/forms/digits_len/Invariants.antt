use Rattle.std.proofs.Common.{◌≡◌, ◌<◌, ◌+◌, ◌-◌, drop, get_or}
use Rattle.std.specs.List.{prefix_len}
use Rattle.sdf_values.specs.NumberTexts.{is_digit}
use Rattle.usda_lexer.proofs.forms.digits_len.Given as goal

abbrev pub invariant-loop-i : goal.invariant-loop-i
invariant-loop-i l = record {
  same : prefix_len is_digit l.bytes ≡ l.i + prefix_len is_digit (drop l.i l.bytes);
  last : 0 < l.i → get_or l.bytes (l.i - 1) 0 < 128;
}
