use Rattle.std.proofs.Common.{◌≡◌, ◌++◌, take, drop}
use Rattle.sdf_values.specs.NumberTexts.{before_mark, after_mark}
use Rattle.sdf_values.proofs.parse.mark_at.Given as goal

abbrev pub invariant-loop-at : goal.invariant-loop-at
invariant-loop-at l = record {
  front : before_mark l.text ≡ take l.at l.text ++ before_mark (drop l.at l.text);
  back : after_mark l.text ≡ after_mark (drop l.at l.text);
}
