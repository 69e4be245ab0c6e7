use Rattle.std.proofs.Common.{◌≡◌, drop}
use Rattle.sdf_values.specs.NumberTexts.{after_point}
use Rattle.sdf_values.proofs.parse.decimals.Given as goal

abbrev pub invariant-loop-at : goal.invariant-loop-at
invariant-loop-at l = after_point l.front ≡ after_point (drop l.at l.front)
