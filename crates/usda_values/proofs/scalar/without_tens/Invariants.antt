use Rattle.std.proofs.Common.{◌≡◌, ◌-◌}
use Rattle.usda_values.specs.Scalars.{stripped}
use Rattle.usda_values.proofs.scalar.without_tens.Given as goal

abbrev pub invariant-loop-tens : goal.invariant-loop-tens
invariant-loop-tens l = stripped (39 - l.tens) l.digits l.tens ≡ stripped 39 l.n 0
