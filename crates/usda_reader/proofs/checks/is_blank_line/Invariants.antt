use Rattle.std.proofs.Common.{◌≡◌, drop}
use Rattle.usda_reader.specs.Checks.{is_blank_line}
use Rattle.usda_reader.proofs.checks.is_blank_line.Given as goal

abbrev pub invariant-loop-i : goal.invariant-loop-i
invariant-loop-i l = is_blank_line (drop l.i l.bytes) ≡ is_blank_line l.bytes
