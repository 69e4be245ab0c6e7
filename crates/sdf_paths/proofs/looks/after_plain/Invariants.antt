use Rattle.std.proofs.Common.{◌≡◌, drop}
use Rattle.sdf_paths.specs.Paths.{plain}
use Rattle.sdf_paths.proofs.looks.after_plain.Given as goal

abbrev pub invariant-loop-i : goal.invariant-loop-i
invariant-loop-i l = plain (drop l.i l.path) ≡ plain l.path
