use Rattle.std.proofs.Common.{◌≡◌, drop}
use Rattle.sdf_paths.specs.Paths.{plain, has_prefix}
use Rattle.sdf_paths.proofs.looks.has_plain_prefix.Given as goal

abbrev pub invariant-loop-element : goal.invariant-loop-element
invariant-loop-element l = has_prefix (plain (drop l.element-index l.front)) (plain l.rest) ≡ has_prefix (plain l.front) (plain l.path)
