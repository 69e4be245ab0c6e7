use Rattle.std.proofs.Common.{◌≡◌, ◌++◌, drop}
use Rattle.sdf_paths.specs.Paths.{plain}
use Rattle.sdf_paths.proofs.edits.without_selections.Given as goal

abbrev pub invariant-loop-element : goal.invariant-loop-element
invariant-loop-element l = l.out ++ plain (drop l.element-index l.elements) ≡ plain l.elements
