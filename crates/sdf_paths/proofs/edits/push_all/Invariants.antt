use Rattle.std.proofs.Common.{◌≡◌, ◌++◌, take}
use Rattle.sdf_paths.proofs.edits.push_all.Given as goal

abbrev pub invariant-loop-element : goal.invariant-loop-element
invariant-loop-element l = l.out ≡ l.initial.out ++ take l.element-index l.elements
