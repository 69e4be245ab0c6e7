use Rattle.std.proofs.Common.{◌≡◌, ◌++◌, drop, string_bytes}
use Rattle.sdf_paths.specs.Paths.{printed, written_all}
use Rattle.sdf_paths.proofs.looks.print.Given as goal

abbrev pub invariant-loop-element : goal.invariant-loop-element
invariant-loop-element l = string_bytes l.out ++ written_all l.after (drop l.element-index l.elements) ≡ printed l.elements
