use Rattle.std.proofs.Common.{◌≡◌, drop, false}
use Rattle.sdf_paths.specs.Paths.{ends_selected}
use Rattle.usda_fields.proofs.names.ends_selected.Given as goal

abbrev pub invariant-loop-element : goal.invariant-loop-element
invariant-loop-element l = ends_selected l.after (drop l.element-index l.elements) ≡ ends_selected false l.elements
