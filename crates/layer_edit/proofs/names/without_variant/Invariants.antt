use Rattle.std.proofs.Common.{◌≡◌}
use Rattle.layer_edit.specs.Prims.{without_variant}
use Rattle.layer_edit.proofs.names.without_variant.Given as goal

abbrev pub invariant-loop-names : goal.invariant-loop-names
invariant-loop-names l = l.left ≡ without_variant l.set l.variant l.yielded
