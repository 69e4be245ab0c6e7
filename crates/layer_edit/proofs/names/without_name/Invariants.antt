use Rattle.std.proofs.Common.{◌≡◌}
use Rattle.layer_edit.specs.Prims.{without_name}
use Rattle.layer_edit.proofs.names.without_name.Given as goal

abbrev pub invariant-loop-other : goal.invariant-loop-other
invariant-loop-other l = l.left ≡ without_name l.name l.yielded
