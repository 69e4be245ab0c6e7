use Rattle.std.proofs.Common.{◌≡◌, map}
use Rattle.layer_edit.specs.Prims.{grown}
use Rattle.layer_edit.proofs.names.all_grown.Given as goal

abbrev pub invariant-loop-names : goal.invariant-loop-names
invariant-loop-names l = l.all ≡ map (grown l.set l.variant) l.yielded
