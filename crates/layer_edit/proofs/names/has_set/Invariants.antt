use Rattle.std.proofs.Common.{◌≡◌, drop}
use Rattle.std.specs.List.{list_any}
use Rattle.layer_edit.specs.Prims.{is_of}
use Rattle.layer_edit.proofs.names.has_set.Given as goal

abbrev pub invariant-loop-names : goal.invariant-loop-names
invariant-loop-names l = list_any (is_of l.set) (drop l.names-index l.sets) ≡ list_any (is_of l.set) l.sets
