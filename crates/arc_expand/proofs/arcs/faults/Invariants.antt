use Rattle.std.proofs.Common.{◌≡◌, take}
use Rattle.std.specs.List.{filter_map}
use Rattle.arc_expand.specs.Arcs.{fault_of}
use Rattle.arc_expand.proofs.arcs.faults.Given as goal

abbrev pub invariant-loop-one : goal.invariant-loop-one
invariant-loop-one l = l.faults ≡ filter_map (fault_of l.at l.kind) (take l.one-index l.all)
