use Rattle.std.proofs.Common.{◌≡◌, take}
use Rattle.std.specs.List.{filter_map}
use Rattle.arc_expand.specs.Arcs.{arc_of}
use Rattle.arc_expand.proofs.arcs.arcs.Given as goal

abbrev pub invariant-loop-one : goal.invariant-loop-one
invariant-loop-one l = l.arcs ≡ filter_map arc_of (take l.one-index l.all)
