use Rattle.std.proofs.Common.{◌≡◌, take}
use Rattle.std.specs.List.{flat_map}
use Rattle.layer_set.specs.LookUps.{look_ups}
use Rattle.arc_expand.specs.Arcs.{asked_by}
use Rattle.arc_expand.proofs.reads.asked_by_all.Given as goal

abbrev pub invariant-loop-one : goal.invariant-loop-one
invariant-loop-one l = l.names ≡ flat_map (λ a. asked_by (look_ups l.world) a.item.source) (take l.one-index l.all)
