use Rattle.std.proofs.Common.{◌≡◌, ◌++◌, map, take}
use Rattle.layer_set.specs.LookUps.{look_ups}
use Rattle.prim_index.specs.Reading.{tried_of}
use Rattle.prim_index.proofs.reading.push_items.Given as goal

abbrev pub invariant-loop-item : goal.invariant-loop-item
invariant-loop-item l = l.out ≡ l.initial.out ++ map (tried_of (look_ups l.world) l.node l.kind l.level) (take l.item-index l.items)
