use Rattle.std.proofs.Common.{◌≡◌, ◌++◌, drop}
use Rattle.layer_set.specs.LookUps.{look_ups}
use Rattle.prim_reads.specs.Gathered.{items_heads}
use Rattle.prim_reads.proofs.node.push_items.Given as goal

abbrev pub invariant-loop-item : goal.invariant-loop-item
invariant-loop-item l = l.out ++ items_heads (look_ups l.world) (drop l.item-index l.items) ≡ l.fn.out ++ items_heads (look_ups l.world) l.items
