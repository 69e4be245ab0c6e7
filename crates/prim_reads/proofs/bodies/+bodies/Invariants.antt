use Rattle.std.proofs.Common.{◌≡◌, ◌++◌, drop, map}
use Rattle.layer_set.specs.LookUps.{look_ups}
use Rattle.prim_trees.specs.Meant.{led}
use Rattle.prim_reads.specs.Gathered.{led_bodies}
use Rattle.prim_reads.proofs.bodies.+bodies.Given as goal

abbrev pub invariant-push_children-loop-child : goal.invariant-push_children-loop-child
invariant-push_children-loop-child l = l.out ++ led_bodies (look_ups l.world) (map led (drop l.child-index l.children)) ≡ l.fn.out ++ led_bodies (look_ups l.world) (map led l.children)
