use Rattle.std.proofs.Common.{◌≡◌, ◌+◌, ◌*◌, ◌^◌, ◌++◌, drop, map}
use Rattle.layer_set.specs.LookUps.{look_ups}
use Rattle.prim_trees.specs.Meant.{led}
use Rattle.prim_reads.specs.Gathered.{children_keys}
use Rattle.prim_reads.proofs.gather.+gather.Given as goal

-- a tree stands above its variants and above all of fewer arcs, and the frames of a depth above its trees
abbrev pub decreases-gather_tree : goal.decreases-gather_tree
decreases-gather_tree l = l.depth * 2 ^ 65 + (l.steps * 4 + 2)

abbrev pub decreases-gather_children : goal.decreases-gather_children
decreases-gather_children l = l.depth * 2 ^ 65 + (l.steps * 4 + 1)

abbrev pub decreases-gather_child : goal.decreases-gather_child
decreases-gather_child l = l.depth * 2 ^ 65 + l.steps * 4

abbrev pub decreases-gather_round : goal.decreases-gather_round
decreases-gather_round l = l.depth * 2 ^ 65 + 16400

abbrev pub decreases-gather_rounds : goal.decreases-gather_rounds
decreases-gather_rounds l = l.depth * 2 ^ 65 + (16401 + l.rounds)

abbrev pub decreases-gather_frames : goal.decreases-gather_frames
decreases-gather_frames l = l.depth * 2 ^ 65 + (16418 + l.count)

abbrev pub invariant-gather_children-loop-child : goal.invariant-gather_children-loop-child
invariant-gather_children-loop-child l =
    l.out ++ children_keys (look_ups l.world) l.depth l.steps l.node (map led (drop l.child-index l.children)) ≡ l.fn.out ++ children_keys (look_ups l.world) l.depth l.steps l.node (map led l.children)
