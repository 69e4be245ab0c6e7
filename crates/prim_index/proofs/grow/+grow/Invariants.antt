use Rattle.std.proofs.Common.{◌≡◌, ◌+◌, ◌*◌, ◌-◌, drop, map, ◌^◌, false}
use Rattle.composition.specs.Paths.{limits}
use Rattle.composition.specs.Trees.{size_among}
use Rattle.layer_set.specs.LookUps.{look_ups}
use Rattle.prim_trees.specs.Meant.{led, trees_of}
use Rattle.prim_index.specs.Reading.{said}
use Rattle.prim_index.specs.Depths.{grown_below}
use Rattle.prim_index.specs.Grown.{before}
use Rattle.prim_index.proofs.grow.+grow.Given as goal

-- a tree stands above the children of fewer steps, and the frames of a depth above its trees
abbrev pub decreases-tree_at : goal.decreases-tree_at
decreases-tree_at l = l.depth * 2 ^ 65 + (l.steps * 4 + 2)

abbrev pub decreases-children_at : goal.decreases-children_at
decreases-children_at l = l.depth * 2 ^ 65 + (l.steps * 4 + 4)

abbrev pub decreases-child_at : goal.decreases-child_at
decreases-child_at l = l.depth * 2 ^ 65 + (l.steps * 4 + 3)

abbrev pub decreases-grown_at : goal.decreases-grown_at
decreases-grown_at l = l.depth * 2 ^ 65 + (l.steps * 4 + 5)

abbrev pub decreases-round_at : goal.decreases-round_at
decreases-round_at l = l.depth * 2 ^ 65 + 16400

abbrev pub decreases-rounds_at : goal.decreases-rounds_at
decreases-rounds_at l = l.depth * 2 ^ 65 + (16401 + l.rounds)

abbrev pub decreases-frames_at : goal.decreases-frames_at
decreases-frames_at l = l.depth * 2 ^ 65 + (16418 + l.count)

abbrev pub invariant-children_at-loop-branch : goal.invariant-children_at-loop-branch
invariant-children_at-loop-branch l = record {
  trees : before (map led l.children) (grown_below limits (said limits (look_ups l.world)) l.depth l.steps l.node l.left (drop l.branch-index l.arcs))
      ≡ grown_below limits (said limits (look_ups l.world)) l.depth l.steps l.node l.room l.arcs;
  room : l.left ≡ l.room - size_among (trees_of l.children false);
}
