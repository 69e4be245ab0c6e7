use Rattle.std.proofs.Common.{◌≡◌, ◌-◌, drop, map, false}
use Rattle.composition.specs.Trees.{size_among}
use Rattle.layer_set.specs.LookUps.{look_ups}
use Rattle.prim_trees.specs.Meant.{led, meant, trees_of}
use Rattle.prim_index.specs.Extending.{arc_tree, grown_from, known_of, found_in}
use Rattle.prim_index.specs.Grown.{before}
use Rattle.prim_index.proofs.extend.+extend.Given as goal

abbrev pub invariant-children_below-loop-branch : goal.invariant-children_below-loop-branch
invariant-children_below-loop-branch l = record {
  trees : before (map led l.children) (grown_from (arc_tree (look_ups l.world) l.frame l.name (meant l.tree) l.node) l.left (drop l.branch-index l.arcs))
      ≡ grown_from (arc_tree (look_ups l.world) l.frame l.name (meant l.tree) l.node) l.room l.arcs;
  room : l.left ≡ l.room - size_among (trees_of l.children false);
}

abbrev pub invariant-known_below-loop-child : goal.invariant-known_below-loop-child
invariant-known_below-loop-child l =
    found_in (known_of (look_ups l.world) l.frame l.name (drop l.child-index l.children)) l.branch l.room
    ≡ found_in (known_of (look_ups l.world) l.frame l.name l.children) l.branch l.room
