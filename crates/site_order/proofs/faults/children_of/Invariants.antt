use Rattle.std.proofs.Common.{◌≡◌, ◌++◌, drop, false}
use Rattle.composition.specs.Faults.{own_children}
use Rattle.prim_trees.specs.Meant.{trees_of}
use Rattle.site_order.specs.Places.{trees_shown}
use Rattle.site_order.proofs.faults.children_of.Given as goal

abbrev pub invariant-loop-child : goal.invariant-loop-child
invariant-loop-child l = trees_shown l.trees.items ++ own_children l.kind (trees_of (drop l.child-index l.own) false) ≡ own_children l.kind (trees_of l.own false)
