use Rattle.std.proofs.Common.{◌≡◌, ◌++◌, drop, false}
use Rattle.composition.specs.Paths.{limits}
use Rattle.composition.specs.Trees.{own_classes, handed_up}
use Rattle.prim_trees.specs.Meant.{trees_of}
use Rattle.class_arcs.proofs.lists.+classes.Given as goal

abbrev pub invariant-push_own-loop-child : goal.invariant-push_own-loop-child
invariant-push_own-loop-child l =
    l.out ++ own_classes limits l.kind l.node (trees_of (drop l.child-index l.own) false) ≡ l.fn.out ++ own_classes limits l.kind l.node (trees_of l.own false)

abbrev pub invariant-push_handed_up-loop-child : goal.invariant-push_handed_up-loop-child
invariant-push_handed_up-loop-child l =
    l.out ++ handed_up limits l.kind l.node (trees_of (drop l.child-index l.own) false) ≡ l.fn.out ++ handed_up limits l.kind l.node (trees_of l.own false)
