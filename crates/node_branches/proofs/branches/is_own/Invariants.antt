use Rattle.std.proofs.Common.{◌≡◌, drop, false}
use Rattle.composition.specs.Trees.{any_child, is_class_of}
use Rattle.prim_trees.specs.Meant.{trees_of}
use Rattle.node_branches.proofs.branches.is_own.Given as goal

abbrev pub invariant-loop-child : goal.invariant-loop-child
invariant-loop-child l =
    any_child (λ b t. is_class_of l.kind l.class b) (trees_of (drop l.child-index l.own) false) ≡ any_child (λ b t. is_class_of l.kind l.class b) (trees_of l.own false)
