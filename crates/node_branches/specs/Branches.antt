-- The classes that are lifted: the definitions of composition under names of their own.
use Rattle.std.specs.Prelude.{true, false, List, flat_map}
use Rattle.path_maps.specs.declared.kind.ArcKind.{ArcKind}
use Rattle.composition.specs.Paths.{limits}
use Rattle.composition.specs.Nodes.{Node}
use Rattle.composition.specs.Trees.{Branch, Class, classes_from, lifted_branch, in_own_stack}
use Rattle.prim_trees.specs.declared.tree.Child.{Child}
use Rattle.prim_trees.specs.Meant.{trees_of}

-- the arc to a class
abbrev pub class_branch : ArcKind → Node → Class → Branch
class_branch k n c = record { kind = k; level = c.0; lead = in_own_stack n c.1; lifted = true }

-- the arc to a class, where it has a child
unfoldable pub lifted_of : ArcKind → Node → List Child → Class → List Branch
lifted_of k n own c = lifted_branch limits k n (trees_of own false) c

-- the arcs of a kind to classes
unfoldable pub lifted_kind : Node → List Child → ArcKind → List Branch
lifted_kind n own k = flat_map (lifted_of k n own) (classes_from limits k n (trees_of own false))
