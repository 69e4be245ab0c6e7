-- The rank of a child of a node.
use Rattle.std.specs.Prelude.{ℕ, Bool}
use Rattle.prim_nodes.specs.declared.node.Node.{Node}
use Rattle.composition.specs.Texts.{both}
use Rattle.composition.specs.Trees.{node_of}
use Rattle.composition.specs.Strength.{rank_of, leads_on, is_class_child, has_class_child}
use Rattle.prim_trees.specs.declared.tree.Tree.{Tree, out-Tree}
use Rattle.prim_trees.specs.declared.tree.Child.{Child}
use Rattle.prim_trees.specs.Meant.{trees_of, led}

-- the child is an inherits child that is a node of this site
abbrev pub is_class_there : Node → Child → Bool
is_class_there n c = is_class_child n (led c).0 (led c).1

-- the child is a variant, a reference or a payload of which this site is a class
abbrev pub shares : Node → Child → Bool
shares n c = both (leads_on (led c).0) (has_class_child n (led c).1)

-- the rank of a child, where so many lifted inherits nodes stand above it; its siblings are the own children of its parent
unfoldable pub child_rank : ℕ → Tree → Child → ℕ
child_rank above parent c = rank_of above (trees_of (out-Tree parent).own (out-Tree parent).own_cut) (led c).0 (node_of (led c).1)
