-- Which tree of composition's definitions a tree stands for.
use Rattle.std.specs.Prelude.{Bool, true, false, List, [], ◌∷◌, map}
use Rattle.prim_nodes.specs.declared.arcs.Branch.{Branch}
use Rattle.composition.specs.Trees as defined
use Rattle.composition.specs.Trees.{Trees, node, none, cut, child}
use Rattle.prim_trees.specs.declared.tree.Tree.{Tree, fold-Tree}
use Rattle.prim_trees.specs.declared.tree.Child.{Child, out-Child}
use Rattle.prim_trees.specs.declared.tree.Child.TheOpen.{Tree-F, Child-F}

-- an arc with the tree of composition's definitions to which it leads
abbrev pub Led : Type 0
Led = Branch × defined.Tree

-- such arcs as the children of a node, in their order, and whether there was no room for further ones
abbrev pub all_of : List Led → Bool → Trees
all_of [] false = none
all_of [] true = cut
all_of (c ∷ cs) is_cut = child c.0 c.1 (all_of cs is_cut)

-- a node over its children, which are given as arcs with their trees
abbrev pub tree_step : Tree-F Led defined.Tree → defined.Tree
tree_step t = node t.node t.here (all_of t.own t.own_cut) (all_of t.lifted t.lifted_cut)

-- a child's arc, and the tree that is given for it
abbrev pub child_step : Child-F Led defined.Tree → Led
child_step c = (c.branch, c.tree)

-- the tree of composition's definitions for which a tree of the code stands
abbrev pub meant : Tree → defined.Tree
meant = fold-Tree Led defined.Tree child_step tree_step

-- a child's arc with the tree for which its tree stands
abbrev pub led : Child → Led
led c = ((out-Child c).branch, meant (out-Child c).tree)

-- the children of a node, and whether there was no room for further ones
abbrev pub trees_of : List Child → Bool → Trees
trees_of cs is_cut = all_of (map led cs) is_cut
