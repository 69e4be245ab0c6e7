-- A tree stands for its node with the trees of its children.
use Rattle.std.specs.Prelude.{◌≡◌, List, map}
use Rattle.std.proofs.Common.{ap, ◌∙◌}
use Rattle.composition.specs.Trees as defined
use Rattle.composition.specs.Trees.{node, node_of, here_of}
use Rattle.prim_trees.specs.declared.tree.Tree.{Tree, out-Tree, fold_out-Tree}
use Rattle.prim_trees.specs.declared.tree.Child.{Child, fold-Child, fold_out-Child}
use Rattle.prim_trees.specs.Meant.{Led, tree_step, child_step, meant, all_of, led, trees_of}

all_led : (cs : List Child) → map (fold-Child Led defined.Tree child_step tree_step) cs ≡ map led cs
all_led cs = ap (λ (f : Child → Led). map f cs) (λ i c. fold_out-Child Led defined.Tree child_step tree_step c i)

-- a tree means its node, what the layers say there, and the trees of its children
pub meant_is : (t : Tree) → meant t ≡ node (out-Tree t).node (out-Tree t).here (trees_of (out-Tree t).own (out-Tree t).own_cut) (trees_of (out-Tree t).lifted (out-Tree t).lifted_cut)
meant_is t = fold_out-Tree Led defined.Tree child_step tree_step t ∙ (λ i.
    node (out-Tree t).node (out-Tree t).here (all_of (all_led (out-Tree t).own i) (out-Tree t).own_cut) (all_of (all_led (out-Tree t).lifted i) (out-Tree t).lifted_cut))

-- the node at the top is the same in the tree and in what it means
pub node_is : (t : Tree) → node_of (meant t) ≡ (out-Tree t).node
node_is t = ap node_of (meant_is t)

-- so is what the layers say there
pub here_is : (t : Tree) → here_of (meant t) ≡ (out-Tree t).here
here_is t = ap here_of (meant_is t)
