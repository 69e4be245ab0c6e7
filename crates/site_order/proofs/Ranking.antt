-- Ranks, child by child.
use Rattle.std.proofs.Common.{◌≡◌, ◌∙◌, ap, refl, ℕ, ◌+◌, Bool, true, false, ◌||◌, List, [], ◌∷◌}
use Rattle.std.specs.List.{list_any}
use Rattle.prim_nodes.specs.declared.node.Node.{Node}
use Rattle.prim_nodes.specs.declared.arcs.Branch.{Branch}
use Rattle.composition.specs.Texts.{both}
use Rattle.composition.specs.Trees as defined
use Rattle.composition.specs.Trees.{any_child, node_of}
use Rattle.composition.specs.Strength.{is_class_child, has_class_child, leads_on, rank_of, one_if, is_lifted_inherits}
use Rattle.prim_trees.specs.declared.tree.Tree.{Tree, out-Tree}
use Rattle.prim_trees.specs.declared.tree.Child.{Child, out-Child}
use Rattle.prim_trees.specs.Meant.{meant, trees_of, led}
use Rattle.prim_trees.specs.Unfolded.{meant_is, node_is}
use Rattle.site_order.specs.Ranks.{is_class_there, shares, child_rank}
use Rattle.site_order.proofs.Counting.{either}

any_listed : (test : Branch → defined.Tree → Bool) (cs : List Child) (is_cut : Bool) → any_child test (trees_of cs is_cut) ≡ list_any (λ c. test (led c).0 (led c).1) cs
any_listed test [] true = refl
any_listed test [] false = refl
any_listed test (c ∷ cs) is_cut = either (test (led c).0 (led c).1) (any_child test (trees_of cs is_cut)) ∙ ap (λ b. test (led c).0 (led c).1 || b) (any_listed test cs is_cut)

pub class_child_is : (n : Node) (t : Tree) → has_class_child n (meant t) ≡ (list_any (is_class_there n) (out-Tree t).own || list_any (is_class_there n) (out-Tree t).lifted)
class_child_is n t =
    ap (has_class_child n) (meant_is t)
    ∙ either (any_child (is_class_child n) (trees_of (out-Tree t).own (out-Tree t).own_cut)) (any_child (is_class_child n) (trees_of (out-Tree t).lifted (out-Tree t).lifted_cut))
    ∙ λ i. any_listed (is_class_child n) (out-Tree t).own (out-Tree t).own_cut i || any_listed (is_class_child n) (out-Tree t).lifted (out-Tree t).lifted_cut i

-- whether a class child is a node of this site
pub class_there_is : (n : Node) (c : Child) → node_of (led c).1 ≡ (out-Tree (out-Child c).tree).node
class_there_is n c = node_is (out-Child c).tree

pub rank_is : (above : ℕ) (parent : Tree) (c : Child)
    → child_rank above parent c ≡ above + one_if (both (is_lifted_inherits (out-Child c).branch) (list_any (shares (out-Tree (out-Child c).tree).node) (out-Tree parent).own))
unfolding child_rank
rank_is above parent c =
    let siblings = trees_of (out-Tree parent).own (out-Tree parent).own_cut in
    let n = (out-Tree (out-Child c).tree).node in
    ap (rank_of above siblings (led c).0) (node_is (out-Child c).tree)
    ∙ ap (λ b. above + one_if (both (is_lifted_inherits (out-Child c).branch) b)) (any_listed (λ b t. both (leads_on b) (has_class_child n t)) (out-Tree parent).own (out-Tree parent).own_cut)
