-- Entries of a listing as they are kept, and what stands under the children of a node.
use Rattle.std.specs.Prelude.{ℕ, Bool, true, false, List, [], ◌++◌, map}
use Rattle.path_maps.specs.declared.kind.ArcKind.{ArcKind}
use Rattle.path_maps.specs.declared.kind.ArcKind.TheVariants.{Specializes}
use Rattle.composition.specs.Paths.{limits}
use Rattle.composition.specs.Arcs.{same_kind}
use Rattle.composition.specs.Trees.{Class, is_class_of}
use Rattle.composition.specs.Strength as order
use Rattle.composition.specs.Strength.{Parts, above_child, strong, weak}
use Rattle.prim_trees.specs.declared.tree.Tree.{Tree, out-Tree}
use Rattle.prim_trees.specs.declared.tree.Child.{Child, out-Child}
use Rattle.prim_trees.specs.Meant.{meant, led}
use Rattle.site_order.specs.Ranks.{child_rank}
use Rattle.site_order.specs.declared.ranks.Ranked.{Ranked}
use Rattle.site_order.specs.declared.order.Part.{Part}
use Rattle.site_order.specs.declared.order.Part.TheVariants.{Strong, Weak}

-- the tree for which an entry stands, with its rank
abbrev pub entry : Ranked → order.Ranked
entry e = (meant e.tree.now, e.rank)

-- the trees for which the entries stand, in their order
abbrev pub entries : List Ranked → List order.Ranked
entries es = map entry es

-- a part of a tree
unfoldable pub tree_part : Part → ℕ → ℕ → Tree → List order.Ranked
tree_part Strong above rank t = strong limits above rank (meant t)
tree_part Weak above rank t = weak limits above rank (meant t)

-- a child beside whose part its strong part stands
abbrev pub is_promoted : Part → ArcKind → Bool
is_promoted Strong k = false
is_promoted Weak k = same_kind Specializes k

-- what stands under a child in a part of its parent
unfoldable pub child_part : Part → ℕ → Tree → Child → List order.Ranked
child_part part above parent c =
    let rank = child_rank above parent c in
    let below = above_child above (led c).0 in
    (elim (is_promoted part (led c).0.kind) [ true ↦ tree_part Strong below rank (out-Child c).tree | false ↦ [] ]) ++ tree_part part below rank (out-Child c).tree

-- the same of some children, each with its arc
abbrev pub parts_of : Part → ℕ → Tree → List Child → Parts
parts_of part above parent cs = map (λ c. ((led c).0, child_part part above parent c)) cs

-- of all children of a node
abbrev pub all_parts : Part → ℕ → Tree → Parts
all_parts part above t = parts_of part above t (out-Tree t).own ++ parts_of part above t (out-Tree t).lifted

-- the arc of the child is of the class
abbrev pub leads_to : ArcKind → Class → Child → Bool
leads_to k c x = is_class_of k c (led x).0
