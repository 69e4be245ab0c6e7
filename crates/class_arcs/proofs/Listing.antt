-- Class lists over the children of a node.
use Rattle.std.proofs.Common.{◌≡◌, ap, refl, Bool, true, false, List, [], ◌∷◌, ◌++◌}
use Rattle.path_maps.specs.declared.kind.ArcKind.{ArcKind}
use Rattle.composition.specs.Paths.{limits}
use Rattle.composition.specs.Arcs.{same_kind}
use Rattle.composition.specs.Nodes.{Node}
use Rattle.composition.specs.Trees.{Class, same_class, hands_up, lifted_through, classes, own_classes, handed_up, classes_from}
use Rattle.list_ops.specs.ListEdits.{firsts}
use Rattle.prim_trees.specs.declared.tree.Tree.{Tree, out-Tree}
use Rattle.prim_trees.specs.declared.tree.Child.{Child, out-Child}
use Rattle.prim_trees.specs.Meant.{meant, trees_of}
use Rattle.prim_trees.specs.Unfolded.{meant_is}

module _ (k : ArcKind) (n : Node) where
  -- whether there was room for further arcs makes no difference
  own_cut_or_not : (cs : List Child) (is_cut : Bool) → own_classes limits k n (trees_of cs is_cut) ≡ own_classes limits k n (trees_of cs false)
  own_cut_or_not [] true = refl
  own_cut_or_not [] false = refl
  own_cut_or_not (c ∷ cs) is_cut =
      ap (λ (rest : List Class). elim (same_kind k (out-Child c).branch.kind) as (λ _. List Class) [
        | true ↦ ((out-Child c).branch.level, (out-Child c).branch.lead.target) ∷ lifted_through limits n (out-Child c).branch (classes limits k (meant (out-Child c).tree)) ++ rest
        | false ↦ rest
      ]) (own_cut_or_not cs is_cut)

  handed_cut_or_not : (cs : List Child) (is_cut : Bool) → handed_up limits k n (trees_of cs is_cut) ≡ handed_up limits k n (trees_of cs false)
  handed_cut_or_not [] true = refl
  handed_cut_or_not [] false = refl
  handed_cut_or_not (c ∷ cs) is_cut =
      ap (λ (rest : List Class). elim (hands_up k (out-Child c).branch.kind) as (λ _. List Class) [
        | true ↦ lifted_through limits n (out-Child c).branch (classes limits k (meant (out-Child c).tree)) ++ rest
        | false ↦ rest
      ]) (handed_cut_or_not cs is_cut)

  pub cut_or_not : (cs : List Child) (is_cut : Bool) → classes_from limits k n (trees_of cs is_cut) ≡ classes_from limits k n (trees_of cs false)
  cut_or_not cs is_cut i = firsts same_class (own_cut_or_not cs is_cut i ++ handed_cut_or_not cs is_cut i)

pub classes_is : (k : ArcKind) (t : Tree) → classes limits k (meant t) ≡ classes_from limits k (out-Tree t).node (trees_of (out-Tree t).own (out-Tree t).own_cut)
classes_is k t = ap (classes limits k) (meant_is t)
