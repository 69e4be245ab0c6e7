-- In the trees that composition grows, what is said at a node stands in the tree, and no more variants follow each other than there are steps.
use Rattle.std.proofs.Common.{◌≡◌, refl, ℕ, zero, suc, ◌-◌, Bool, true, false, List, [], ◌∷◌}
use Rattle.path_maps.specs.declared.kind.ArcKind.TheVariants.{Variant}
use Rattle.composition.specs.Arcs.{same_kind}
use Rattle.composition.specs.Paths.{Limits}
use Rattle.composition.specs.Nodes.{Node, Here}
use Rattle.composition.specs.Trees.{Tree, node, Trees, none, cut, child, size, size_among, Branch, own_branches, lifted_branches, Meaning, grown, child_tree, variant_child, arc_child, tree_with}
use Rattle.composition.specs.Compose.{bottom, meaning}
use Rattle.prim_index.specs.Depths.{deeper, tree_below}

abbrev pub IfVariant : Bool → Type 0 → Type 0 → Type 0
IfVariant true A B = A
IfVariant false A B = B

module _ (h : Node → Here) (Below : Tree → Type 0) where
  -- so it is in the trees of these children, by what is told of a variant's
  abbrev pub AreTold : (Tree → Type 0) → Trees → Type 0
  AreTold Variants none = Unit {0}
  AreTold Variants cut = Unit {0}
  AreTold Variants (child b t ts) = IfVariant (same_kind Variant b.kind) (Variants t) (Below t) × AreTold Variants ts

  -- what is said at a node stands in the tree, and so it is with the variants below it, of which so many may follow each other
  abbrev pub IsTold : ℕ → Tree → Type 0
  IsTold zero (node n x own lifted) = (x ≡ h n) × AreTold (λ t. ⊥) own × AreTold (λ t. ⊥) lifted
  IsTold (suc s) (node n x own lifted) = (x ≡ h n) × AreTold (IsTold s) own × AreTold (IsTold s) lifted

  module _ (l : Limits) (m : Meaning) (told : (room : ℕ) (n : Node) → Below (m.tree room n)) where
    told_child : (s : ℕ) → ((room : ℕ) (n : Node) → IsTold s (tree_with l h m s room n)) → (n : Node) (b : Branch) (room : ℕ) (c : Bool)
        → IfVariant c (IsTold s (elim c as (λ _. Tree) [ true ↦ tree_with l h m s room (variant_child m n b) | false ↦ m.tree room (arc_child m n b) ]))
        (Below (elim c as (λ _. Tree) [ true ↦ tree_with l h m s room (variant_child m n b) | false ↦ m.tree room (arc_child m n b) ]))
    told_child s rest n b room true = rest room (variant_child m n b)
    told_child s rest n b room false = told room (arc_child m n b)

    told_grown : (s : ℕ) → ((room : ℕ) (n : Node) → IsTold s (tree_with l h m s room n)) → (n : Node) (room : ℕ) (bs : List Branch)
        → AreTold (IsTold s) (grown (child_tree m (tree_with l h m s) n) room bs)
    told_grown s rest n room [] = tt
    told_grown s rest n zero (b ∷ bs) = tt
    told_grown s rest n (suc room) (b ∷ bs) =
        (told_child s rest n b (suc room) (same_kind Variant b.kind), told_grown s rest n (suc room - size (child_tree m (tree_with l h m s) n b (suc room))) bs)

    pub told_tree : (s room : ℕ) (n : Node) → IsTold s (tree_with l h m s room n)
    told_tree zero room n = (refl, tt, tt)
    told_tree (suc s) room n =
        let own : Trees = grown (child_tree m (tree_with l h m s) n) (room - 1) (own_branches n (h n)) in (
          refl,
          told_grown s (told_tree s) n (room - 1) (own_branches n (h n)),
          told_grown s (told_tree s) n (room - 1 - size_among own) (lifted_branches l n own),
        )
