-- The two parts of a tree, by what stands under its children.
use Rattle.std.proofs.Common.{◌≡◌, ◌∙◌, sym, ap, refl, subst, ℕ, Bool, true, false, ◌||◌, List, [], ◌∷◌, ◌++◌, append-nil}
use Rattle.std.specs.List.{list_any}
use Rattle.path_maps.specs.declared.kind.ArcKind.{ArcKind}
use Rattle.path_maps.specs.declared.kind.ArcKind.TheVariants.{Inherits, Specializes}
use Rattle.composition.specs.Paths.{limits}
use Rattle.composition.specs.Arcs.{same_kind}
use Rattle.composition.specs.Trees as defined
use Rattle.composition.specs.Trees.{Trees, node, Class, is_class_of, classes, node_of}
use Rattle.composition.specs.Strength as order
use Rattle.composition.specs.Strength.{above_child, rank_of, strong, strong_parts, weak, weak_parts, part_of, by_classes, by_strength}
use Rattle.prim_trees.specs.declared.tree.Tree.{Tree, out-Tree}
use Rattle.prim_trees.specs.declared.tree.Child.{Child}
use Rattle.prim_trees.specs.Meant.{meant, trees_of, led}
use Rattle.prim_trees.specs.Unfolded.{meant_is}
use Rattle.site_order.specs.declared.order.Part.{Part}
use Rattle.site_order.specs.declared.order.Part.TheVariants.{Strong, Weak}
use Rattle.site_order.specs.Ranks.{child_rank}
use Rattle.site_order.specs.Entries.{tree_part, child_part, parts_of, all_parts, leads_to}

abbrev Rows : Type 0
Rows = List order.Ranked

module _ (above : ℕ) (parent : Tree) where
  abbrev siblings : Trees
  siblings = trees_of (out-Tree parent).own (out-Tree parent).own_cut

  abbrev below : Child → ℕ
  below c = above_child above (led c).0

  abbrev rank : Child → ℕ
  rank c = rank_of above siblings (led c).0 (node_of (led c).1)

  strong_child : (c : Child) → strong limits (below c) (rank c) (led c).1 ≡ child_part Strong above parent c
  unfolding child_part child_rank tree_part
  strong_child c = refl

  strong_listed : (cs : List Child) (is_cut : Bool) → strong_parts limits above siblings (trees_of cs is_cut) ≡ parts_of Strong above parent cs
  strong_listed [] true = refl
  strong_listed [] false = refl
  strong_listed (c ∷ cs) is_cut = λ i. ((led c).0, strong_child c i) ∷ strong_listed cs is_cut i

  abbrev promoted : Rows → Rows → Bool → Rows
  promoted s w b = elim b as (λ _. Rows) [ true ↦ s ++ w | false ↦ w ]

  put_before : (s w : Rows) (b : Bool) → promoted s w b ≡ (elim b as (λ _. Rows) [ true ↦ s | false ↦ [] ]) ++ w
  put_before s w true = refl
  put_before s w false = refl

  weak_child : (c : Child) → promoted (strong limits (below c) (rank c) (led c).1) (weak limits (below c) (rank c) (led c).1) (same_kind Specializes (led c).0.kind) ≡ child_part Weak above parent c
  unfolding child_part child_rank tree_part
  weak_child c = put_before (strong limits (below c) (rank c) (led c).1) (weak limits (below c) (rank c) (led c).1) (same_kind Specializes (led c).0.kind)

  weak_listed : (cs : List Child) (is_cut : Bool) → weak_parts limits above siblings (trees_of cs is_cut) ≡ parts_of Weak above parent cs
  weak_listed [] true = refl
  weak_listed [] false = refl
  weak_listed (c ∷ cs) is_cut = λ i. ((led c).0, weak_child c i) ∷ weak_listed cs is_cut i

pub strong_is : (above rank : ℕ) (t : Tree) → tree_part Strong above rank t ≡ ((meant t, rank) ∷ []) ++ by_strength (classes limits Inherits (meant t)) (all_parts Strong above t)
unfolding tree_part
strong_is above rank t =
    let P : defined.Tree → Type 0 = λ x. strong limits above rank x ≡ (x, rank) ∷ by_strength (classes limits Inherits x) (all_parts Strong above t) in
    let n : defined.Tree = node (out-Tree t).node (out-Tree t).here (siblings above t) (trees_of (out-Tree t).lifted (out-Tree t).lifted_cut) in
    subst P (sym (meant_is t)) (λ i.
    (n, rank) ∷ by_strength (classes limits Inherits n) (strong_listed above t (out-Tree t).own (out-Tree t).own_cut i ++ strong_listed above t (out-Tree t).lifted (out-Tree t).lifted_cut i))

pub weak_is : (above rank : ℕ) (t : Tree)
    → tree_part Weak above rank t ≡ by_classes Specializes (classes limits Specializes (meant t)) (all_parts Weak above t) ++ by_strength (classes limits Inherits (meant t)) (all_parts Weak above t)
unfolding tree_part
weak_is above rank t =
    let P : defined.Tree → Type 0 =
    λ x. weak limits above rank x ≡ by_classes Specializes (classes limits Specializes x) (all_parts Weak above t) ++ by_strength (classes limits Inherits x) (all_parts Weak above t) in
    let n : defined.Tree = node (out-Tree t).node (out-Tree t).here (siblings above t) (trees_of (out-Tree t).lifted (out-Tree t).lifted_cut) in
    subst P (sym (meant_is t)) (λ i.
    let parts = weak_listed above t (out-Tree t).own (out-Tree t).own_cut i ++ weak_listed above t (out-Tree t).lifted (out-Tree t).lifted_cut i in
    by_classes Specializes (classes limits Specializes n) parts ++ by_strength (classes limits Inherits n) parts)

-- what stands under the first child of a class among own and lifted ones
pub part_in_both : (k : ArcKind) (c : Class) (part : Part) (above : ℕ) (parent : Tree) (own lifted : List Child)
    → part_of k c (parts_of part above parent own ++ parts_of part above parent lifted)
    ≡ part_of k c (parts_of part above parent own) ++ (elim (list_any (leads_to k c) own) as (λ _. Rows) [ true ↦ [] | false ↦ part_of k c (parts_of part above parent lifted) ])
part_in_both k c part above parent [] lifted = refl
part_in_both k c part above parent (x ∷ own) lifted =
    by_class (is_class_of k c (led x).0) (child_part part above parent x) (part_of k c (parts_of part above parent own)) (part_of k c (parts_of part above parent own ++ parts_of part above parent lifted)) (part_of k c (parts_of part above parent lifted)) (list_any (leads_to k c) own)
    (part_in_both k c part above parent own lifted)
  where
    by_class : (b : Bool) (there rest all later : Rows) (found : Bool) → all ≡ rest ++ (elim found as (λ _. Rows) [ true ↦ [] | false ↦ later ])
        → (elim b as (λ _. Rows) [ true ↦ there | false ↦ all ]) ≡ (elim b as (λ _. Rows) [ true ↦ there | false ↦ rest ]) ++ (elim (b || found) as (λ _. Rows) [ true ↦ [] | false ↦ later ])
    by_class true there rest all later found h = sym (append-nil there)
    by_class false there rest all later found h = h

module _ (k : ArcKind) (c : Class) (part : Part) (above : ℕ) (t : Tree) where
  abbrev own_part : Rows
  own_part = part_of k c (parts_of part above t (out-Tree t).own)

  abbrev lifted_part : Rows
  lifted_part = part_of k c (parts_of part above t (out-Tree t).lifted)

  abbrev after_own : Bool → Rows
  after_own found = own_part ++ (elim found as (λ _. Rows) [ true ↦ [] | false ↦ lifted_part ])

  pub part_of_own : list_any (leads_to k c) (out-Tree t).own ≡ true → part_of k c (all_parts part above t) ≡ own_part
  part_of_own h = part_in_both k c part above t (out-Tree t).own (out-Tree t).lifted ∙ ap after_own h ∙ append-nil own_part

  pub part_of_lifted : list_any (leads_to k c) (out-Tree t).own ≡ false → part_of k c (all_parts part above t) ≡ own_part ++ lifted_part
  part_of_lifted h = part_in_both k c part above t (out-Tree t).own (out-Tree t).lifted ∙ ap after_own h
