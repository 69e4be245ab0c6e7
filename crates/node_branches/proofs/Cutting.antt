-- What a node's arcs hand up does not depend on whether there was room for further children.
use Rattle.std.proofs.Common.{◌≡◌, ◌∙◌, sym, ap, refl, Bool, true, false, List, [], ◌∷◌, ◌++◌, append-nil, map, flat_map}
use Rattle.std.specs.Prelude.{Option, Some, None, Result, Ok, Err, OnOk}
use Rattle.std.specs.Option.{is_some}
use Rattle.path_maps.specs.declared.kind.ArcKind.{ArcKind}
use Rattle.path_maps.specs.declared.kind.ArcKind.TheVariants.{Inherits, Specializes}
use Rattle.list_ops.specs.ListEdits.{firsts}
use Rattle.composition.specs.Arcs.{same_kind, Reason}
use Rattle.composition.specs.Paths.{Limits, limits, has_selections}
use Rattle.composition.specs.Nodes.{Node, refusal}
use Rattle.composition.specs.Trees.{Branch, Class, Tree, classes, own_classes, handed_up, hands_up, classes_from, same_class, lifted_through, any_child, is_class_of, lifted_branch, lifted_branches, in_own_stack}
use Rattle.prim_trees.specs.declared.tree.Child.{Child}
use Rattle.prim_trees.specs.Meant.{Led, all_of, led, trees_of}
use Rattle.node_branches.specs.Branches.{class_branch, lifted_of, lifted_kind}

module _ (l : Limits) (k : ArcKind) (n : Node) where
  own_uncut : (cs : List Led) → own_classes l k n (all_of cs true) ≡ own_classes l k n (all_of cs false)
  own_uncut [] = refl
  own_uncut (c ∷ cs) =
      ap (λ (rest : List Class). elim (same_kind k c.0.kind) as (λ _. List Class) [
        | true ↦ (c.0.level, c.0.lead.target) ∷ lifted_through l n c.0 (classes l k c.1) ++ rest
        | false ↦ rest
      ]) (own_uncut cs)

  up_uncut : (cs : List Led) → handed_up l k n (all_of cs true) ≡ handed_up l k n (all_of cs false)
  up_uncut [] = refl
  up_uncut (c ∷ cs) =
      ap (λ (rest : List Class). elim (hands_up k c.0.kind) as (λ _. List Class) [
        | true ↦ lifted_through l n c.0 (classes l k c.1) ++ rest
        | false ↦ rest
      ]) (up_uncut cs)

  classes_uncut : (cs : List Led) → classes_from l k n (all_of cs true) ≡ classes_from l k n (all_of cs false)
  classes_uncut cs = λ i. firsts same_class (own_uncut cs i ++ up_uncut cs i)

any_uncut : (test : Branch → Tree → Bool) (cs : List Led) → any_child test (all_of cs true) ≡ any_child test (all_of cs false)
any_uncut test [] = refl
any_uncut test (c ∷ cs) = ap (λ (rest : Bool). elim (test c.0 c.1) as (λ _. Bool) [ true ↦ true | false ↦ rest ]) (any_uncut test cs)

branch_uncut : (l : Limits) (k : ArcKind) (n : Node) (cs : List Led) (c : Class) → lifted_branch l k n (all_of cs true) c ≡ lifted_branch l k n (all_of cs false) c
branch_uncut l k n cs c =
    ap (λ (is_own : Bool). elim is_own as (λ _. List Branch) [
      | true ↦ []
      | false ↦ elim (has_selections c.1) as (λ _. List Branch) [
        | true ↦ []
        | false ↦ elim (refusal l n c.0 (in_own_stack n c.1)) as (λ _. List Branch) [
          | Some r ↦ []
          | None ↦ (record { kind = k; level = c.0; lead = in_own_stack n c.1; lifted = true }) ∷ []
        ]
      ]
    ]) (any_uncut (λ b t. is_class_of k c b) cs)

branches_uncut : (l : Limits) (n : Node) (cs : List Led) → lifted_branches l n (all_of cs true) ≡ lifted_branches l n (all_of cs false)
branches_uncut l n cs = λ i. flat_map (λ k. flat_map (λ c. branch_uncut l k n cs c i) (classes_uncut l k n cs i)) (Inherits ∷ Specializes ∷ [])

two_kinds : (n : Node) (cs : List Child) → lifted_branches limits n (trees_of cs false) ≡ lifted_kind n cs Inherits ++ lifted_kind n cs Specializes
unfolding lifted_kind lifted_of
two_kinds n cs = ap (λ (rest : List Branch). lifted_kind n cs Inherits ++ rest) (append-nil (lifted_kind n cs Specializes))

pub lifted_all : (n : Node) (cs : List Child) (is_cut : Bool) → lifted_branches limits n (trees_of cs is_cut) ≡ lifted_kind n cs Inherits ++ lifted_kind n cs Specializes
lifted_all n cs true = branches_uncut limits n (map led cs) ∙ two_kinds n cs
lifted_all n cs false = two_kinds n cs

-- ---- the arc to a class

module _ (k : ArcKind) (n : Node) (cs : List Child) (c : Class) where
  abbrev by_reason : Option Reason → List Branch
  by_reason o = elim o as (λ _. List Branch) [ Some r ↦ [] | None ↦ class_branch k n c ∷ [] ]

  abbrev by_selections : Bool → List Branch
  by_selections b = elim b as (λ _. List Branch) [ true ↦ [] | false ↦ by_reason (refusal limits n c.0 (in_own_stack n c.1)) ]

  abbrev by_own : Bool → List Branch
  by_own b = elim b as (λ _. List Branch) [ true ↦ [] | false ↦ by_selections (has_selections c.1) ]

  abbrev IsOwn : Bool → Type 0
  IsOwn r = r ≡ any_child (λ b t. is_class_of k c b) (trees_of cs false)

  pub lifted_own : (r : Bool) (out : List Branch) → IsOwn r → r ≡ true → out ≡ out ++ lifted_of k n cs c
  unfolding lifted_of
  lifted_own r out is on = sym (ap (λ (more : List Branch). out ++ more) (ap by_own (sym is ∙ on)) ∙ append-nil out)

  pub lifted_selected : (r s : Bool) (out : List Branch) → IsOwn r → r ≡ false → s ≡ has_selections c.1 → s ≡ true → out ≡ out ++ lifted_of k n cs c
  unfolding lifted_of
  lifted_selected r s out is off said on = sym (ap (λ (more : List Branch). out ++ more) (ap by_own (sym is ∙ off) ∙ ap by_selections (sym said ∙ on)) ∙ append-nil out)

  some_refused : (o : Option Reason) → true ≡ is_some o → by_reason o ≡ []
  some_refused (Some r) h = refl
  some_refused None h = absurd cc

  none_refused : (o : Option Reason) → false ≡ is_some o → by_reason o ≡ class_branch k n c ∷ []
  none_refused (Some r) h = absurd cc
  none_refused None h = refl

  pub lifted_refused : (r s : Bool) (o : Option Reason) (out : List Branch) → IsOwn r → r ≡ false → s ≡ has_selections c.1 → s ≡ false
      → o ≡ refusal limits n c.0 (in_own_stack n c.1) → true ≡ is_some o → out ≡ out ++ lifted_of k n cs c
  unfolding lifted_of
  lifted_refused r s o out is off said on told some =
      sym (ap (λ (more : List Branch). out ++ more) (ap by_own (sym is ∙ off) ∙ ap by_selections (sym said ∙ on) ∙ sym (ap by_reason told) ∙ some_refused o some) ∙ append-nil out)

  pub lifted_followed : (r s : Bool) (o : Option Reason) (out : List Branch) (b : Branch) → IsOwn r → r ≡ false → s ≡ has_selections c.1 → s ≡ false
      → o ≡ refusal limits n c.0 (in_own_stack n c.1) → false ≡ is_some o → b ≡ class_branch k n c → out ++ b ∷ [] ≡ out ++ lifted_of k n cs c
  unfolding lifted_of
  lifted_followed r s o out b is off said on told none made =
      ap (λ (x : Branch). out ++ x ∷ []) made
      ∙ sym (ap (λ (more : List Branch). out ++ more) (ap by_own (sym is ∙ off) ∙ ap by_selections (sym said ∙ on) ∙ sym (ap by_reason told) ∙ none_refused o none))

-- ---- the arcs of a kind, and those of both

pub kind_made : {T E : Type 0} → (r : Result T E) (k : ArcKind) (n : Node) (cs : List Child) (new out : List Branch) (slice found : List Class) → slice ≡ found
    → found ≡ classes_from limits k n (trees_of cs false) → OnOk r (new ≡ out ++ flat_map (lifted_of k n cs) slice) → OnOk r (new ≡ out ++ lifted_kind n cs k)
unfolding lifted_kind
kind_made (Ok x) k n cs new out slice found same is made = made ∙ ap (λ (c : List Class). out ++ flat_map (lifted_of k n cs) c) (same ∙ is)
kind_made (Err e) k n cs new out slice found same is made = made

pub both_made : (n : Node) (cs : List Child) (begun one two : List Branch) → begun ≡ [] → one ≡ begun ++ lifted_kind n cs Inherits → two ≡ one ++ lifted_kind n cs Specializes
    → (is_cut : Bool) → two ≡ lifted_branches limits n (trees_of cs is_cut)
both_made n cs begun one two bare first second is_cut =
    second ∙ ap (λ (xs : List Branch). xs ++ lifted_kind n cs Specializes) (first ∙ ap (λ (xs : List Branch). xs ++ lifted_kind n cs Inherits) bare) ∙ sym (lifted_all n cs is_cut)
