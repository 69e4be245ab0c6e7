-- Places, and the sites of trees.
use Rattle.std.proofs.Common.{◌≡◌, ◌∙◌, sym, ap, refl, Bool, true, false, ◌||◌, List, [], ◌∷◌, ◌++◌}
use Rattle.std.specs.List.{list_any}
use Rattle.std.proofs.lemmas.List.Folds.{list_any-append}
use Rattle.composition.specs.Paths.{limits}
use Rattle.composition.specs.Trees.{node, none}
use Rattle.composition.specs.Faults.{site_of}
use Rattle.composition.specs.Nodes.{Node}
use Rattle.composition.specs.Strength.{Ranked, best_places}
use Rattle.prim_trees.specs.declared.tree.Tree.{Tree, out-Tree}
use Rattle.prim_trees.specs.Meant.{meant}
use Rattle.prim_trees.specs.Unfolded.{meant_is, node_is}
use Rattle.site_order.specs.Best.{site_in}
use Rattle.site_order.specs.declared.best.SiteKey.{SiteKey}
use Rattle.site_order.specs.Places.{beats, beats_later, kept_after}

pub key_is : (t : Tree) (k : SiteKey) → k.stack ≡ (out-Tree t).node.stack → k.path ≡ (out-Tree t).node.path → k ≡ site_in (meant t)
key_is t k stack path = λ i. record { stack = (stack ∙ ap (λ (n : Node). n.stack) (sym (node_is t))) i; path = (path ∙ ap (λ (n : Node). n.path) (sym (node_is t))) i }

pub site_is : (t : Tree) → site_of (meant t) ≡ site_of (node (out-Tree t).node (out-Tree t).here none none)
site_is t = ap site_of (meant_is t)

-- whether an earlier place beats one does not turn on their order
module _ (p : Ranked → Bool) where
  swapped : (x : Ranked) (before : List Ranked) → (p x || list_any p before) ≡ (list_any p before || (p x || false))
  swapped x before = commuted (p x) (list_any p before)
    where
      commuted : (a b : Bool) → (a || b) ≡ (b || (a || false))
      commuted true true = refl
      commuted true false = refl
      commuted false true = refl
      commuted false false = refl

  -- one more earlier place
  pub any_more : (before : List Ranked) (earlier : List Ranked) (x : Ranked) → list_any p before ≡ list_any p earlier → list_any p (x ∷ before) ≡ list_any p (earlier ++ x ∷ [])
  any_more before earlier x h = ap (λ b. p x || b) h ∙ swapped x earlier ∙ sym (list_any-append p earlier (x ∷ []))

best_is : (before earlier es : List Ranked) → ((p : Ranked → Bool) → list_any p before ≡ list_any p earlier) → best_places limits before es ≡ kept_after earlier es
best_is before earlier [] h = refl
best_is before earlier (e ∷ es) h =
    let rest : best_places limits (e ∷ before) es ≡ kept_after (earlier ++ e ∷ []) es = best_is (e ∷ before) (earlier ++ e ∷ []) es (λ p. any_more p before earlier e (h p)) in
    λ i. elim (h (beats e) i) as (λ _. List Ranked) [
      | true ↦ rest i
      | false ↦ elim (list_any (beats_later e) es) as (λ _. List Ranked) [ true ↦ rest i | false ↦ e ∷ rest i ]
    ]

pub kept_is : (es : List Ranked) → best_places limits [] es ≡ kept_after [] es
kept_is es = best_is [] [] es (λ p. refl)
