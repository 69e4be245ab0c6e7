-- Keys that are named, and those that are kept of them.
use Rattle.std.proofs.Common.{◌≡◌, ◌∙◌, inl, inr, sym, ap, refl, subst, ℕ, Bool, true, false, cond, List, [], ◌∷◌, ◌++◌, Option, Some, None}
use Rattle.std.specs.BTreeMap.{is_at}
use Rattle.std.specs.List.{All, AllByRecursion, Contains}
use Rattle.std.specs.List.Sorted.{IsStrictlySortedBy}
use Rattle.std.specs.Map.{keys_of}
use Rattle.std.specs.Option.{is_some, option_map}
use Rattle.std.specs.declared.cmp.Ordering.{Ordering}
use Rattle.std.specs.declared.cmp.Ordering.TheVariants.{Less}
use Rattle.std.proofs.lemmas.List.Elements.{All-nil, All-cons}
use Rattle.std.proofs.lemmas.Map.Lookups.{exact_bytes}
use Rattle.plain_data.specs.Exact.{both_true}
use Rattle.sdf_paths.specs.Order.{text_cmp, path_cmp}
use Rattle.sdf_paths.specs.DerivedOrder.{path_cmp_same}
use Rattle.sdf_paths.specs.Paths.{has_prefix}
use Rattle.sdf_paths.specs.declared.element.Element.{Element}
use Rattle.sdf_specs.specs.Layers.{PathEntries, spec_at, tree}
use Rattle.spec_parts.specs.declared.spec.Spec.{Spec}
use Rattle.composition.specs.Keys.{arcs_value, body_value}
use Rattle.layer_set.specs.Worlds.{WorldData, held_at, spec_of}
use Rattle.layer_set.specs.declared.held.Held.{Held}
use Rattle.layer_set.specs.declared.key.Key.{Key}
use Rattle.layer_set.specs.declared.key.Key.TheVariants.{Head, Arcs, Body, Load}
use Rattle.layer_edit.proofs.Found.{is_key}
use Rattle.key_sets.specs.Order.{key_cmp}
use Rattle.key_sets.proofs.Order.{key_same}
use Rattle.layer_changes.specs.Changed.{IsChangedKey}
use Rattle.layer_changes.specs.Covering.{HasSpec, HasTree, Names, Keeps}
use Rattle.layer_changes.specs.declared.part.Part.{Part}
use Rattle.layer_changes.specs.declared.part.Part.TheVariants.{At, Below}
use Rattle.composition.proofs.Tests.{by_test}
use Rattle.composition.proofs.Members.{none_in, head_in, tail_in, cases_in}

-- ---- keys of a part

pub at_named : (w v : WorldData) (keys : List Key) (j : Key) → Contains keys j → Names w v keys (At j)
at_named w v keys j has k on changed = subst (λ (x : Key). Contains keys x) (sym (is_key key_cmp key_same k j on)) has

-- the path of a spec is among those of its tree
pub in_tree : {V : Type 0} (front q : List Element) (es : PathEntries V) → has_prefix front q ≡ true → is_some (spec_at q es) ≡ true → Contains (keys_of (tree front es)) q
in_tree {V} front q [] on h = absurd cc
in_tree {V} front q (e ∷ es) on h =
    by_test (is_at (path_cmp q) e.0)
    (λ here.
    let one : q ≡ e.0 = is_key path_cmp path_cmp_same q e.0 here in
    let in' : has_prefix front e.0 ≡ true = ap (has_prefix front) (sym one) ∙ on in
    subst (λ (b : Bool). Contains (keys_of (cond b (e ∷ tree front es) (tree front es))) q) (sym in')
    (subst (λ (x : List Element). Contains (e.0 ∷ keys_of (tree front es)) x) (sym one) (head_in e.0 (keys_of (tree front es)))))
    (λ gone.
    let more : is_some (spec_at q es) ≡ true = sym (ap (λ (b : Bool). is_some (cond b (Some e.1) (spec_at q es))) gone) ∙ h in
    let rest : Contains (keys_of (tree front es)) q = in_tree front q es on more in
    by_test (has_prefix front e.0)
    (λ in'. subst (λ (b : Bool). Contains (keys_of (cond b (e ∷ tree front es) (tree front es))) q) (sym in') (tail_in e.0 (keys_of (tree front es)) q rest))
    (λ out. subst (λ (b : Bool). Contains (keys_of (cond b (e ∷ tree front es) (tree front es))) q) (sym out) rest))

pub spec_kept : (old new : List Key) (name : List ℕ) (path : List Element) → ((k : Key) → Contains old k → Contains new k) → HasSpec old name path → HasSpec new name path
spec_kept old new name path kept has = (kept (Arcs name path) has.0, kept (Body name path) has.1)

pub tree_kept : (old new : List Key) (held : Held) (name : List ℕ) (front : List Element) → ((k : Key) → Contains old k → Contains new k) → HasTree old held name front → HasTree new held name front
tree_kept old new held name front kept has path in' some = spec_kept old new name path kept (has path in' some)

no_value : {V : Type 0} (a b : Option V) → is_some a ≡ false → is_some b ≡ false → a ≡ b
no_value {V} None None h g = refl
no_value {V} (Some x) b h g = absurd cc
no_value {V} None (Some y) h g = absurd cc

module _ (w v : WorldData) (keys : List Key) (name : List ℕ) (front : List Element) (top : HasSpec keys name front) (before : HasTree keys (held_at w name) name front)
    (after : HasTree keys (held_at v name) name front) where
  abbrev spec_in : WorldData → List Element → Option Spec
  spec_in u q = spec_of (held_at u name) q

  -- a spec that only one of the worlds may have
  one_has : {A : Type 0} (q : List Element) → has_prefix front q ≡ true → (HasSpec keys name q → A) → (spec_in w q ≡ spec_in v q → A) → A
  one_has {A} q in' has neither =
      by_test (is_some (spec_in w q))
      (λ some. has (before q in' some))
      (λ none. by_test (is_some (spec_in v q))
      (λ some. has (after q in' some))
      (λ also. neither (no_value (spec_in w q) (spec_in v q) none also)))

  at_front : (q : List Element) → has_prefix front [] ≡ true → front ≡ []
  at_front q h = by front h
    where
      by : (f : List Element) → has_prefix f [] ≡ true → f ≡ []
      by [] h = refl
      by (e ∷ f) h = absurd cc

  arcs_named : (q : List Element) → has_prefix front q ≡ true → IsChangedKey w v (Arcs name q) → Contains keys (Arcs name q)
  arcs_named [] in' changed = absurd (changed refl)
  arcs_named (e ∷ q) in' changed = one_has (e ∷ q) in' (λ has. has.0) (λ same. absurd (changed (ap (λ (o : Option Spec). arcs_value (option_map (λ s. s.arcs) o)) same)))

  body_named : (q : List Element) → has_prefix front q ≡ true → IsChangedKey w v (Body name q) → Contains keys (Body name q)
  body_named [] in' changed = subst (λ (f : List Element). Contains keys (Body name f)) (at_front [] in') top.1
  body_named (e ∷ q) in' changed = one_has (e ∷ q) in' (λ has. has.1) (λ same. absurd (changed (ap (λ (o : Option Spec). body_value (option_map (λ s. s.body) o)) same)))

  -- the keys of a layer at a path and below it
  pub below_named : Names w v keys (Below name front)
  below_named (Head n) on changed = absurd cc
  below_named (Arcs n q) on changed =
      let parts = both_true (is_at (text_cmp n) name) (has_prefix front q) on in
      let one : n ≡ name = is_key text_cmp exact_bytes n name parts.0 in
      subst (λ (x : List ℕ). Contains keys (Arcs x q)) (sym one) (arcs_named q parts.1 (subst (λ (x : List ℕ). IsChangedKey w v (Arcs x q)) one changed))
  below_named (Body n q) on changed =
      let parts = both_true (is_at (text_cmp n) name) (has_prefix front q) on in
      let one : n ≡ name = is_key text_cmp exact_bytes n name parts.0 in
      subst (λ (x : List ℕ). Contains keys (Body x q)) (sym one) (body_named q parts.1 (subst (λ (x : List ℕ). IsChangedKey w v (Body x q)) one changed))
  below_named (Load q) on changed = absurd cc

pub named_kept : (w v : WorldData) (old new : List Key) (part : Part) → ((k : Key) → Contains old k → Contains new k) → Names w v old part → Names w v new part
named_kept w v old new part kept names k on changed = kept k (names k on changed)

-- ---- those that are kept

module _ {K : Type 0} (P : K → Type 0) where
  pub keeps_one : (ks kept : List K) (k : K) → Keeps P ks kept → P k → Keeps P (ks ++ k ∷ []) (kept ++ k ∷ [])
  keeps_one [] kept k h p = inl (p, ([], ap (λ (xs : List K). xs ++ k ∷ []) h, refl))
  keeps_one (j ∷ ks) kept k (inl h) p = inl (h.0, (h.1.0 ++ k ∷ [], ap (λ (xs : List K). xs ++ k ∷ []) h.1.1, keeps_one ks h.1.0 k h.1.2 p))
  keeps_one (j ∷ ks) kept k (inr h) p = inr (h.0, keeps_one ks kept k h.1 p)

  pub drops_one : (ks kept : List K) (k : K) → Keeps P ks kept → ¬ (P k) → Keeps P (ks ++ k ∷ []) kept
  drops_one [] kept k h p = inr (p, h)
  drops_one (j ∷ ks) kept k (inl h) p = inl (h.0, (h.1.0, h.1.1, drops_one ks h.1.0 k h.1.2 p))
  drops_one (j ∷ ks) kept k (inr h) p = inr (h.0, drops_one ks kept k h.1 p)

  pub all_kept : (ks kept : List K) → Keeps P ks kept → All P kept
  all_kept [] kept h = subst (λ (xs : List K). All P xs) (sym h) (All-nil P)
  all_kept (j ∷ ks) kept (inl h) = subst (λ (xs : List K). All P xs) (sym h.1.1) (All-cons P j h.1.0 h.0 (all_kept ks h.1.0 h.1.2))
  all_kept (j ∷ ks) kept (inr h) = all_kept ks kept h.1

  pub kept_has : (ks kept : List K) → Keeps P ks kept → (k : K) → P k → Contains ks k → Contains kept k
  kept_has [] kept h k p has = absurd (none_in k has)
  kept_has (j ∷ ks) kept (inl h) k p has =
      subst (λ (xs : List K). Contains xs k) (sym h.1.1)
      (elim (cases_in j ks k has) [ inl e ↦ subst (λ (x : K). Contains (j ∷ h.1.0) x) e (head_in j h.1.0) | inr more ↦ tail_in j h.1.0 k (kept_has ks h.1.0 h.1.2 k p more) ])
  kept_has (j ∷ ks) kept (inr h) k p has =
      elim (cases_in j ks k has) [ inl e ↦ absurd (h.0 (subst P (sym e) p)) | inr more ↦ kept_has ks kept h.1 k p more ]

  still_all : (Q : K → Type 0) (ks kept : List K) → Keeps P ks kept → AllByRecursion Q ks → AllByRecursion Q kept
  still_all Q [] kept h all = subst (λ (xs : List K). AllByRecursion Q xs) (sym h) tt
  still_all Q (j ∷ ks) kept (inl h) all = subst (λ (xs : List K). AllByRecursion Q xs) (sym h.1.1) (all.0, still_all Q ks h.1.0 h.1.2 all.1)
  still_all Q (j ∷ ks) kept (inr h) all = still_all Q ks kept h.1 all.1

  pub still_sorted : (R : K → K → Ordering) (ks kept : List K) → Keeps P ks kept → IsStrictlySortedBy R ks → IsStrictlySortedBy R kept
  unfolding IsStrictlySortedBy
  still_sorted R [] kept h sorted = subst (λ (xs : List K). IsStrictlySortedBy R xs) (sym h) tt
  still_sorted R (j ∷ ks) kept (inl h) sorted =
      subst (λ (xs : List K). IsStrictlySortedBy R xs) (sym h.1.1) (still_all (λ y. R j y ≡ Less) ks h.1.0 h.1.2 sorted.0, still_sorted R ks h.1.0 h.1.2 sorted.1)
  still_sorted R (j ∷ ks) kept (inr h) sorted = still_sorted R ks kept h.1 sorted.1
