-- Tables with an entry more, and without one.
use Rattle.std.proofs.Common.{◌≡◌, ◌∙◌, Bool, true, false, cond, List, [], ◌∷◌, Option, Some, None, ap, sym, refl, subst}
use Rattle.std.specs.BTreeMap.{is_at}
use Rattle.std.specs.Cmp.{IsTotalOrder}
use Rattle.std.specs.List.{AllByRecursion}
use Rattle.std.specs.List.Sorted.{IsStrictlySortedBy}
use Rattle.std.specs.Map.{keys_of}
use Rattle.std.specs.Ordering.{is_eq, match_ordering}
use Rattle.std.specs.declared.cmp.Ordering.{Ordering}
use Rattle.std.specs.declared.cmp.Ordering.TheVariants.{Less, Equal, Greater}
use Rattle.std.proofs.lemmas.Cmp.{tied_itself}
use Rattle.spec_tables.specs.Tables.{IsTable, at_key, with_key, without_key}
use Rattle.value_texts.specs.Each.{AreAll}
use Rattle.shared_tables.proofs.Splits.{at_none}

module _ {K V : Type 0} (cmp : K → K → Ordering) where
  -- the entries once the key is compared with that of the first
  abbrev put : K → V → K × V → List (K × V) → Ordering → List (K × V)
  put k v e es o = match_ordering o ((k, v) ∷ e ∷ es) ((e.0, v) ∷ es) (e ∷ with_key cmp k v es)

  -- ---- an entry more

  module _ (exact : (x y : K) → cmp x y ≡ Equal → x ≡ y) (W : K × V → Type 0) where
    -- what holds of each entry, and of the new one, holds of each behind it
    pub all_with : (k : K) (v : V) (es : List (K × V)) → W (k, v) → AreAll W es → AreAll W (with_key cmp k v es)
    all_with k v [] here all = (here, tt)
    all_with k v (e ∷ es) here all = by (cmp k e.0) refl (all_with k v es here all.1)
      where
        by : (o : Ordering) → cmp k e.0 ≡ o → AreAll W (with_key cmp k v es) → AreAll W (put k v e es o)
        by Less h more = (here, all)
        by Equal h more = (subst (λ x. W (x, v)) (exact k e.0 h) here, all.1)
        by Greater h more = (all.0, more)

    -- what holds of each entry holds of the one that is found
    pub found_such : (k : K) (v : V) (es : List (K × V)) → AreAll W es → at_key cmp k es ≡ Some v → W (k, v)
    found_such k v [] all h = absurd cc
    found_such k v (e ∷ es) all h = by (cmp k e.0) refl h (found_such k v es all.1)
      where
        by : (o : Ordering) → cmp k e.0 ≡ o → cond (is_eq o) (Some e.1) (at_key cmp k es) ≡ Some v → (at_key cmp k es ≡ Some v → W (k, v)) → W (k, v)
        by Less c g more = more g
        by Equal c g more =
            let value : e.1 ≡ v = cc in
            subst (λ x. W (k, x)) value (subst (λ x. W (x, e.1)) (sym (exact k e.0 c)) all.0)
        by Greater c g more = more g

  module _ (exact : (x y : K) → cmp x y ≡ Equal → x ≡ y) (total : IsTotalOrder cmp) where
    -- what stands at the key of the new entry
    pub found_with : (k : K) (v : V) (es : List (K × V)) → at_key cmp k (with_key cmp k v es) ≡ Some v
    found_with k v [] = ap (λ (o : Ordering). cond (is_eq o) (Some v) None) (tied_itself total k)
    found_with k v (e ∷ es) = by (cmp k e.0) refl (found_with k v es)
      where
        by : (o : Ordering) → cmp k e.0 ≡ o → at_key cmp k (with_key cmp k v es) ≡ Some v → at_key cmp k (put k v e es o) ≡ Some v
        by Less h rest = ap (λ (o : Ordering). cond (is_eq o) (Some v) (at_key cmp k (e ∷ es))) (tied_itself total k)
        by Equal h rest = ap (λ (o : Ordering). cond (is_eq o) (Some v) (at_key cmp k es)) h
        by Greater h rest = ap (λ (o : Ordering). cond (is_eq o) (Some e.1) (at_key cmp k (with_key cmp k v es))) h ∙ rest

    -- at another key stands what stood there
    pub others_with : (q k : K) (v : V) (es : List (K × V)) → is_at (cmp q) k ≡ false → at_key cmp q (with_key cmp k v es) ≡ at_key cmp q es
    others_with q k v [] gone = ap (λ (b : Bool). cond b (Some v) None) gone
    others_with q k v (e ∷ es) gone = by (cmp k e.0) refl (others_with q k v es gone)
      where
        by : (o : Ordering) → cmp k e.0 ≡ o → at_key cmp q (with_key cmp k v es) ≡ at_key cmp q es → at_key cmp q (put k v e es o) ≡ at_key cmp q (e ∷ es)
        by Less h rest = ap (λ (b : Bool). cond b (Some v) (at_key cmp q (e ∷ es))) gone
        by Equal h rest =
            let off : is_at (cmp q) e.0 ≡ false = subst (λ (l : K). is_at (cmp q) l ≡ false) (exact k e.0 h) gone in
            ap (λ (b : Bool). cond b (Some v) (at_key cmp q es)) off ∙ sym (ap (λ (b : Bool). cond b (Some e.1) (at_key cmp q es)) off)
        by Greater h rest = ap (λ (r : Option V). cond (is_at (cmp q) e.0) (Some e.1) r) rest

  -- ---- an entry less

  pub all_without : (W : K × V → Type 0) (k : K) (es : List (K × V)) → AreAll W es → AreAll W (without_key cmp k es)
  all_without W k [] all = tt
  all_without W k (e ∷ es) all = by (is_eq (cmp k e.0)) (all_without W k es all.1)
    where
      by : (b : Bool) → AreAll W (without_key cmp k es) → AreAll W (cond b es (e ∷ without_key cmp k es))
      by true more = all.1
      by false more = (all.0, more)

  pub none_left : ((x y : K) → cmp x y ≡ Equal → x ≡ y) → (k : K) (es : List (K × V)) → IsTable cmp es → at_key cmp k (without_key cmp k es) ≡ None
  unfolding IsStrictlySortedBy
  none_left exact k [] sorted = refl
  none_left exact k (e ∷ es) sorted = by (cmp k e.0) refl (none_left exact k es sorted.1)
    where
      by : (o : Ordering) → cmp k e.0 ≡ o → at_key cmp k (without_key cmp k es) ≡ None → at_key cmp k (cond (is_eq o) es (e ∷ without_key cmp k es)) ≡ None
      by Less c more = ap (λ o. cond (is_eq o) (Some e.1) (at_key cmp k (without_key cmp k es))) c ∙ more
      by Equal c more = at_none cmp k es (subst (λ x. AllByRecursion (λ y. cmp x y ≡ Less) (keys_of es)) (sym (exact k e.0 c)) sorted.0)
      by Greater c more = ap (λ o. cond (is_eq o) (Some e.1) (at_key cmp k (without_key cmp k es))) c ∙ more
