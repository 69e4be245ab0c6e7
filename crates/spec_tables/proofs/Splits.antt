-- What a key finds, and what an edit does, in two parts with an entry between them.
use Rattle.std.proofs.Common.{◌≡◌, Bool, true, false, cond, List, [], ◌∷◌, ◌++◌, Some, None, is_some, refl, ap, ◌∙◌}
use Rattle.std.specs.Cmp.{IsTotalOrder}
use Rattle.std.specs.BTreeMap.{is_at}
use Rattle.std.specs.Ordering.{match_ordering}
use Rattle.std.specs.declared.cmp.Ordering.{Ordering}
use Rattle.std.specs.declared.cmp.Ordering.TheVariants.{Less, Equal, Greater}
use Rattle.spec_tables.specs.Places.{AllAfter, AllBefore}
use Rattle.spec_tables.specs.Tables.{IsTable, at_key, with_key, without_key, with_value}
use Rattle.spec_tables.proofs.Order.{after_less, before_equal, before_greater}

module _ {K V : Type 0} (R : K → K → Ordering) (k : K) where
  -- ---- past a front that comes before the key

  pub at_past : (l r : List (K × V)) → AllBefore R k l → at_key R k (l ++ r) ≡ at_key R k r
  at_past [] r a = refl
  at_past (x ∷ l) r a = rw a.0 (at_past l r a.1)

  pub with_past : (v : V) (l r : List (K × V)) → AllBefore R k l → with_key R k v (l ++ r) ≡ l ++ with_key R k v r
  with_past v [] r a = refl
  with_past v (x ∷ l) r a = rw a.0 (ap (λ t. x ∷ t) (with_past v l r a.1))

  without_past : (l r : List (K × V)) → AllBefore R k l → without_key R k (l ++ r) ≡ l ++ without_key R k r
  without_past [] r a = refl
  without_past (x ∷ l) r a = rw a.0 (ap (λ t. x ∷ t) (without_past l r a.1))

  value_past : (v : V) (l r : List (K × V)) → AllBefore R k l → with_value R k v (l ++ r) ≡ l ++ with_value R k v r
  value_past v [] r a = refl
  value_past v (x ∷ l) r a = rw a.0 (ap (λ t. x ∷ t) (value_past v l r a.1))

  -- ---- short of a back that comes after the key

  pub at_none : (r : List (K × V)) → AllAfter R k r → at_key R k r ≡ None
  at_none [] a = refl
  at_none (x ∷ r) a = rw a.0 (at_none r a.1)

  at_short : (l r : List (K × V)) → AllAfter R k r → at_key R k (l ++ r) ≡ at_key R k l
  at_short [] r a = at_none r a
  at_short (x ∷ l) r a = ap (λ t. cond (is_at (R k) x.0) (Some x.1) t) (at_short l r a)

  without_none : (r : List (K × V)) → AllAfter R k r → without_key R k r ≡ r
  without_none [] a = refl
  without_none (x ∷ r) a = rw a.0 (ap (λ t. x ∷ t) (without_none r a.1))

  without_short : (l r : List (K × V)) → AllAfter R k r → without_key R k (l ++ r) ≡ without_key R k l ++ r
  without_short [] r a = without_none r a
  without_short (x ∷ l) r a = elim (is_at (R k) x.0) as (λ b. cond b (l ++ r) (x ∷ without_key R k (l ++ r)) ≡ cond b l (x ∷ without_key R k l) ++ r) [
    | true ↦ refl
    | false ↦ ap (λ t. x ∷ t) (without_short l r a)
  ]

  value_none : (v : V) (r : List (K × V)) → AllAfter R k r → with_value R k v r ≡ r
  value_none v [] a = refl
  value_none v (x ∷ r) a = rw a.0 (ap (λ t. x ∷ t) (value_none v r a.1))

  value_short : (v : V) (l r : List (K × V)) → AllAfter R k r → with_value R k v (l ++ r) ≡ with_value R k v l ++ r
  value_short v [] r a = value_none v r a
  value_short v (x ∷ l) r a = elim (is_at (R k) x.0) as (λ b. cond b ((x.0, v) ∷ (l ++ r)) (x ∷ with_value R k v (l ++ r)) ≡ cond b ((x.0, v) ∷ l) (x ∷ with_value R k v l) ++ r) [
    | true ↦ refl
    | false ↦ ap (λ t. x ∷ t) (value_short v l r a)
  ]

  with_short : (v : V) (l : List (K × V)) (e : K × V) (r : List (K × V)) → R k e.0 ≡ Less → with_key R k v (l ++ e ∷ r) ≡ with_key R k v l ++ e ∷ r
  with_short v [] e r h = rw h
  with_short v (x ∷ l) e r h =
      elim (R k x.0) as (λ c. match_ordering c ((k, v) ∷ x ∷ (l ++ e ∷ r)) ((x.0, v) ∷ (l ++ e ∷ r)) (x ∷ with_key R k v (l ++ e ∷ r)) ≡ match_ordering c ((k, v) ∷ x ∷ l) ((x.0, v) ∷ l) (x ∷ with_key R k v l) ++ e ∷ r) [
        | Less ↦ refl
        | Equal ↦ refl
        | Greater ↦ ap (λ t. x ∷ t) (with_short v l e r h)
      ]

  -- ---- a key that is not there

  without_at : (x : K × V) (es : List (K × V)) (b : Bool) → is_some (cond b (Some x.1) (at_key R k es)) ≡ false
      → (is_some (at_key R k es) ≡ false → without_key R k es ≡ es) → cond b es (x ∷ without_key R k es) ≡ x ∷ es
  without_at x es true h i = absurd cc
  without_at x es false h i = ap (λ t. x ∷ t) (i h)

  value_at : (v : V) (x : K × V) (es : List (K × V)) (b : Bool) → is_some (cond b (Some x.1) (at_key R k es)) ≡ false
      → (is_some (at_key R k es) ≡ false → with_value R k v es ≡ es) → cond b ((x.0, v) ∷ es) (x ∷ with_value R k v es) ≡ x ∷ es
  value_at v x es true h i = absurd cc
  value_at v x es false h i = ap (λ t. x ∷ t) (i h)

  pub without_absent : (es : List (K × V)) → is_some (at_key R k es) ≡ false → without_key R k es ≡ es
  without_absent [] h = refl
  without_absent (x ∷ es) h = without_at x es (is_at (R k) x.0) h (without_absent es)

  pub value_absent : (v : V) (es : List (K × V)) → is_some (at_key R k es) ≡ false → with_value R k v es ≡ es
  value_absent v [] h = refl
  value_absent v (x ∷ es) h = value_at v x es (is_at (R k) x.0) h (value_absent v es)

-- ---- an entry between two parts

module _ {K V : Type 0} {R : K → K → Ordering} (o : IsTotalOrder R) (k : K) (l : List (K × V)) (e : K × V) (r : List (K × V)) (s : IsTable R (l ++ e ∷ r)) where
  pub at_left : R k e.0 ≡ Less → at_key R k (l ++ e ∷ r) ≡ at_key R k l
  at_left h = at_short R k l (e ∷ r) (h, after_less o k l e r s h)

  pub at_middle : R k e.0 ≡ Equal → at_key R k (l ++ e ∷ r) ≡ Some e.1
  at_middle h = at_past R k l (e ∷ r) (before_equal o k l e r s h) ∙ rw h

  pub at_right : R k e.0 ≡ Greater → at_key R k (l ++ e ∷ r) ≡ at_key R k r
  at_right h = at_past R k l (e ∷ r) (before_greater o k l e r s h) ∙ rw h

  pub with_left : (v : V) → R k e.0 ≡ Less → with_key R k v (l ++ e ∷ r) ≡ with_key R k v l ++ e ∷ r
  with_left v h = with_short R k v l e r h

  pub with_middle : (v : V) → R k e.0 ≡ Equal → with_key R k v (l ++ e ∷ r) ≡ l ++ (e.0, v) ∷ r
  with_middle v h = with_past R k v l (e ∷ r) (before_equal o k l e r s h) ∙ rw h

  pub with_right : (v : V) → R k e.0 ≡ Greater → with_key R k v (l ++ e ∷ r) ≡ l ++ e ∷ with_key R k v r
  with_right v h = with_past R k v l (e ∷ r) (before_greater o k l e r s h) ∙ rw h

  pub without_left : R k e.0 ≡ Less → without_key R k (l ++ e ∷ r) ≡ without_key R k l ++ e ∷ r
  without_left h = without_short R k l (e ∷ r) (h, after_less o k l e r s h)

  pub without_middle : R k e.0 ≡ Equal → without_key R k (l ++ e ∷ r) ≡ l ++ r
  without_middle h = without_past R k l (e ∷ r) (before_equal o k l e r s h) ∙ rw h

  pub without_right : R k e.0 ≡ Greater → without_key R k (l ++ e ∷ r) ≡ l ++ e ∷ without_key R k r
  without_right h = without_past R k l (e ∷ r) (before_greater o k l e r s h) ∙ rw h

  pub value_left : (v : V) → R k e.0 ≡ Less → with_value R k v (l ++ e ∷ r) ≡ with_value R k v l ++ e ∷ r
  value_left v h = value_short R k v l (e ∷ r) (h, after_less o k l e r s h)

  pub value_middle : (v : V) → R k e.0 ≡ Equal → with_value R k v (l ++ e ∷ r) ≡ l ++ (e.0, v) ∷ r
  value_middle v h = value_past R k v l (e ∷ r) (before_equal o k l e r s h) ∙ rw h

  pub value_right : (v : V) → R k e.0 ≡ Greater → with_value R k v (l ++ e ∷ r) ≡ l ++ e ∷ with_value R k v r
  value_right v h = value_past R k v l (e ∷ r) (before_greater o k l e r s h) ∙ rw h
