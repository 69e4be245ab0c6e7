-- How many entries a table has after an edit.
use Rattle.std.proofs.Common.{◌≡◌, ℕ, suc, ◌≤◌, ◌<◌, ◌^◌, Bool, true, false, cond, List, [], ◌∷◌, length, Some, is_some, ◌+◌, ◌-◌, refl, sym, ap, subst, ◌∙◌, add-one, arith}
use Rattle.std.specs.BTreeMap.{is_at}
use Rattle.std.specs.Cmp.{IsTotalOrder}
use Rattle.std.specs.Ordering.{is_eq, match_ordering}
use Rattle.std.specs.Prelude.{filter}
use Rattle.std.specs.declared.cmp.Ordering.{Ordering}
use Rattle.std.specs.declared.cmp.Ordering.TheVariants.{Less, Equal, Greater}
use Rattle.spec_tables.specs.Tables.{IsTable, at_key, with_key, without_key, with_value}
use Rattle.spec_tables.proofs.Order.{above_head, below_all, tail, table_with, table_without, table_value}
use Rattle.spec_tables.proofs.Splits.{at_none}

-- one more on both sides
more : (b : Bool) (m n : ℕ) → m ≡ cond b n (suc n) → suc m ≡ cond b (suc n) (suc (suc n))
more true m n h = ap suc h
more false m n h = ap suc h

module _ {K V : Type 0} {R : K → K → Ordering} (o : IsTotalOrder R) (k : K) (v : V) where
  length_at : (e : K × V) (es : List (K × V)) → IsTable R (e ∷ es) → (c : Ordering) → R k e.0 ≡ c
      → length (with_key R k v es) ≡ cond (is_some (at_key R k es)) (length es) (suc (length es))
      → length (match_ordering c ((k, v) ∷ e ∷ es) ((e.0, v) ∷ es) (e ∷ with_key R k v es)) ≡ cond (is_some (cond (is_eq c) (Some e.1) (at_key R k es))) (suc (length es)) (suc (suc (length es)))
  length_at e es s Less h i = rw (at_none R k es (below_all o k e.0 h es (above_head R e es s)))
  length_at e es s Equal h i = refl
  length_at e es s Greater h i = more (is_some (at_key R k es)) _ _ i

  pub length_with : (es : List (K × V)) → IsTable R es → length (with_key R k v es) ≡ cond (is_some (at_key R k es)) (length es) (suc (length es))
  length_with [] s = refl
  length_with (e ∷ es) s = length_at e es s (R k e.0) refl (length_with es (tail R e es s))

module _ {K V : Type 0} (R : K → K → Ordering) (k : K) where
  length_past : (e : K × V) (es : List (K × V)) (b : Bool) → is_some (cond b (Some e.1) (at_key R k es)) ≡ true
      → (is_some (at_key R k es) ≡ true → suc (length (without_key R k es)) ≡ length es) → suc (length (cond b es (e ∷ without_key R k es))) ≡ suc (length es)
  length_past e es true h i = refl
  length_past e es false h i = ap suc (i h)

  pub length_without : (es : List (K × V)) → is_some (at_key R k es) ≡ true → suc (length (without_key R k es)) ≡ length es
  length_without [] h = absurd cc
  length_without (e ∷ es) h = length_past e es (is_at (R k) e.0) h (length_without es)

  pub length_value : (v : V) (es : List (K × V)) → length (with_value R k v es) ≡ length es
  length_value v [] = refl
  length_value v (e ∷ es) = elim (is_at (R k) e.0) as (λ b. length (cond b ((e.0, v) ∷ es) (e ∷ with_value R k v es)) ≡ suc (length es)) [
    | true ↦ refl
    | false ↦ ap suc (length_value v es)
  ]

-- some entries are no more than all
pub length_filter : {A : Type 0} (p : A → Bool) (es : List A) → length (filter p es) ≤ length es
length_filter p [] = omega arith
length_filter p (x ∷ es) = elim (p x) as (λ b. length (cond b (x ∷ filter p es) (filter p es)) ≤ suc (length es)) [
  | true ↦ omega (arith, length_filter p es)
  | false ↦ omega (arith, length_filter p es)
]

-- ---- what holds of a table with its count after an edit

module _ {K V : Type 0} {R : K → K → Ordering} (o : IsTotalOrder R) (k : K) (v : V) (es w : List (K × V)) (n : ℕ) (order : IsTable R es) where
  pub holds_with : w ≡ with_key R k v es → n ≡ cond (is_some (at_key R k es)) (length es) (length es + 1) → n < 2 ^ 63 → IsTable R w × (n ≡ length w) × (n < 2 ^ 63)
  holds_with is count bound = (
    subst (IsTable R) (sym is) (table_with o k v es order),
    count ∙ ap (cond (is_some (at_key R k es)) (length es)) (add-one (length es)) ∙ sym (length_with o k v es order) ∙ ap length (sym is),
    bound,
  )

module _ {K V : Type 0} (R : K → K → Ordering) (k : K) (es w : List (K × V)) (n : ℕ) (order : IsTable R es) (count : n ≡ length es) (bound : n < 2 ^ 63) where
  pub holds_value : (v : V) → w ≡ with_value R k v es → IsTable R w × (n ≡ length w) × (n < 2 ^ 63)
  holds_value v is = (subst (IsTable R) (sym is) (table_value R k v es order), count ∙ sym (length_value R k v es) ∙ ap length (sym is), bound)

  pub one_at_least : is_some (at_key R k es) ≡ true → 1 ≤ n
  one_at_least there = omega (arith, length_without R k es there)

  pub holds_without : w ≡ without_key R k es → is_some (at_key R k es) ≡ true → IsTable R w × (n - 1 ≡ length w) × (n - 1 < 2 ^ 63)
  holds_without is there =
      let one = length_without R k es there in
      let fewer = ap length is in
      (subst (IsTable R) (sym is) (table_without R k es order), omega arith, omega arith)
