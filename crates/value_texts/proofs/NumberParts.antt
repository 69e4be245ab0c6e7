-- The parts of a number's text.
use Rattle.std.proofs.Common.{◌≡◌, ◌∙◌, ℕ, ◌+◌, ◌<◌, ◌&&◌, ◌==◌, Bool, true, false, List, [], ◌∷◌, ◌++◌, length, ap, sym, refl, subst, arith, eqb-true}
use Rattle.std.proofs.lemmas.Bool.{and_parts}
use Rattle.sdf_values.specs.NumberTexts.{is_digit, is_mark, is_digits, is_exponent, ends_fraction, starts_fraction, ends_whole, is_unsigned}

-- nothing, or an exponent with its mark
pub data Back : List ℕ → Type 0 where
  bare : Back []
  scaled : {m : ℕ} {e : List ℕ} → is_mark m ≡ true → is_exponent e ≡ true → Back (m ∷ e)

pub fraction_by : (P : List ℕ → Type 0) → ((fs b : List ℕ) → is_digits fs ≡ true → Back b → P (fs ++ b)) → (t : List ℕ) → ends_fraction t ≡ true → P t
fraction_by P f [] h = f [] [] refl bare
fraction_by P f (c ∷ t) h = cases (is_digit c) refl (λ k. fraction_by (λ x. P (c ∷ x)) (λ fs b d back. f (c ∷ fs) b (with c fs k d) back) t)
  where
    with : (c : ℕ) (fs : List ℕ) → is_digit c ≡ true → is_digits fs ≡ true → is_digits (c ∷ fs) ≡ true
    with c fs k d = ap (λ b. b && is_digits fs) k ∙ d

    cases : (b : Bool) → is_digit c ≡ b → (is_digit c ≡ true → ends_fraction t ≡ true → P (c ∷ t)) → P (c ∷ t)
    cases true e more = more e (sym (ap (λ b. elim b [ true ↦ ends_fraction t | false ↦ is_mark c && is_exponent t ]) e) ∙ h)
    cases false e more =
        let p = and_parts (is_mark c) (is_exponent t) (sym (ap (λ b. elim b [ true ↦ ends_fraction t | false ↦ is_mark c && is_exponent t ]) e) ∙ h) in
        f [] (c ∷ t) refl (scaled p.0 p.1)

-- digits and an exponent or none, or digits, a point, digits and an exponent or none
pub whole_by : (P : List ℕ → Type 0) → ((ds b : List ℕ) → is_digits ds ≡ true → Back b → P (ds ++ b))
    → ((ds fs b : List ℕ) → is_digits ds ≡ true → is_digits fs ≡ true → Back b → P (ds ++ 46 ∷ (fs ++ b))) → (t : List ℕ) → ends_whole t ≡ true → P t
whole_by P f g [] h = f [] [] refl bare
whole_by P f g (c ∷ t) h =
    cases (is_digit c) refl
    (λ k. whole_by (λ x. P (c ∷ x)) (λ ds b d back. f (c ∷ ds) b (with c ds k d) back) (λ ds fs b d e back. g (c ∷ ds) fs b (with c ds k d) e back) t)
  where
    with : (c : ℕ) (fs : List ℕ) → is_digit c ≡ true → is_digits fs ≡ true → is_digits (c ∷ fs) ≡ true
    with c fs k d = ap (λ b. b && is_digits fs) k ∙ d

    Rest : Bool → Bool → Bool
    Rest x y = elim x [ true ↦ ends_whole t | false ↦ elim y [ true ↦ ends_fraction t | false ↦ is_mark c && is_exponent t ] ]

    point : (c : ℕ) → (c == 46) ≡ true → ends_fraction t ≡ true → P (c ∷ t)
    point c e k = subst (λ x. P (x ∷ t)) (sym (eqb-true c 46 e)) (fraction_by (λ x. P (46 ∷ x)) (λ fs b d back. g [] fs b refl d back) t k)

    other : (b : Bool) → (c == 46) ≡ b → elim b [ true ↦ ends_fraction t | false ↦ is_mark c && is_exponent t ] ≡ true → P (c ∷ t)
    other true e k = point c e k
    other false e k = (let p = and_parts (is_mark c) (is_exponent t) k in f [] (c ∷ t) refl (scaled p.0 p.1))

    cases : (b : Bool) → is_digit c ≡ b → (is_digit c ≡ true → ends_whole t ≡ true → P (c ∷ t)) → P (c ∷ t)
    cases true e more = more e (sym (ap (λ b. elim b [ true ↦ ends_whole t | false ↦ elim (c == 46) [ true ↦ ends_fraction t | false ↦ is_mark c && is_exponent t ] ]) e) ∙ h)
    cases false e more = other (c == 46) refl (sym (ap (λ b. elim b [ true ↦ ends_whole t | false ↦ elim (c == 46) [ true ↦ ends_fraction t | false ↦ is_mark c && is_exponent t ] ]) e) ∙ h)

-- the same without a sign, with a digit on one side of the point
pub unsigned_by : (P : List ℕ → Type 0) → ((ds b : List ℕ) → is_digits ds ≡ true → 0 < length ds → Back b → P (ds ++ b))
    → ((ds fs b : List ℕ) → is_digits ds ≡ true → is_digits fs ≡ true → 0 < length ds + length fs → Back b → P (ds ++ 46 ∷ (fs ++ b))) → (t : List ℕ) → is_unsigned t ≡ true → P t
unsigned_by P f g [] h = absurd cc
unsigned_by P f g (c ∷ t) h = cases (is_digit c) refl
  where
    with : (c : ℕ) (fs : List ℕ) → is_digit c ≡ true → is_digits fs ≡ true → is_digits (c ∷ fs) ≡ true
    with c fs k d = ap (λ b. b && is_digits fs) k ∙ d

    pointed : (u : List ℕ) → starts_fraction u ≡ true → P (46 ∷ u)
    pointed [] k = absurd cc
    pointed (d ∷ u) k =
        let p = and_parts (is_digit d) (ends_fraction u) k in
        fraction_by (λ x. P (46 ∷ d ∷ x)) (λ fs b e back. g [] (d ∷ fs) b refl (with d fs p.0 e) (omega arith) back) u p.1

    cases : (b : Bool) → is_digit c ≡ b → P (c ∷ t)
    cases true e =
        whole_by (λ x. P (c ∷ x)) (λ ds b d back. f (c ∷ ds) b (with c ds e d) (omega arith) back) (λ ds fs b d k back. g (c ∷ ds) fs b (with c ds e d) k (omega arith) back) t
        (sym (ap (λ b. elim b [ true ↦ ends_whole t | false ↦ (c == 46) && starts_fraction t ]) e) ∙ h)
    cases false e =
        let p = and_parts (c == 46) (starts_fraction t) (sym (ap (λ b. elim b [ true ↦ ends_whole t | false ↦ (c == 46) && starts_fraction t ]) e) ∙ h) in
        subst (λ x. P (x ∷ t)) (sym (eqb-true c 46 p.0)) (pointed t p.1)
