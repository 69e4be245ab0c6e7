-- The first answer along numbers from 0 on.
use Rattle.std.proofs.Common.{◌≡◌, ◌∙◌, ap, subst, refl, arith, ℕ, zero, suc, ◌+◌, List, [], ◌∷◌, ◌++◌, Option, Some, None}
use Rattle.composition.specs.Texts.{first_of}
use Rattle.composition.specs.Paths.{below}

abbrev pub or_else : {Y : Type 0} → Option Y → Option Y → Option Y
or_else (Some y) o = Some y
or_else None o = o

module _ {Y : Type 0} (f : ℕ → Option Y) where
  -- one number further
  further : (xs : List ℕ) (n : ℕ) → first_of f (xs ++ n ∷ []) ≡ or_else (first_of f xs) (f n)
  further [] n = elim (f n) as (λ o. (elim o as (λ _. Option Y) [ Some y ↦ Some y | None ↦ None ]) ≡ o) [ Some y ↦ refl | None ↦ refl ]
  further (x ∷ xs) n =
      elim (f x) as (λ o. (elim o as (λ _. Option Y) [ Some y ↦ Some y | None ↦ first_of f (xs ++ n ∷ []) ]) ≡ or_else (elim o as (λ _. Option Y) [ Some y ↦ Some y | None ↦ first_of f xs ]) (f n)) [
        | Some y ↦ refl
        | None ↦ further xs n
      ]

  pub none_yet : (n m : ℕ) → m ≡ suc n → first_of f (below n) ≡ None → f n ≡ None → first_of f (below m) ≡ None
  none_yet n m next before here =
      ap (λ (k : ℕ). first_of f (below k)) next ∙ (further (below n) n ∙ (ap (λ (o : Option Y). or_else o (f n)) before ∙ here))

  there_already : (y : Y) (n : ℕ) → first_of f (below n) ≡ Some y → first_of f (below (suc n)) ≡ Some y
  there_already y n before = further (below n) n ∙ ap (λ (o : Option Y). or_else o (f n)) before

  here_first : (y : Y) (n : ℕ) → first_of f (below n) ≡ None → f n ≡ Some y → first_of f (below (suc n)) ≡ Some y
  here_first y n before here = further (below n) n ∙ (ap (λ (o : Option Y). or_else o (f n)) before ∙ here)

  -- what is found first stays the first answer along more numbers
  pub found : (y : Y) (j d n : ℕ) → n ≡ suc j + d → first_of f (below j) ≡ None → f j ≡ Some y → first_of f (below n) ≡ Some y
  found y j zero n e before here =
      let last : suc j ≡ n = omega (arith, e) in
      subst (λ (m : ℕ). first_of f (below m) ≡ Some y) last (here_first y j before here)
  found y j (suc d) zero e before here = absurd (omega (arith, e))
  found y j (suc d) (suc m) e before here =
      let shorter : m ≡ suc j + d = omega (arith, e) in
      there_already y m (found y j d m shorter before here)
