-- The levels of a path by their numbers.
use Rattle.std.proofs.Common.{◌≡◌, ◌⊎◌, inl, inr, subst, refl, sym, ap, ◌∙◌, ℕ, zero, suc, ◌-◌, ◌<◌, ◌≤◌, Bool, true, false, true≢false, List, [], ◌∷◌, ◌++◌, length, take, arith}
use Rattle.std.proofs.Math.Seq.{take-length}
use Rattle.std.proofs.lemmas.Bool.{cases_lt}
use Rattle.composition.specs.Paths.{Path, up, levels, below, levels_of, has_selections}
use Rattle.agreeing_worlds.proofs.Each.{Each, front_of, back_of}
use Rattle.agreeing_worlds.proofs.Good.{Below}

few_levels : (p : Path) → levels p ≤ length p
few_levels [] = omega arith
few_levels (e ∷ p) = by (has_selections p) (few_levels p)
  where
    by : (b : Bool) → levels p ≤ length p → (elim b as (λ _. ℕ) [ true ↦ levels p | false ↦ length (e ∷ p) ]) ≤ length (e ∷ p)
    by true h = omega (arith, h)
    by false h = omega arith

one_more : (P : ℕ → Type 0) (xs : List ℕ) (n : ℕ) → Each P xs → P n → Each P (xs ++ n ∷ [])
one_more P [] n h last = (last, tt)
one_more P (x ∷ xs) n h last = (h.0, one_more P xs n h.1 last)

each_below : (P : ℕ → Type 0) (n : ℕ) → ((j : ℕ) → j < n → P j) → Each P (below n)
each_below P zero h = tt
each_below P (suc n) h = one_more P (below n) n (each_below P n (λ j less. h j (omega (arith, less)))) (h n (omega arith))

-- what holds of all numbers below the length of a path holds of its levels
pub each_level : (P : ℕ → Type 0) (p : Path) → ((j : ℕ) → j < length p → P j) → Each P (levels_of p)
each_level P p h = each_below P (levels p) (λ j less. h j (omega (arith, less, few_levels p)))

pub first_below : (P : ℕ → Type 0) (n : ℕ) → 0 < n → Each P (below n) → P 0
first_below P zero some h = absurd (omega (arith, some))
first_below P (suc zero) some h = h.0
first_below P (suc (suc n)) some h = first_below P (suc n) (omega arith) (front_of P (below (suc n)) (suc n ∷ []) h)

some_level : (p : Path) → Below p → 0 < levels p
some_level [] h = absurd h
some_level (e ∷ p) h = by p (some_level p) (has_selections p) refl
  where
    by : (q : Path) → (Below q → 0 < levels q) → (b : Bool) → has_selections q ≡ b → 0 < (elim b as (λ _. ℕ) [ true ↦ levels q | false ↦ length (e ∷ q) ])
    by [] deeper true is = absurd (true≢false (sym is))
    by (x ∷ q) deeper true is = deeper tt
    by q deeper false is = omega arith

-- a path that is not `/` has level 0
pub level_zero : (P : ℕ → Type 0) (p : Path) → Below p → Each P (levels_of p) → P 0
level_zero P p h each = first_below P (levels p) (some_level p h) each

pub at_zero : (p : Path) → up p 0 ≡ p
at_zero p = let all : length p - 0 ≡ length p = omega arith in ap (λ (k : ℕ). take k p) all ∙ take-length p

pub at_level : (P : ℕ → Type 0) (n : ℕ) → Each P (below n) → (j : ℕ) → j < n → P j
at_level P zero h j less = absurd (omega (arith, less))
at_level P (suc n) h j less = by (at_level P n (front_of P (below n) (n ∷ []) h) j) (cases_lt j n)
  where
    by : (j < n → P j) → (j < n) ⊎ (n ≤ j) → P j
    by before (inl fewer) = before fewer
    by before (inr last) = let same : n ≡ j = omega (arith, last, less) in subst P same (back_of P (below n) (n ∷ []) h).0
