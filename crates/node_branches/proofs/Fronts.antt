-- The front of a path.
use Rattle.std.proofs.Common.{◌≡◌, ◌∙◌, sym, ap, refl, arith, ℕ, zero, suc, ◌-◌, ◌≤◌, ◌<◌, [], ◌∷◌, length, take, ◌⊎◌, inl, inr}
use Rattle.std.proofs.lemmas.Bool.{cases_lt}
use Rattle.composition.specs.Paths.{Path, up}

all_taken : (k : ℕ) (p : Path) → length p ≤ k → take k p ≡ p
all_taken zero [] h = refl
all_taken (suc k) [] h = refl
all_taken zero (e ∷ p) h = absurd (omega arith)
all_taken (suc k) (e ∷ p) h = ap (λ (r : Path). e ∷ r) (all_taken k p (omega arith))

pub front_is : (p : Path) (count k : ℕ) → k ≡ length p - count → up p k ≡ take count p
front_is p count k is = by_order (cases_lt (length p) count)
  where
    by_order : (length p < count) ⊎ (count ≤ length p) → up p k ≡ take count p
    by_order (inr h) = let e : length p - k ≡ count = omega arith in ap (λ (m : ℕ). take m p) e
    by_order (inl h) =
        let all : length p - k ≡ length p = omega arith in
        ap (λ (m : ℕ). take m p) all ∙ all_taken (length p) p (omega arith) ∙ sym (all_taken count p (omega arith))
