-- The digits behind a point.
use Rattle.std.proofs.Common.{ℕ, zero, suc, ◌≡◌, ◌+◌, ◌-◌, ◌*◌, ◌/◌, ◌%◌, ◌^◌, ◌<◌, ◌∙◌, sym, ap, refl, arith, List, [], ◌∷◌, ◌++◌, append_assoc, Bool, true, false, subst}
use Rattle.std.specs.Prelude.{◌==◌}
use Rattle.std.proofs.lemmas.Bool.Decides.{nat_tests}
use Rattle.std.specs.Fmt.{decimal}
use Rattle.std.proofs.lemmas.Fmt.{decimal_digit}
use Rattle.std.proofs.Math.Nat.{div-lt_iff_lt-mul, mod-lt}
use Rattle.sdf_values.specs.Print.{fraction_digits}
use Rattle.sdf_values.proofs.Powers.{ten_some, ten_next}

pub no_fraction : (k : ℕ) → fraction_digits k 0 ≡ []
unfolding fraction_digits
no_fraction zero = refl
no_fraction (suc k) = refl

pub next_digit : (k f : ℕ) → (f == 0) ≡ false → fraction_digits (suc k) f ≡ (48 + f / 10 ^ k) ∷ fraction_digits k (f % 10 ^ k)
unfolding fraction_digits
next_digit k f h =
    let x : List ℕ = (48 + f / 10 ^ k) ∷ fraction_digits k (f % 10 ^ k) in
    subst (λ (b : Bool). elim b as (λ _. List ℕ) [ true ↦ [] | false ↦ x ] ≡ x) (sym h) refl

pub not_zero : (f : ℕ) → 0 < f → (f == 0) ≡ false
not_zero f h = grind (arith, nat_tests)

-- one more digit of a fraction, behind what is written
pub fraction_step : (k l f : ℕ) (out : List ℕ) → l ≡ k + 1 → 0 < f → f < 10 ^ l → (out ++ decimal (f / 10 ^ k)) ++ fraction_digits k (f % 10 ^ k) ≡ out ++ fraction_digits l f
fraction_step k l f out up some below =
    let small : f / 10 ^ k < 10 = (div-lt_iff_lt-mul (ten_some k)).1 (let b : f < 10 * 10 ^ k = omega (arith, below, ap (λ n. 10 ^ n) up, ten_next k) in b) in
    ap (λ d. (out ++ d) ++ fraction_digits k (f % 10 ^ k)) (decimal_digit (f / 10 ^ k) small)
    ∙ append_assoc out ((48 + f / 10 ^ k) ∷ []) (fraction_digits k (f % 10 ^ k))
    ∙ ap (λ l. out ++ l) (sym (next_digit k f (not_zero f some))) ∙ ap (λ n. out ++ fraction_digits n f) (let e : suc k ≡ l = omega (arith, up) in e)

pub rest_below : (f k : ℕ) → f % 10 ^ k < 10 ^ k
rest_below f k = mod-lt f (ten_some k)

pub left_some : (l f : ℕ) → 0 < f → f < 10 ^ l → l ≡ l - 1 + 1
left_some zero f h k = absurd (omega (arith, h, k))
left_some (suc l) f h k = omega arith
