-- The time that a decimal is.
use Rattle.std.proofs.Common.{ℕ, zero, suc, ◌≡◌, ◌≢◌, ◌+◌, ◌-◌, ◌*◌, ◌%◌, ◌/◌, ◌^◌, ◌<◌, ◌≤◌, ◌∙◌, sym, ap, refl, arith}
use Rattle.std.specs.Prelude.{ℤ, pos, negsuc, ◌+ℤ◌, ◌*ℤ◌, ◌≤ℤ◌, unsigned_abs}
use Rattle.std.proofs.lemmas.Int.{ints}
use Rattle.std.proofs.Math.Nat.{div-lt_iff_lt-mul, mul-mod_left, mul_assoc, mul-le-mul_right, div-mul-le_self}
use Rattle.sdf_values.specs.Numbers.{DecimalNumber, IsDecimal, excess}
use Rattle.sdf_values.specs.Scales.{IsTime, IsTimeOf}
use Rattle.sdf_values.proofs.Digits.{at_most}
use Rattle.sdf_values.proofs.Powers.{cut_ℤ, excess_above, excess_below, abs_times, ten_le, ten_suc, ten_some}

times_unit : (z : ℤ) → z ≡ z *ℤ pos 1
times_unit (pos n) = omega (arith, ints)
times_unit (negsuc n) = omega (arith, ints)

-- a decimal that has no more than 18 decimals
pub is_time : (d : DecimalNumber) (k : ℕ) → d.exp ≡ negsuc 17 +ℤ pos k → IsTimeOf d (d.digits *ℤ pos (10 ^ k))
is_time d k e =
    ap (λ p. d.digits *ℤ pos (10 ^ p)) (excess_above d.exp (negsuc 17) k e) ∙ times_unit (d.digits *ℤ pos (10 ^ k))
    ∙ ap (λ p. (d.digits *ℤ pos (10 ^ k)) *ℤ pos (10 ^ p)) (sym (excess_below (negsuc 17) d.exp k e))

pub only_time : (d : DecimalNumber) (k : ℕ) (t : ℤ) → d.exp ≡ negsuc 17 +ℤ pos k → IsTimeOf d t → d.digits *ℤ pos (10 ^ k) ≡ t
only_time d k t e is =
    ap (λ p. d.digits *ℤ pos (10 ^ p)) (sym (excess_above d.exp (negsuc 17) k e)) ∙ is
    ∙ ap (λ p. t *ℤ pos (10 ^ p)) (excess_below (negsuc 17) d.exp k e) ∙ sym (times_unit t)

-- a decimal with more than 18 decimals is no time
pub no_time : (d : DecimalNumber) (n : ℕ) (t : ℤ) → IsDecimal d → d.digits ≢ pos 0 → negsuc 17 ≡ d.exp +ℤ pos (suc n) → IsTimeOf d t → ⊥
no_time d n t is some e same =
    let sizes : unsigned_abs d.digits ≡ unsigned_abs t * 10 ^ suc n =
    ap unsigned_abs (times_unit d.digits ∙ ap (λ p. d.digits *ℤ pos (10 ^ p)) (sym (excess_below d.exp (negsuc 17) (suc n) e)) ∙ same
    ∙ ap (λ p. t *ℤ pos (10 ^ p)) (excess_above (negsuc 17) d.exp (suc n) e)) ∙ abs_times t (10 ^ suc n) in
    let tens : unsigned_abs d.digits % 10 ≡ 0 =
    ap (λ k. k % 10) (sizes ∙ ap (λ p. unsigned_abs t * p) (ten_suc n) ∙ sym (mul_assoc (unsigned_abs t) (10 ^ n) 10)) ∙ mul-mod_left (unsigned_abs t * 10 ^ n) 10 in
    some (ap (λ f. f.digits) (is.reduced tens))

pub time_size : (digits : ℤ) (k : ℕ) (t : ℤ) → digits *ℤ pos (10 ^ k) ≡ t → unsigned_abs t ≡ unsigned_abs digits * 10 ^ k
time_size digits k t e = ap unsigned_abs (sym e) ∙ abs_times digits (10 ^ k)

pub some_size : (z : ℤ) → z ≢ pos 0 → 0 < unsigned_abs z
some_size (pos zero) h = absurd (h refl)
some_size (pos (suc n)) h = omega arith
some_size (negsuc n) h = omega arith

-- an exponent above 12 is past all times
pub past_time : (d : DecimalNumber) (k : ℕ) (t : ℤ) → d.digits ≢ pos 0 → d.exp ≡ negsuc 17 +ℤ pos k → 30 < k → IsTimeOf d t → IsTime t → ⊥
past_time d k t some e far same within =
    absurd (omega (arith, within, time_size d.digits k t (only_time d k t e same), at_most (unsigned_abs d.digits) (10 ^ k) (some_size d.digits some), ten_le 31 k far))

-- digits above the share of a unit are past all times
pub large_time : (d : DecimalNumber) (k : ℕ) (t : ℤ) → d.exp ≡ negsuc 17 +ℤ pos k → 10 ^ 30 / 10 ^ k < unsigned_abs d.digits → IsTimeOf d t → IsTime t → ⊥
large_time d k t e large same within =
    let above : 10 ^ 30 < unsigned_abs d.digits * 10 ^ k = (div-lt_iff_lt-mul (ten_some k)).0 large in
    absurd (omega (arith, within, time_size d.digits k t (only_time d k t e same), above))

pub below_units : (e : ℤ) → e ≤ℤ negsuc 18 → (n : ℕ) × (negsuc 17 ≡ e +ℤ pos (suc n))
below_units (pos n) h = absurd (omega (arith, ints, h))
below_units (negsuc n) h = (n - 18, omega (arith, ints, h))

pub above_units : (e : ℤ) → pos 13 ≤ℤ e → (k : ℕ) × ((e ≡ negsuc 17 +ℤ pos k) × (30 < k))
above_units (pos n) h = (n + 18, (omega (arith, ints, h), omega (arith, ints, h)))
above_units (negsuc n) h = absurd (omega (arith, ints, h))

pub fits_units : (digits : ℤ) (k : ℕ) → unsigned_abs digits ≤ 10 ^ 30 / 10 ^ k → IsTime (digits *ℤ pos (10 ^ k))
fits_units digits k h =
    omega (arith, abs_times digits (10 ^ k), mul-le-mul_right (10 ^ k) h, div-mul-le_self (10 ^ 30) (10 ^ k))

-- one time alone is a number
pub one_time : (d : DecimalNumber) (t u : ℤ) → IsTimeOf d t → IsTimeOf d u → u ≡ t
one_time d t u p q = cut_ℤ u t (10 ^ excess (negsuc 17) d.exp) (ten_some (excess (negsuc 17) d.exp)) (sym q ∙ p)
