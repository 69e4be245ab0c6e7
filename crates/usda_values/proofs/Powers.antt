-- Powers of ten and products within 128 signed bits.
use Rattle.std.proofs.Common.{◌≡◌, ◌∙◌, ℕ, ◌<◌, ◌≤◌, ◌^◌, nat_le, nat_lt, Bool, true, false, Option, Some, None, ap, sym, refl, arith}
use Rattle.std.specs.Prelude.{ℤ, pos, negsuc, ◌≤ℤ◌, FitsSigned, SomeIff, if◌then◌else◌}
use Rattle.std.specs.Int.{w128}
use Rattle.std.proofs.lemmas.Bool.Decides.{nat_tests}
use Rattle.std.proofs.lemmas.Int.{ints, fits_signed_from_abs}
use Rattle.sdf_values.proofs.Powers.{ten_le}
use Rattle.usda_values.specs.Scalars.{power_of, in_128_bits}

pub power_fits : (e : ℕ) → e ≤ 38 → FitsSigned w128 (pos (10 ^ e))
power_fits e h = fits_signed_from_abs w128 (pos (10 ^ e)) (omega (arith, ten_le e 38 h))

pub small_power : (exp : ℤ) (n : ℕ) → exp ≡ pos n → n ≤ 38 → power_of exp ≡ Some (pos (10 ^ n))
small_power exp n e h = ap power_of e ∙ (let test : nat_le n 38 ≡ true = grind (arith, nat_tests) in ap (λ b. if b then Some (pos (10 ^ n)) else None) test)

pub large_power : (exp : ℤ) → pos 39 ≤ℤ exp → power_of exp ≡ None
large_power (pos n) h = let test : nat_le n 38 ≡ false = (let lt : 39 ≤ n = omega (arith, ints, h) in grind (arith, nat_tests)) in ap (λ b. if b then Some (pos (10 ^ n)) else None) test
large_power (negsuc n) h = refl

pub no_power : (exp : ℤ) → exp ≤ℤ negsuc 0 → power_of exp ≡ None
no_power (pos n) h = absurd (omega (arith, ints, h))
no_power (negsuc n) h = refl

pub product_is : (r : Option ℤ) (z : ℤ) → SomeIff r (FitsSigned w128 z) z → r ≡ in_128_bits z
product_is (Some v) (pos n) h = let lt : n < 2 ^ 127 = omega (arith, ints, h.0) in let test : nat_lt n (2 ^ 127) ≡ true = grind (arith, nat_tests) in
    ap Some h.1 ∙ ap (λ b. if b then Some (pos n) else None) (sym test)
product_is (Some v) (negsuc n) h = let lt : n < 2 ^ 127 = omega (arith, ints, h.0) in let test : nat_lt n (2 ^ 127) ≡ true = grind (arith, nat_tests) in
    ap Some h.1 ∙ ap (λ b. if b then Some (negsuc n) else None) (sym test)
product_is None (pos n) h = test (nat_lt n (2 ^ 127)) refl
  where
    test : (b : Bool) → nat_lt n (2 ^ 127) ≡ b → None ≡ (if b then Some (pos n) else None)
    test false e = refl
    test true e = absurd (let lt : n < 2 ^ 127 = grind (arith, nat_tests) in h (omega (arith, ints, lt)))
product_is None (negsuc n) h = test (nat_lt n (2 ^ 127)) refl
  where
    test : (b : Bool) → nat_lt n (2 ^ 127) ≡ b → None ≡ (if b then Some (negsuc n) else None)
    test false e = refl
    test true e = absurd (let lt : n < 2 ^ 127 = grind (arith, nat_tests) in h (omega (arith, ints, lt)))
