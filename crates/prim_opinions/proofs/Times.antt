-- Products of offsets and scales, and times within their range.
use Rattle.std.proofs.Common.{◌≡◌, ◌∙◌, sym, ap, subst, ℕ, ◌*◌, ◌^◌, ◌<◌, ◌≤◌, arith, Bool, true, false, Option, Some, None, to_z, of_z, w64}
use Rattle.std.specs.Int.{w128}
use Rattle.std.specs.Prelude.{ℤ, pos, negsuc, ◌+ℤ◌, ◌*ℤ◌, ◌≤ℤ◌, unsigned_abs, nat_le, FitsSigned}
use Rattle.std.proofs.lemmas.Int.{ints, to_z-of_z, fits_signed_mul, unsigned_abs-mul}
use Rattle.std.proofs.lemmas.Bool.Decides.{nat_tests}
use Rattle.std.proofs.Math.Nat.{mul-le-mul}
use Rattle.composition.specs.Values.{if_time}

pub multiplied : (a b : ℤ) (m n : ℕ) → FitsSigned w64 a → FitsSigned w64 b → unsigned_abs a ≤ m → unsigned_abs b ≤ n → m * n < 2 ^ 63
    → to_z w64 (of_z w64 (to_z w64 (of_z w64 a) *ℤ to_z w64 (of_z w64 b))) ≡ a *ℤ b
multiplied a b m n fa fb la lb l =
    ap (λ (z : ℤ). to_z w64 (of_z w64 (z *ℤ to_z w64 (of_z w64 b)))) (to_z-of_z w64 a fa)
    ∙ (ap (λ (z : ℤ). to_z w64 (of_z w64 (a *ℤ z))) (to_z-of_z w64 b fb)
    ∙ to_z-of_z w64 (a *ℤ b) (fits_signed_mul w64 a b m n la lb l))

pub product_size : (a b : ℤ) (m n : ℕ) → unsigned_abs a ≤ m → unsigned_abs b ≤ n → unsigned_abs (a *ℤ b) ≤ m * n
product_size a b m n la lb = subst (λ (k : ℕ). k ≤ m * n) (sym (unsigned_abs-mul a b)) (mul-le-mul la lb)

pub scale_size : (a : ℤ) → pos 1 ≤ℤ a → a ≤ℤ pos 1000000 → unsigned_abs a ≤ 1000000
scale_size (pos n) least most = omega (arith, ints)
scale_size (negsuc n) least most = absurd (omega (arith, ints))

pub product_least : (a b : ℤ) → pos 1 ≤ℤ a → pos 1 ≤ℤ b → pos 1 ≤ℤ (a *ℤ b)
product_least (pos m) (pos n) p q =
    let one : 1 ≤ m = omega (arith, ints) in
    let two : 1 ≤ n = omega (arith, ints) in
    let both : 1 * 1 ≤ m * n = mul-le-mul one two in
    omega (arith, ints, both)
product_least (pos m) (negsuc n) p q = absurd (omega (arith, ints))
product_least (negsuc m) (pos n) p q = absurd (omega (arith, ints))
product_least (negsuc m) (negsuc n) p q = absurd (omega (arith, ints))

pub a_time : (z : ℤ) → unsigned_abs z ≤ 10 ^ 30 → Some z ≡ if_time z
a_time z h =
    let is : nat_le (unsigned_abs z) (10 ^ 30) ≡ true = grind (arith, nat_tests) in
    sym (ap (λ (b : Bool). let o : Option ℤ = elim b as (λ _. Option ℤ) [ true ↦ Some z | false ↦ None ] in o) is)

pub no_time : (z : ℤ) → 10 ^ 30 < unsigned_abs z → None ≡ if_time z
no_time z h =
    let is : nat_le (unsigned_abs z) (10 ^ 30) ≡ false = grind (arith, nat_tests) in
    sym (ap (λ (b : Bool). let o : Option ℤ = elim b as (λ _. Option ℤ) [ true ↦ Some z | false ↦ None ] in o) is)

-- what is computed by steps that fit
module _ (time scale shift scaled moved : ℤ) (ft : FitsSigned w128 time) (fs : FitsSigned w64 scale) (fh : FitsSigned w128 shift)
    (a : FitsSigned w128 (to_z w128 (of_z w128 time) *ℤ to_z w128 (of_z w128 (to_z w64 (of_z w64 scale)))) × (scaled ≡ to_z w128 (of_z w128 time) *ℤ to_z w128 (of_z w128 (to_z w64 (of_z w64 scale)))))
    (b : FitsSigned w128 (to_z w128 (of_z w128 scaled) +ℤ to_z w128 (of_z w128 shift)) × (moved ≡ to_z w128 (of_z w128 scaled) +ℤ to_z w128 (of_z w128 shift))) where
  scale_plain : to_z w128 (of_z w128 (to_z w64 (of_z w64 scale))) ≡ scale
  scale_plain = omega (arith, ints)

  scaled_is : scaled ≡ time *ℤ scale
  scaled_is = a.1 ∙ (ap (λ (z : ℤ). z *ℤ to_z w128 (of_z w128 (to_z w64 (of_z w64 scale)))) (to_z-of_z w128 time ft) ∙ ap (λ (z : ℤ). time *ℤ z) scale_plain)

  pub moved_is : to_z w128 (of_z w128 moved) ≡ (time *ℤ scale) +ℤ shift
  moved_is =
      to_z-of_z w128 moved (subst (FitsSigned w128) (sym b.1) b.0)
      ∙ (b.1
      ∙ (ap (λ (z : ℤ). z +ℤ to_z w128 (of_z w128 shift)) (to_z-of_z w128 scaled (subst (FitsSigned w128) (sym a.1) a.0) ∙ scaled_is)
      ∙ ap (λ (z : ℤ). (time *ℤ scale) +ℤ z) (to_z-of_z w128 shift fh)))
