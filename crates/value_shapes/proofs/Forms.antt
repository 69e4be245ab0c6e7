-- The test for the one form of a decimal, and the size of a whole number that is held.
use Rattle.std.proofs.Common.{◌≡◌, suc, ◌<◌, ◌^◌, ◌%◌, ◌&&◌, ◌||◌, ◌==◌, not, nat_lt, Bool, true, false, Some, None, ap, refl, arith, eqb-true, eq-eqb}
use Rattle.std.specs.Prelude.{if◌then◌else◌, ℤ, pos, negsuc, ◌≤ℤ◌, int_le, unsigned_abs}
use Rattle.std.specs.Option.{is_some}
use Rattle.std.proofs.lemmas.Bool.Decides.{nat_tests}
use Rattle.std.proofs.lemmas.Int.{ints}
use Rattle.std.proofs.lemmas.Bool.{and_parts, and_from}
use Rattle.sdf_values.specs.Numbers.{DecimalNumber, IsDecimal, zero_number}
use Rattle.sdf_values.proofs.Powers.{same_parts}
use Rattle.usda_values.specs.Scalars.{in_128_bits}
use Rattle.usda_values.proofs.Wholes.{abs_zero}
use Rattle.value_shapes.specs.Held.{is_zero, is_form}

zero_is : (d : DecimalNumber) → is_zero d ≡ true → d ≡ zero_number
zero_is d h =
    let p = and_parts (unsigned_abs d.digits == 0) (unsigned_abs d.exp == 0) h in
    same_parts d zero_number (abs_zero d.digits (eqb-true (unsigned_abs d.digits) 0 p.0)) (abs_zero d.exp (eqb-true (unsigned_abs d.exp) 0 p.1))

last_zero : (b z : Bool) → b ≡ true → (not b || z) ≡ true → z ≡ true
last_zero true z e h = h
last_zero false z e h = absurd cc

pub form_is : (d : DecimalNumber) → is_form d ≡ true → IsDecimal d
form_is d h =
    let last : Bool = not (unsigned_abs d.digits % 10 == 0) || is_zero d in
    let p = and_parts (nat_lt (unsigned_abs d.digits) (10 ^ 34)) (int_le (negsuc 399) d.exp && (int_le d.exp (pos 400) && last)) h in
    let q = and_parts (int_le (negsuc 399) d.exp) (int_le d.exp (pos 400) && last) p.1 in
    let r = and_parts (int_le d.exp (pos 400)) last q.1 in
    record {
      short = (let t = p.0 in grind (arith, nat_tests));
      least = (let t = q.0 in omega (arith, ints, t));
      most = (let t = r.0 in omega (arith, ints, t));
      reduced = λ e. zero_is d (last_zero (unsigned_abs d.digits % 10 == 0) (is_zero d) (eq-eqb (unsigned_abs d.digits % 10) 0 e) r.1);
    }

pub at_least : (a b : ℤ) → a ≤ℤ b → int_le a b ≡ true
at_least a b h = cases (int_le a b) refl
  where
    cases : (r : Bool) → int_le a b ≡ r → int_le a b ≡ true
    cases true e = e
    cases false e = absurd (omega (arith, ints, h, e))

zero_or_not : (d : DecimalNumber) → IsDecimal d → (b : Bool) → (unsigned_abs d.digits % 10 == 0) ≡ b → (not b || is_zero d) ≡ true
zero_or_not d is false e = refl
zero_or_not d is true e = (let zero : d ≡ zero_number = is.reduced (eqb-true (unsigned_abs d.digits % 10) 0 e) in ap is_zero zero)

pub form_found : (d : DecimalNumber) → IsDecimal d → is_form d ≡ true
form_found d is =
    let short : nat_lt (unsigned_abs d.digits) (10 ^ 34) ≡ true = (let few = is.short in grind (arith, nat_tests)) in
    and_from _ _ short (and_from _ _ (at_least (negsuc 399) d.exp is.least) (and_from _ _ (at_least d.exp (pos 400) is.most) (zero_or_not d is (unsigned_abs d.digits % 10 == 0) refl)))

-- 2^127 is below 10^39
pub held_size : (n : ℤ) → is_some (in_128_bits n) ≡ true → unsigned_abs n < 10 ^ 39
held_size (pos n) h = test (nat_lt n (2 ^ 127)) refl h
  where
    test : (b : Bool) → nat_lt n (2 ^ 127) ≡ b → is_some (if b then Some (pos n) else None) ≡ true → n < 10 ^ 39
    test true e g = (let l : n < 2 ^ 127 = grind (arith, nat_tests) in omega (arith, l))
    test false e g = absurd cc
held_size (negsuc n) h = test (nat_lt n (2 ^ 127)) refl h
  where
    test : (b : Bool) → nat_lt n (2 ^ 127) ≡ b → is_some (if b then Some (negsuc n) else None) ≡ true → suc n < 10 ^ 39
    test true e g = (let l : n < 2 ^ 127 = grind (arith, nat_tests) in omega (arith, l))
    test false e g = absurd cc
