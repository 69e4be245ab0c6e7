-- The decimal and the time of a number are found where there are any.
use Rattle.std.proofs.Common.{◌≡◌, ◌≢◌, ◌∙◌, ℕ, ◌+◌, ◌*◌, ◌%◌, ◌^◌, ◌<◌, ◌==◌, nat_lt, nat_le, Bool, true, false, Some, None, ap, sym, refl, subst, arith, eqb-true}
use Rattle.std.specs.Prelude.{if◌then◌else◌, ℤ, pos, negsuc, ◌+ℤ◌, ◌*ℤ◌, int_le, unsigned_abs}
use Rattle.std.proofs.lemmas.Bool.Decides.{nat_tests}
use Rattle.std.proofs.lemmas.Int.{ints}
use Rattle.sdf_values.specs.Numbers.{DecimalNumber, IsDecimal, SameNumber, zero_number}
use Rattle.sdf_values.specs.NumberTexts.{signed}
use Rattle.sdf_values.specs.Scales.{IsTime}
use Rattle.sdf_values.proofs.Powers.{IsForm, only_form, only_zero, same_parts, abs_signed, abs_times, ten_some}
use Rattle.sdf_values.proofs.Digits.{at_least as no_less}
use Rattle.usda_values.specs.Scalars.{in_128_bits, tens_out, if_short, is_below_zero, decimal_of_whole, if_time, time_of}
use Rattle.usda_values.proofs.TimeLaw.{if_within}
use Rattle.usda_values.proofs.Wholes.{signed_back, strip}
use Rattle.std.specs.Option.{is_some}
use Rattle.value_shapes.specs.Held.{is_form}
use Rattle.value_shapes.proofs.Forms.{at_least, form_found, held_size}
use Rattle.value_shapes.proofs.Numbers.{whole_parts, times_one, tens_joined, places_of, places}

-- few digits and their tens
short_is : (b : Bool) (m z : ℕ) → m < 10 ^ 34 → if_short b (Some (m, 0 + z)) ≡ Some (record { digits = signed b m; exp = pos (0 + z) })
short_is b m z few =
    let test : nat_lt m (10 ^ 34) ≡ true = grind (arith, nat_tests) in
    let made : DecimalNumber = record { digits = signed b m; exp = pos (0 + z) } in
    ap (λ t. if t then Some made else None) test

-- the one decimal that a whole number is
pub decimal_found : (n : ℤ) (d : DecimalNumber) → unsigned_abs n < 10 ^ 39 → IsDecimal d → SameNumber n (pos 0) d.digits d.exp → decimal_of_whole n ≡ Some d
unfolding decimal_of_whole tens_out
decimal_found n d low good h = cases (unsigned_abs n == 0) refl
  where
    same : SameNumber (signed (is_below_zero n) (unsigned_abs n)) (pos 0) d.digits d.exp
    same = subst (λ x. SameNumber x (pos 0) d.digits d.exp) (sym (signed_back n)) h

    zero_parts : (k : ℕ) → k ≡ 0 → SameNumber (signed (is_below_zero n) k) (pos 0) d.digits d.exp → zero_number ≡ d
    zero_parts k e s = only_zero (is_below_zero n) (pos 0) d good (subst (λ j. SameNumber (signed (is_below_zero n) j) (pos 0) d.digits d.exp) e s)

    cases : (b : Bool) → (unsigned_abs n == 0) ≡ b → (if b then Some zero_number else if_short (is_below_zero n) (tens_out (unsigned_abs n))) ≡ Some d
    cases true e = ap Some (zero_parts (unsigned_abs n) (eqb-true (unsigned_abs n) 0 e) same)
    cases false e =
        let some : 0 < unsigned_abs n = grind (arith, nat_tests) in
        let p = strip 39 (unsigned_abs n) 0 some low in
        let form : IsForm (unsigned_abs n) p.digits p.zeros = record { whole = p.whole; last = p.last } in
        let is = only_form (is_below_zero n) (unsigned_abs n) p.digits p.zeros (pos 0) d form good same in
        let few : p.digits < 10 ^ 34 = subst (λ k. k < 10 ^ 34) (ap unsigned_abs is.0 ∙ abs_signed (is_below_zero n) p.digits) good.short in
        let made : DecimalNumber = record { digits = signed (is_below_zero n) p.digits; exp = pos (0 + p.zeros) } in
        ap (if_short (is_below_zero n)) p.is ∙ short_is (is_below_zero n) p.digits p.zeros few
        ∙ ap Some (same_parts made d (sym is.0) ((let t : pos (0 + p.zeros) ≡ pos 0 +ℤ pos p.zeros = omega (arith, ints) in t) ∙ sym is.1))

-- a whole number of few digits has a decimal
few_digits : (n : ℤ) → unsigned_abs n < 10 ^ 34 → (d : DecimalNumber) × (decimal_of_whole n ≡ Some d)
unfolding decimal_of_whole tens_out
few_digits n low = cases (unsigned_abs n == 0) refl
  where
    cases : (b : Bool) → (unsigned_abs n == 0) ≡ b → (d : DecimalNumber) × ((if b then Some zero_number else if_short (is_below_zero n) (tens_out (unsigned_abs n))) ≡ Some d)
    cases true e = (zero_number, refl)
    cases false e =
        let some : 0 < unsigned_abs n = grind (arith, nat_tests) in
        let p = strip 39 (unsigned_abs n) 0 some (omega (arith, low)) in
        let few : p.digits < 10 ^ 34 = omega (arith, low, p.whole, no_less p.digits (10 ^ p.zeros) (ten_some p.zeros)) in (
          record { digits = signed (is_below_zero n) p.digits; exp = pos (0 + p.zeros) },
          ap (if_short (is_below_zero n)) p.is ∙ short_is (is_below_zero n) p.digits p.zeros few,
        )

-- the time of a decimal without a fraction
time_of_whole : (d : DecimalNumber) (z : ℕ) (t : ℤ) → d.exp ≡ pos z → d.digits *ℤ pos (10 ^ (z + 18)) ≡ t → IsTime t → time_of d ≡ Some t
unfolding time_of
time_of_whole d z t e is within =
    let high : int_le (negsuc 17) d.exp ≡ true = at_least (negsuc 17) d.exp (omega (arith, ints, e)) in
    ap (λ b. if b then if_time (d.digits *ℤ pos (10 ^ places d)) else None) high ∙ ap if_time (ap (λ k. d.digits *ℤ pos (10 ^ k)) (places_of d z e) ∙ is) ∙ if_within t within

-- the decimal of a whole number, and its time
pub time_found_of : (n t : ℤ) → IsTime t → SameNumber n (pos 0) t (negsuc 17) → (d : DecimalNumber) × (decimal_of_whole n ≡ Some d) × (time_of d ≡ Some t)
time_found_of n t within h =
    let is : n *ℤ pos (10 ^ 18) ≡ t = h ∙ times_one t in
    let size : unsigned_abs t ≡ unsigned_abs n * 10 ^ 18 = ap unsigned_abs (sym is) ∙ abs_times n (10 ^ 18) in
    let k = few_digits n (omega (arith, size, within)) in
    let w = whole_parts n k.0 k.1 in (
      k.0,
      k.1,
      time_of_whole k.0 w.tens t w.exp
          (ap (λ x. x *ℤ pos (10 ^ (w.tens + 18))) w.digits ∙ sym (tens_joined w.negative w.size w.tens) ∙ ap (λ x. x *ℤ pos (10 ^ 18)) (sym w.whole) ∙ is) within,
    )

-- the decimal that is computed of a whole number has the one form
made_form : (b : Bool) (m z : ℕ) (d : DecimalNumber) → m % 10 ≢ 0 → z < 39 → if_short b (Some (m, 0 + z)) ≡ Some d → IsDecimal d
made_form b m z d last few h = test (nat_lt m (10 ^ 34)) refl
  where
    made : DecimalNumber
    made = record { digits = signed b m; exp = pos (0 + z) }

    test : (t : Bool) → nat_lt m (10 ^ 34) ≡ t → IsDecimal d
    test true e =
        let same : Some made ≡ Some d = sym (ap (λ t. if t then Some made else None) e) ∙ h in
        let is : made ≡ d = cc same in
        subst IsDecimal is (record {
          short = subst (λ k. k < 10 ^ 34) (sym (abs_signed b m)) (grind (arith, nat_tests));
          least = omega (arith, ints);
          most = omega (arith, ints, few);
          reduced = λ k. absurd (last (ap (λ x. x % 10) (sym (abs_signed b m)) ∙ k));
        })
    test false e = absurd (let same : None ≡ Some d = sym (ap (λ t. if t then Some made else None) e) ∙ h in cc)

pub decimal_held : (n : ℤ) (d : DecimalNumber) → is_some (in_128_bits n) ≡ true → decimal_of_whole n ≡ Some d → is_form d ≡ true
unfolding decimal_of_whole tens_out
decimal_held n d held h = cases (unsigned_abs n == 0) refl
  where
    cases : (b : Bool) → (unsigned_abs n == 0) ≡ b → is_form d ≡ true
    cases true e =
        let same : Some zero_number ≡ Some d = sym (ap (λ b. if b then Some zero_number else if_short (is_below_zero n) (tens_out (unsigned_abs n))) e) ∙ h in
        let is : zero_number ≡ d = cc same in
        subst (λ x. is_form x ≡ true) is refl
    cases false e =
        let some : 0 < unsigned_abs n = grind (arith, nat_tests) in
        let p = strip 39 (unsigned_abs n) 0 some (held_size n held) in
        let made : if_short (is_below_zero n) (Some (p.digits, 0 + p.zeros)) ≡ Some d =
        ap (if_short (is_below_zero n)) (sym p.is) ∙ sym (ap (λ b. if b then Some zero_number else if_short (is_below_zero n) (tens_out (unsigned_abs n))) e) ∙ h in
        form_found d (made_form (is_below_zero n) p.digits p.zeros d p.last p.few made)

-- the time that is computed of a decimal is in range
pub time_limit : (d : DecimalNumber) (t : ℤ) → time_of d ≡ Some t → nat_le (unsigned_abs t) (10 ^ 30) ≡ true
unfolding time_of
time_limit d t h = cases (int_le (negsuc 17) d.exp) refl h
  where
    units : ℤ
    units = d.digits *ℤ pos (10 ^ places d)

    within : (b : Bool) → nat_le (unsigned_abs units) (10 ^ 30) ≡ b → (if b then Some units else None) ≡ Some t → nat_le (unsigned_abs t) (10 ^ 30) ≡ true
    within true e g = (let is : units ≡ t = cc g in subst (λ x. nat_le (unsigned_abs x) (10 ^ 30) ≡ true) is e)
    within false e g = absurd cc

    cases : (b : Bool) → int_le (negsuc 17) d.exp ≡ b → (if b then if_time units else None) ≡ Some t → nat_le (unsigned_abs t) (10 ^ 30) ≡ true
    cases true e g = within (nat_le (unsigned_abs units) (10 ^ 30)) refl g
    cases false e g = absurd cc
