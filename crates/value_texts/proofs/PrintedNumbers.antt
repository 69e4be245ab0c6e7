-- Whole numbers and times are printed as the decimals that they are.
use Rattle.std.proofs.Math.Pow.{pow-add}
use Rattle.std.proofs.Math.Nat.{mul_assoc}
use Rattle.std.proofs.Common.{◌≡◌, ◌≢◌, ◌∙◌, ℕ, zero, suc, ◌+◌, ◌-◌, ◌*◌, ◌%◌, ◌^◌, ◌<◌, ◌≤◌, ◌==◌, nat_lt, nat_le, Bool, true, false, [], ◌∷◌, ◌++◌, append-nil, replicate, Some, None, ap, sym, refl, subst, arith, eqb-true, inl, inr}
use Rattle.std.specs.Prelude.{if◌then◌else◌, ℤ, pos, negsuc, ◌+ℤ◌, ◌*ℤ◌, ◌≤ℤ◌, unsigned_abs}
use Rattle.std.specs.Fmt.{decimal}
use Rattle.std.proofs.lemmas.Bool.{cases_lt}
use Rattle.std.proofs.lemmas.Bool.Decides.{nat_tests}
use Rattle.std.proofs.lemmas.Int.{ints}
use Rattle.sdf_values.specs.Numbers.{DecimalNumber, IsDecimal, SameNumber, zero_number}
use Rattle.sdf_values.specs.NumberTexts.{signed}
use Rattle.sdf_values.specs.Scales.{IsTime, IsTimeOf}
use Rattle.sdf_values.specs.Print.{sign_text, point_text, scaled_text, decimal_text, time_text, magnitude_text, whole_text, whole_scaled}
use Rattle.sdf_values.proofs.Powers.{IsForm, only_form, only_zero, IsDecimal-zero, moved_zeros, same_parts, abs_signed, signed_times, ten_some, excess_above, excess_below, some_digits}
use Rattle.sdf_values.proofs.Fractions.{not_zero}
use Rattle.usda_values.specs.Scalars.{in_128_bits, power_of, times_power, whole_of, is_below_zero, tens_out, if_short, decimal_of_whole, time_of}
use Rattle.usda_values.proofs.Powers.{small_power}
use Rattle.usda_values.proofs.TimeLaw.{time_found}
use Rattle.usda_values.proofs.Wholes.{abs_zero, signed_back, strip}
use Rattle.value_texts.proofs.Tens.{point_zeros, point_whole, decimal_zeros, scaled_all}

sign_of : (b : Bool) (m : ℕ) → 0 < m → sign_text (signed b m) ≡ sign_text (if b then negsuc 0 else pos 0)
sign_of b zero h = absurd (omega (arith, h))
sign_of true (suc m) h = refl
sign_of false (suc m) h = refl

sign_same : (n : ℤ) (m : ℕ) → 0 < m → sign_text (signed (is_below_zero n) m) ≡ sign_text n
sign_same (pos n) zero h = absurd (omega (arith, h))
sign_same (negsuc n) zero h = absurd (omega (arith, h))
sign_same (pos n) (suc m) h = refl
sign_same (negsuc n) (suc m) h = refl

-- the decimal that digits and a power of ten are
abbrev made : ℤ → ℕ → ℤ → DecimalNumber
made n m e = record { digits = signed (is_below_zero n) m; exp = e }

made_text : (n : ℤ) (m : ℕ) (e : ℤ) → 0 < m → decimal_text (made n m e) ≡ sign_text n ++ scaled_text m e
made_text n m e h = ap (λ s. s ++ scaled_text (unsigned_abs (signed (is_below_zero n) m)) e) (sign_same n m h) ∙ ap (λ k. sign_text n ++ scaled_text k e) (abs_signed (is_below_zero n) m)

made_good : (n : ℤ) (m : ℕ) (e : ℤ) → m < 10 ^ 34 → m % 10 ≢ 0 → negsuc 399 ≤ℤ e → e ≤ℤ pos 400 → IsDecimal (made n m e)
made_good n m e few last low high = record {
  short = subst (λ k. k < 10 ^ 34) (sym (abs_signed (is_below_zero n) m)) few;
  least = low;
  most = high;
  reduced = λ h. absurd (last (ap (λ k. k % 10) (sym (abs_signed (is_below_zero n) m)) ∙ h));
}

-- what a whole number that is kept as a decimal is
pub record IsKept (n : ℤ) (d : DecimalNumber) : Type 0 where
  pub good : IsDecimal d
  pub text : whole_text n ≡ decimal_text d
  pub back : in_128_bits n ≡ Some n → whole_of d ≡ Some n

zero_back : whole_of zero_number ≡ Some (pos 0)
unfolding whole_of
zero_back = refl

zero_kept : IsKept (pos 0) zero_number
zero_kept = record { good = IsDecimal-zero; text = sym (append-nil (decimal 0)); back = λ _. zero_back }

made_back : (n : ℤ) (m z : ℕ) → unsigned_abs n ≡ m * 10 ^ z → z ≤ 38 → in_128_bits n ≡ Some n → whole_of (made n m (pos z)) ≡ Some n
unfolding whole_of
made_back n m z whole few fits =
    ap (times_power (signed (is_below_zero n) m)) (small_power (pos z) z refl few)
    ∙ ap in_128_bits (signed_times (is_below_zero n) m (10 ^ z) ∙ ap (signed (is_below_zero n)) (sym whole) ∙ signed_back n) ∙ fits

magnitude_some : (n : ℕ) → 0 < n → magnitude_text n ≡ whole_scaled (38 ∷ 37 ∷ 36 ∷ 35 ∷ []) n
magnitude_some n h = ap (λ b. if b then decimal n else whole_scaled (38 ∷ 37 ∷ 36 ∷ 35 ∷ []) n) (not_zero n h)

made_kept : (n : ℤ) (m z : ℕ) → unsigned_abs n ≡ m * 10 ^ z → m % 10 ≢ 0 → m < 10 ^ 34 → z < 39 → unsigned_abs n < 10 ^ 64 → 0 < unsigned_abs n → IsKept n (made n m (pos z))
made_kept n m z whole last few tens low some =
    let digits : 0 < m = some_digits m last in
    record {
      good = made_good n m (pos z) few last (omega (arith, ints)) (omega (arith, ints, tens));
      text = ap (λ t. sign_text n ++ t) (magnitude_some (unsigned_abs n) some ∙ ap (whole_scaled (38 ∷ 37 ∷ 36 ∷ 35 ∷ [])) whole ∙ scaled_all z m tens last digits (subst (λ k. k < 10 ^ 64) whole low))
          ∙ sym (made_text n m (pos z) digits);
      back = made_back n m z whole (omega (arith, tens));
    }

fits_abs : (n : ℤ) → in_128_bits n ≡ Some n → unsigned_abs n < 10 ^ 39
fits_abs (pos n) h = test (nat_lt n (2 ^ 127)) refl h
  where
    test : (b : Bool) → nat_lt n (2 ^ 127) ≡ b → (if b then Some (pos n) else None) ≡ Some (pos n) → n < 10 ^ 39
    test true e g = (let l : n < 2 ^ 127 = grind (arith, nat_tests) in omega (arith, l))
    test false e g = absurd cc
fits_abs (negsuc n) h = test (nat_lt n (2 ^ 127)) refl h
  where
    test : (b : Bool) → nat_lt n (2 ^ 127) ≡ b → (if b then Some (negsuc n) else None) ≡ Some (negsuc n) → suc n < 10 ^ 39
    test true e g = (let l : n < 2 ^ 127 = grind (arith, nat_tests) in omega (arith, l))
    test false e g = absurd cc

short_is : (b : Bool) (m z : ℕ) (d : DecimalNumber) → if_short b (Some (m, z)) ≡ Some d → (m < 10 ^ 34) × (record { digits = signed b m; exp = pos z } ≡ d)
short_is b m z d h = test (nat_lt m (10 ^ 34)) refl h
  where
    test : (t : Bool) → nat_lt m (10 ^ 34) ≡ t → (if t then Some (record { digits = signed b m; exp = pos z }) else None) ≡ Some d → (m < 10 ^ 34) × (record { digits = signed b m; exp = pos z } ≡ d)
    test true e g = (grind (arith, nat_tests), cc g)
    test false e g = absurd cc

-- a whole number that has a decimal is printed as it, and is it
pub whole_kept : (n : ℤ) (d : DecimalNumber) → in_128_bits n ≡ Some n → decimal_of_whole n ≡ Some d → IsKept n d
unfolding decimal_of_whole tens_out
whole_kept n d fits h = cases (unsigned_abs n == 0) refl
  where
    cases : (b : Bool) → (unsigned_abs n == 0) ≡ b → IsKept n d
    cases true e =
        let none : n ≡ pos 0 = abs_zero n (eqb-true (unsigned_abs n) 0 e) in
        let same : Some zero_number ≡ Some d = sym (ap (λ b. if b then Some zero_number else if_short (is_below_zero n) (tens_out (unsigned_abs n))) e) ∙ h in
        let is : zero_number ≡ d = cc same in
        subst (λ x. IsKept n x) is (subst (λ x. IsKept x zero_number) (sym none) zero_kept)
    cases false e =
        let some : 0 < unsigned_abs n = grind (arith, nat_tests) in
        let low = fits_abs n fits in
        let p = strip 39 (unsigned_abs n) 0 some low in
        let made_is : if_short (is_below_zero n) (Some (p.digits, 0 + p.zeros)) ≡ Some d =
        ap (if_short (is_below_zero n)) (sym p.is) ∙ sym (ap (λ b. if b then Some zero_number else if_short (is_below_zero n) (tens_out (unsigned_abs n))) e) ∙ h in
        let q = short_is (is_below_zero n) p.digits (0 + p.zeros) d made_is in
        let zeros : 0 + p.zeros ≡ p.zeros = omega arith in
        subst (λ x. IsKept n x) (ap (λ k. made n p.digits (pos k)) (sym zeros) ∙ q.1) (made_kept n p.digits p.zeros p.whole p.last q.0 p.few (omega (arith, low)) some)

-- a decimal that is a whole number within 128 bits is the one of that number
whole_parts : (d : DecimalNumber) (n : ℤ) → whole_of d ≡ Some n → (z : ℕ) × (d.exp ≡ pos z) × (z ≤ 38) × (in_128_bits (d.digits *ℤ pos (10 ^ z)) ≡ Some n)
unfolding whole_of
whole_parts d n h = by_exponent d.exp refl h
  where
    by_exponent : (e : ℤ) → d.exp ≡ e → times_power d.digits (power_of e) ≡ Some n → (z : ℕ) × (d.exp ≡ pos z) × (z ≤ 38) × (in_128_bits (d.digits *ℤ pos (10 ^ z)) ≡ Some n)
    by_exponent (pos z) is g = test (nat_le z 38) refl g
      where
        test : (b : Bool) → nat_le z 38 ≡ b → times_power d.digits (if b then Some (pos (10 ^ z)) else None) ≡ Some n
            → (z : ℕ) × (d.exp ≡ pos z) × (z ≤ 38) × (in_128_bits (d.digits *ℤ pos (10 ^ z)) ≡ Some n)
        test true e f = (z, is, grind (arith, nat_tests), f)
        test false e f = absurd cc
    by_exponent (negsuc z) is g = absurd cc

fits_same : (x n : ℤ) → in_128_bits x ≡ Some n → (x ≡ n) × (in_128_bits n ≡ Some n)
fits_same (pos k) n h = test (nat_lt k (2 ^ 127)) refl h
  where
    test : (b : Bool) → nat_lt k (2 ^ 127) ≡ b → (if b then Some (pos k) else None) ≡ Some n → (pos k ≡ n) × (in_128_bits n ≡ Some n)
    test true e g = (let same : pos k ≡ n = cc g in (same, subst (λ x. in_128_bits x ≡ Some x) same (ap (λ b. if b then Some (pos k) else None) e)))
    test false e g = absurd cc
fits_same (negsuc k) n h = test (nat_lt k (2 ^ 127)) refl h
  where
    test : (b : Bool) → nat_lt k (2 ^ 127) ≡ b → (if b then Some (negsuc k) else None) ≡ Some n → (negsuc k ≡ n) × (in_128_bits n ≡ Some n)
    test true e g = (let same : negsuc k ≡ n = cc g in (same, subst (λ x. in_128_bits x ≡ Some x) same (ap (λ b. if b then Some (negsuc k) else None) e)))
    test false e g = absurd cc

one_unit : (d : DecimalNumber) (n : ℤ) (z : ℕ) → d.exp ≡ pos z → d.digits *ℤ pos (10 ^ z) ≡ n → SameNumber n (pos 0) d.digits d.exp
one_unit d n z e is =
    let up = excess_above d.exp (pos 0) z (e ∙ (let t : pos z ≡ pos 0 +ℤ pos z = omega (arith, ints) in t)) in
    let none = excess_below (pos 0) d.exp z (e ∙ (let t : pos z ≡ pos 0 +ℤ pos z = omega (arith, ints) in t)) in
    ap (λ k. n *ℤ pos (10 ^ k)) none ∙ times_one n ∙ sym is ∙ ap (λ k. d.digits *ℤ pos (10 ^ k)) (sym up)
  where
    times_one : (x : ℤ) → x *ℤ pos 1 ≡ x
    times_one (pos k) = omega (arith, ints)
    times_one (negsuc k) = omega (arith, ints)

-- few digits and their tens are kept
kept_short : (b : Bool) (m z : ℕ) (d : DecimalNumber) → m < 10 ^ 34 → d.digits ≡ signed b m → d.exp ≡ pos 0 +ℤ pos z → if_short b (Some (m, 0 + z)) ≡ Some d
kept_short b m z d few e f =
    let test : nat_lt m (10 ^ 34) ≡ true = grind (arith, nat_tests) in
    let made : DecimalNumber = record { digits = signed b m; exp = pos (0 + z) } in
    ap (λ t. if t then Some made else None) test ∙ ap Some (same_parts made d (sym e) ((let t : pos (0 + z) ≡ pos 0 +ℤ pos z = omega (arith, ints) in t) ∙ sym f))

pub whole_decimal : (d : DecimalNumber) (n : ℤ) → IsDecimal d → whole_of d ≡ Some n → (in_128_bits n ≡ Some n) × (decimal_of_whole n ≡ Some d)
unfolding decimal_of_whole tens_out
whole_decimal d n good h = (fits.1, cases (unsigned_abs n == 0) refl)
  where
    parts : (z : ℕ) × (d.exp ≡ pos z) × (z ≤ 38) × (in_128_bits (d.digits *ℤ pos (10 ^ z)) ≡ Some n)
    parts = whole_parts d n h

    fits : (d.digits *ℤ pos (10 ^ parts.0) ≡ n) × (in_128_bits n ≡ Some n)
    fits = fits_same (d.digits *ℤ pos (10 ^ parts.0)) n parts.3

    same : SameNumber (signed (is_below_zero n) (unsigned_abs n)) (pos 0) d.digits d.exp
    same = subst (λ x. SameNumber x (pos 0) d.digits d.exp) (sym (signed_back n)) (one_unit d n parts.0 parts.1 fits.0)

    zero_parts : (k : ℕ) → k ≡ 0 → SameNumber (signed (is_below_zero n) k) (pos 0) d.digits d.exp → zero_number ≡ d
    zero_parts k e s = only_zero (is_below_zero n) (pos 0) d good (subst (λ j. SameNumber (signed (is_below_zero n) j) (pos 0) d.digits d.exp) e s)

    cases : (b : Bool) → (unsigned_abs n == 0) ≡ b → (if b then Some zero_number else if_short (is_below_zero n) (tens_out (unsigned_abs n))) ≡ Some d
    cases true e = ap Some (zero_parts (unsigned_abs n) (eqb-true (unsigned_abs n) 0 e) same)
    cases false e =
        let some : 0 < unsigned_abs n = grind (arith, nat_tests) in
        let p = strip 39 (unsigned_abs n) 0 some (fits_abs n fits.1) in
        let form : IsForm (unsigned_abs n) p.digits p.zeros = record { whole = p.whole; last = p.last } in
        let is = only_form (is_below_zero n) (unsigned_abs n) p.digits p.zeros (pos 0) d form good same in
        let few : p.digits < 10 ^ 34 = subst (λ k. k < 10 ^ 34) (ap unsigned_abs is.0 ∙ abs_signed (is_below_zero n) p.digits) good.short in
        ap (if_short (is_below_zero n)) p.is ∙ kept_short (is_below_zero n) p.digits p.zeros d few is.0 is.1

-- what a time that is kept as a decimal is
pub record IsTimed (t : ℤ) (d : DecimalNumber) : Type 0 where
  pub good : IsDecimal d
  pub text : time_text t ≡ decimal_text d
  pub back : time_of d ≡ Some t

turn : (a : ℤ) (x : ℤ) (b : ℤ) (y : ℤ) → SameNumber a x b y → SameNumber b y a x
turn a x b y h = sym h

timed : (t : ℤ) (m z : ℕ) (e : ℤ) → unsigned_abs t ≡ m * 10 ^ z → m % 10 ≢ 0 → IsTime t → z < 31 → e ≡ negsuc 17 +ℤ pos z → point_text 18 (unsigned_abs t) ≡ scaled_text m e → IsTimed t (made t m e)
timed t m z e whole last within few exp text =
    let digits : 0 < m = some_digits m last in
    let most : m ≤ m * 10 ^ z = at_least m (10 ^ z) (ten_some z) in
    let good : IsDecimal (made t m e) = made_good t m e (omega (arith, within, whole, most)) last (omega (arith, ints, exp)) (omega (arith, ints, exp, few)) in
    let moved : SameNumber (signed (is_below_zero t) (unsigned_abs t)) (negsuc 17) (signed (is_below_zero t) m) e =
    subst (λ x. SameNumber (signed (is_below_zero t) (unsigned_abs t)) (negsuc 17) (signed (is_below_zero t) m) x) (sym exp) (moved_zeros (is_below_zero t) (unsigned_abs t) m z (negsuc 17) whole) in
    let same : IsTimeOf (made t m e) t = sym (subst (λ x. SameNumber x (negsuc 17) (signed (is_below_zero t) m) e) (signed_back t) moved) in
    record {
      good = good;
      text = ap (λ x. sign_text t ++ x) text ∙ sym (made_text t m e digits);
      back = time_found (made t m e) t good within same;
    }
  where
    at_least : (m t : ℕ) → 0 < t → m ≤ m * t
    at_least m t h = grind arith

zero_timed : IsTimed (pos 0) zero_number
zero_timed = record { good = IsDecimal-zero; text = refl; back = time_found zero_number (pos 0) IsDecimal-zero (omega arith) refl }

-- each time is printed as the decimal that it is
pub time_kept : (t : ℤ) → IsTime t → (d : DecimalNumber) × IsTimed t d
time_kept t within = cases (unsigned_abs t == 0) refl
  where
    cases : (b : Bool) → (unsigned_abs t == 0) ≡ b → (d : DecimalNumber) × IsTimed t d
    cases true e = (zero_number, subst (λ x. IsTimed x zero_number) (sym (abs_zero t (eqb-true (unsigned_abs t) 0 e))) zero_timed)
    cases false e =
        let some : 0 < unsigned_abs t = grind (arith, nat_tests) in
        let p = strip 31 (unsigned_abs t) 0 some (omega (arith, within)) in
        elim (cases_lt p.zeros 18) [
          | inl h ↦ small p.digits p.zeros p.whole p.last p.few h
          | inr h ↦ large p.digits p.zeros p.whole p.last p.few h
        ]
      where
        small : (m z : ℕ) → unsigned_abs t ≡ m * 10 ^ z → m % 10 ≢ 0 → z < 31 → z < 18 → (d : DecimalNumber) × IsTimed t d
        small m z whole last few h =
            let k : ℕ = 17 - z in
            let test : nat_lt k 34 ≡ true = grind (arith, nat_tests) in (
              made t m (negsuc k),
              timed t m z (negsuc k) whole last within few (omega (arith, ints, h))
                  (ap (point_text 18) whole ∙ ap (λ n. point_text n (m * 10 ^ z)) (let s : 18 ≡ suc k + z = omega (arith, h) in s) ∙ point_zeros (suc k) z m
                  ∙ ap (λ b. if b then point_text (suc k) m else decimal m ++ (101 ∷ 45 ∷ []) ++ decimal (suc k)) (sym test)),
            )

        large : (m z : ℕ) → unsigned_abs t ≡ m * 10 ^ z → m % 10 ≢ 0 → z < 31 → 18 ≤ z → (d : DecimalNumber) × IsTimed t d
        large m z whole last few h =
            let j : ℕ = z - 18 in
            let split : m * 10 ^ z ≡ m * 10 ^ j * 10 ^ 18 =
            ap (λ k. m * 10 ^ k) (let s : z ≡ j + 18 = omega (arith, h) in s) ∙ ap (λ k. m * k) (pow-add 10 j 18) ∙ sym (mul_assoc m (10 ^ j) (10 ^ 18)) in
            let test : nat_le j 34 ≡ true = grind (arith, nat_tests) in (
              made t m (pos j),
              timed t m z (pos j) whole last within few (omega (arith, ints, h))
                  (ap (point_text 18) (whole ∙ split) ∙ point_whole 18 (m * 10 ^ j) ∙ decimal_zeros m j (some_digits m last) (omega (arith, within, whole, split))
                  ∙ ap (λ b. decimal m ++ (if b then replicate j 48 else 101 ∷ decimal j)) (sym test)),
            )
