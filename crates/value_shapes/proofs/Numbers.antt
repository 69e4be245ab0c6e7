-- A whole number and its decimal are one number, and so are a decimal and its time.
use Rattle.std.proofs.Common.{◌≡◌, ◌∙◌, ℕ, zero, suc, ◌+◌, ◌*◌, ◌/◌, ◌%◌, ◌^◌, ◌==◌, nat_lt, nat_le, Bool, true, false, Option, Some, None, ap, sym, refl, subst, arith, eqb-true}
use Rattle.std.specs.Prelude.{if◌then◌else◌, ℤ, pos, negsuc, ◌+ℤ◌, ◌*ℤ◌, ◌≤ℤ◌, int_le, unsigned_abs}
use Rattle.std.proofs.lemmas.Int.{ints}
use Rattle.std.proofs.Math.Nat.{mul_assoc}
use Rattle.std.proofs.Math.Pow.{pow-add}
use Rattle.sdf_values.specs.Numbers.{DecimalNumber, SameNumber, natural, zero_number}
use Rattle.sdf_values.specs.NumberTexts.{signed}
use Rattle.sdf_values.specs.Scales.{IsTimeOf}
use Rattle.sdf_values.proofs.Powers.{ten_next, signed_times, excess_above, excess_below}
use Rattle.sdf_values.proofs.Times.{is_time}
use Rattle.usda_values.specs.Scalars.{stripped, tens_out, if_short, is_below_zero, decimal_of_whole, if_time, time_of}
use Rattle.usda_values.proofs.TimeLaw.{above}
use Rattle.usda_values.proofs.Wholes.{abs_zero, signed_back}

pub times_one : (z : ℤ) → z *ℤ pos 1 ≡ z
times_one (pos n) = omega (arith, ints)
times_one (negsuc n) = omega (arith, ints)

moved_ten : (q u : ℕ) → q * 10 * u ≡ q * (u * 10)
moved_ten q u = grind arith

-- a number and what is left of it where tens are taken out are one
stripped_same : (fuel n tens : ℕ) (s : ℕ × ℕ) → stripped fuel n tens ≡ Some s → n * 10 ^ tens ≡ s.0 * 10 ^ s.1
stripped_same zero n tens s h = absurd cc
stripped_same (suc fuel) n tens s h = cases (n % 10 == 0) refl (λ k. stripped_same fuel (n / 10) (tens + 1) s k)
  where
    cases : (b : Bool) → (n % 10 == 0) ≡ b → (stripped fuel (n / 10) (tens + 1) ≡ Some s → n / 10 * 10 ^ (tens + 1) ≡ s.0 * 10 ^ s.1) → n * 10 ^ tens ≡ s.0 * 10 ^ s.1
    cases true e below =
        let none : n % 10 ≡ 0 = eqb-true (n % 10) 0 e in
        let tenfold : n ≡ n / 10 * 10 = omega (arith, none) in
        ap (λ k. k * 10 ^ tens) tenfold ∙ moved_ten (n / 10) (10 ^ tens) ∙ ap (λ k. n / 10 * k) (sym (ten_next tens))
        ∙ below (sym (ap (λ b. elim b as (λ _. Option (ℕ × ℕ)) [ true ↦ stripped fuel (n / 10) (tens + 1) | false ↦ Some (n, tens) ]) e) ∙ h)
    cases false e below =
        let same : Some (n, tens) ≡ Some s = sym (ap (λ b. elim b as (λ _. Option (ℕ × ℕ)) [ true ↦ stripped fuel (n / 10) (tens + 1) | false ↦ Some (n, tens) ]) e) ∙ h in
        let pair : (n, tens) ≡ s = cc same in
        ap (λ (x : ℕ × ℕ). x.0 * 10 ^ x.1) pair

-- a whole number as the digits of a decimal with its tens
pub record IsWhole (n : ℤ) (d : DecimalNumber) : Type 0 where
  pub negative : Bool
  pub size : ℕ
  pub tens : ℕ
  pub whole : n ≡ signed negative (size * 10 ^ tens)
  pub digits : d.digits ≡ signed negative size
  pub exp : d.exp ≡ pos tens

made_whole : (n : ℤ) (s : ℕ × ℕ) (d : DecimalNumber) → unsigned_abs n ≡ s.0 * 10 ^ s.1 → if_short (is_below_zero n) (Some s) ≡ Some d → IsWhole n d
made_whole n s d size h = test (nat_lt s.0 (10 ^ 34)) refl
  where
    made : DecimalNumber
    made = record { digits = signed (is_below_zero n) s.0; exp = pos s.1 }

    test : (t : Bool) → nat_lt s.0 (10 ^ 34) ≡ t → IsWhole n d
    test true e =
        let same : Some made ≡ Some d = sym (ap (λ t. if t then Some made else None) e) ∙ h in
        let is : made ≡ d = cc same in
        record {
          negative = is_below_zero n;
          size = s.0;
          tens = s.1;
          whole = sym (signed_back n) ∙ ap (signed (is_below_zero n)) size;
          digits = sym (ap (λ (x : DecimalNumber). x.digits) is);
          exp = sym (ap (λ (x : DecimalNumber). x.exp) is);
        }
    test false e = absurd (let same : None ≡ Some d = sym (ap (λ t. if t then Some made else None) e) ∙ h in cc)

stripped_whole : (n : ℤ) (o : Option (ℕ × ℕ)) (d : DecimalNumber) → tens_out (unsigned_abs n) ≡ o → if_short (is_below_zero n) o ≡ Some d → IsWhole n d
unfolding tens_out
stripped_whole n None d e h = absurd cc
stripped_whole n (Some s) d e h =
    let size : unsigned_abs n * 10 ^ 0 ≡ s.0 * 10 ^ s.1 = stripped_same 39 (unsigned_abs n) 0 s e in
    made_whole n s d ((let t : unsigned_abs n ≡ unsigned_abs n * 10 ^ 0 = omega arith in t) ∙ size) h

-- the decimal that is computed of a whole number
pub whole_parts : (n : ℤ) (d : DecimalNumber) → decimal_of_whole n ≡ Some d → IsWhole n d
unfolding decimal_of_whole
whole_parts n d h = cases (unsigned_abs n == 0) refl
  where
    cases : (b : Bool) → (unsigned_abs n == 0) ≡ b → IsWhole n d
    cases true e =
        let none : n ≡ pos 0 = abs_zero n (eqb-true (unsigned_abs n) 0 e) in
        let same : Some zero_number ≡ Some d = sym (ap (λ b. if b then Some zero_number else if_short (is_below_zero n) (tens_out (unsigned_abs n))) e) ∙ h in
        let is : zero_number ≡ d = cc same in
        record {
          negative = false;
          size = 0;
          tens = 0;
          whole = none;
          digits = sym (ap (λ (x : DecimalNumber). x.digits) is);
          exp = sym (ap (λ (x : DecimalNumber). x.exp) is);
        }
    cases false e =
        stripped_whole n (tens_out (unsigned_abs n)) d refl (sym (ap (λ b. if b then Some zero_number else if_short (is_below_zero n) (tens_out (unsigned_abs n))) e) ∙ h)

from_zero : (e : ℤ) (z : ℕ) → e ≡ pos z → e ≡ pos 0 +ℤ pos z
from_zero e z h = omega (arith, ints, h)

pub whole_same : (n : ℤ) (d : DecimalNumber) → IsWhole n d → SameNumber n (pos 0) d.digits d.exp
whole_same n d is =
    let far = from_zero d.exp is.tens is.exp in
    ap (λ k. n *ℤ pos (10 ^ k)) (excess_below (pos 0) d.exp is.tens far) ∙ times_one n ∙ is.whole
    ∙ sym (signed_times is.negative is.size (10 ^ is.tens)) ∙ ap (λ x. x *ℤ pos (10 ^ is.tens)) (sym is.digits)
    ∙ ap (λ k. d.digits *ℤ pos (10 ^ k)) (sym (excess_above d.exp (pos 0) is.tens far))

abbrev pub places : DecimalNumber → ℕ
places d = natural (d.exp +ℤ pos 18)

-- the time that is computed of a decimal
time_parts : (d : DecimalNumber) (t : ℤ) → time_of d ≡ Some t → (negsuc 17 ≤ℤ d.exp) × (d.digits *ℤ pos (10 ^ places d) ≡ t)
unfolding time_of
time_parts d t h = cases (int_le (negsuc 17) d.exp) refl h
  where
    units : ℤ
    units = d.digits *ℤ pos (10 ^ places d)

    within : (b : Bool) → (if b then Some units else None) ≡ Some t → units ≡ t
    within true g = cc g
    within false g = absurd cc

    cases : (b : Bool) → int_le (negsuc 17) d.exp ≡ b → (if b then if_time units else None) ≡ Some t → (negsuc 17 ≤ℤ d.exp) × (units ≡ t)
    cases true e g = (omega (arith, ints, e), within (nat_le (unsigned_abs units) (10 ^ 30)) g)
    cases false e g = absurd cc

pub time_same : (d : DecimalNumber) (t : ℤ) → time_of d ≡ Some t → IsTimeOf d t
time_same d t h =
    let p = time_parts d t h in
    subst (λ x. IsTimeOf d x) p.1 (is_time d (places d) (above d.exp p.0))

pub tens_joined : (b : Bool) (m z : ℕ) → signed b (m * 10 ^ z) *ℤ pos (10 ^ 18) ≡ signed b m *ℤ pos (10 ^ (z + 18))
tens_joined b m z =
    signed_times b (m * 10 ^ z) (10 ^ 18) ∙ ap (signed b) (mul_assoc m (10 ^ z) (10 ^ 18) ∙ ap (λ k. m * k) (sym (pow-add 10 z 18))) ∙ sym (signed_times b m (10 ^ (z + 18)))

pub places_of : (d : DecimalNumber) (z : ℕ) → d.exp ≡ pos z → places d ≡ z + 18
places_of d z e = ap (λ x. natural (x +ℤ pos 18)) e

-- a whole number and the time of its decimal
pub whole_time_same : (n : ℤ) (d : DecimalNumber) (t : ℤ) → IsWhole n d → time_of d ≡ Some t → SameNumber n (pos 0) t (negsuc 17)
whole_time_same n d t is h =
    let p = time_parts d t h in
    ap (λ x. x *ℤ pos (10 ^ 18)) is.whole ∙ tens_joined is.negative is.size is.tens
    ∙ ap (λ x. x *ℤ pos (10 ^ (is.tens + 18))) (sym is.digits) ∙ ap (λ k. d.digits *ℤ pos (10 ^ k)) (sym (places_of d is.tens is.exp)) ∙ p.1 ∙ sym (times_one t)
