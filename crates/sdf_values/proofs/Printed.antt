-- A decimal's printed text is a number's text, and the number is the decimal.
use Rattle.std.proofs.Common.{ℕ, zero, suc, ◌≡◌, ◌≢◌, ◌+◌, ◌-◌, ◌*◌, ◌/◌, ◌%◌, ◌^◌, ◌<◌, ◌≤◌, ◌∙◌, sym, ap, refl, subst, arith, inl, inr, Bool, true, false, List, [], ◌∷◌, ◌++◌, length, append_assoc, append-nil}
use Rattle.std.specs.Prelude.{ℤ, pos, negsuc, ◌+ℤ◌, ◌-ℤ◌, nat_lt, codes, ◌==◌, nat_le, ◌&&◌, replicate, unsigned_abs, fold, if◌then◌else◌}
use Rattle.std.specs.Fmt.{decimal}
use Rattle.std.proofs.lemmas.Bool.Decides.{nat_tests}
use Rattle.std.proofs.lemmas.Fmt.{decimal_is_IsNumeral_wide}
use Rattle.std.proofs.lemmas.Str.Parse.{IsNumeralModel, IsDigitsTest, FoldsDigits, numerals_by_fold}
use Rattle.std.specs.Int.{IsInRange}
use Rattle.std.proofs.lemmas.Int.{ints}
use Rattle.std.proofs.lemmas.Nat.{div-add-mod'}
use Rattle.std.proofs.lemmas.Bool.{and_parts, cases_lt}
use Rattle.std.proofs.lemmas.Grind.{fold-append}
use Rattle.sdf_values.specs.Numbers.{DecimalNumber, IsDecimal, SameNumber}
use Rattle.sdf_values.specs.NumberTexts.{is_digit, is_sign, is_mark, is_digits, is_some_digits, ends_whole, ends_fraction, starts_fraction, is_unsigned, is_exponent, is_number, add_digit, digits_number, before_mark, after_mark, after_point, is_negative, signed, written_digits, written_exponent, Writes}
use Rattle.sdf_values.specs.Print.{sign_text, fraction_digits, scaled_text, decimal_text}
use Rattle.sdf_values.proofs.Powers.{moved_zeros, ten_suc, ten_some}
use Rattle.sdf_values.proofs.Fractions.{no_fraction, next_digit, not_zero, rest_below}
use Rattle.std.proofs.Math.Nat.{mod-mod_of_dvd, mul-mod_left, div-lt_iff_lt-mul, div-le_self}
use Rattle.std.proofs.lemmas.Nat.Gcd.{dvd_of_mod-eq-zero}

-- a digit is no sign, no mark and no point
digit_no_sign : (c : ℕ) → is_digit c ≡ true → is_sign c ≡ false
digit_no_sign c h = grind (arith, nat_tests)

digit_no_mark : (c : ℕ) → is_digit c ≡ true → is_mark c ≡ false
digit_no_mark c h = grind (arith, nat_tests)

digit_no_point : (c : ℕ) → is_digit c ≡ true → (c == 46) ≡ false
digit_no_point c h = grind (arith, nat_tests)

digit_no_minus : (c : ℕ) → is_digit c ≡ true → (c == 45) ≡ false
digit_no_minus c h = grind (arith, nat_tests)

in_range : (c : ℕ) → is_digit c ≡ true → IsInRange 48 57 c
in_range c h = grind (arith, nat_tests)

from_range : (c : ℕ) → IsInRange 48 57 c → is_digit c ≡ true
from_range c h = grind (arith, nat_tests, h.0, h.1)

digits_test : IsDigitsTest (λ ds. is_digits ds ≡ true)
digits_test = record {
  empty = refl;
  parts = λ c cs h. (in_range c (and_parts _ _ h).0, (and_parts _ _ h).1);
  more = λ c cs h k. ap (λ b. b && is_digits cs) (from_range c h) ∙ k;
}

folds : FoldsDigits (λ n ds. fold add_digit n ds)
folds = record {
  empty = λ n. refl;
  more = λ n c cs h. ap (λ b. fold add_digit (if b then n * 10 + (c - 48) else n) cs) (from_range c h);
}

model : IsNumeralModel (λ ds. is_digits ds ≡ true) (λ ds. fold add_digit 0 ds)
model = numerals_by_fold (λ ds. is_digits ds ≡ true) digits_test (λ n ds. fold add_digit n ds) folds

-- one digit at least, whose number is n
record Spells (ds : List ℕ) (n : ℕ) : Type 0 where
  some : 0 < length ds
  digits : is_digits ds ≡ true
  number : digits_number ds ≡ n

decimal_spells : (n : ℕ) → n < 10 ^ 64 → Spells (decimal n) n
decimal_spells n h =
    let is = decimal_is_IsNumeral_wide n h in
    record { some = is.0.0; digits = model.from (decimal n) is.0.1; number = model.same (decimal n) is.0.1 ∙ is.1 }

-- what digits do before the rest of a text
past_whole : (ds rest : List ℕ) → is_digits ds ≡ true → ends_whole (ds ++ rest) ≡ ends_whole rest
past_whole [] rest h = refl
past_whole (c ∷ ds) rest h =
    let parts = and_parts (is_digit c) (is_digits ds) h in
    subst (λ (b : Bool). elim b as (λ _. Bool) [ true ↦ ends_whole (ds ++ rest) | false ↦ elim (c == 46) as (λ _. Bool) [ true ↦ ends_fraction (ds ++ rest) | false ↦ is_mark c && is_exponent (ds ++ rest) ] ] ≡ ends_whole rest) (sym parts.0) (past_whole ds rest parts.1)

past_fraction : (ds : List ℕ) → is_digits ds ≡ true → ends_fraction ds ≡ true
past_fraction [] h = refl
past_fraction (c ∷ ds) h =
    let parts = and_parts (is_digit c) (is_digits ds) h in
    subst (λ (b : Bool). elim b as (λ _. Bool) [ true ↦ ends_fraction ds | false ↦ is_mark c && is_exponent ds ] ≡ true) (sym parts.0) (past_fraction ds parts.1)

-- digits as the whole part of a number
unsigned_past : (ds rest : List ℕ) → 0 < length ds → is_digits ds ≡ true → is_unsigned (ds ++ rest) ≡ ends_whole rest
unsigned_past [] rest h k = absurd (omega (arith, h))
unsigned_past (c ∷ ds) rest h k =
    let parts = and_parts (is_digit c) (is_digits ds) k in
    subst (λ (b : Bool). elim b as (λ _. Bool) [ true ↦ ends_whole (ds ++ rest) | false ↦ (c == 46) && starts_fraction (ds ++ rest) ] ≡ ends_whole rest) (sym parts.0) (past_whole ds rest parts.1)

no_sign : (ds rest : List ℕ) → 0 < length ds → is_digits ds ≡ true → is_number (ds ++ rest) ≡ is_unsigned (ds ++ rest)
no_sign [] rest h k = absurd (omega (arith, h))
no_sign (c ∷ ds) rest h k =
    let parts = and_parts (is_digit c) (is_digits ds) k in
    subst (λ (b : Bool). elim b as (λ _. Bool) [ true ↦ is_unsigned (ds ++ rest) | false ↦ is_unsigned (c ∷ ds ++ rest) ] ≡ is_unsigned (c ∷ ds ++ rest)) (sym (digit_no_sign c parts.0)) refl

-- a sign or none, digits, and the rest
number_past : (z : ℤ) (ds rest : List ℕ) → 0 < length ds → is_digits ds ≡ true → is_number (sign_text z ++ ds ++ rest) ≡ ends_whole rest
number_past (pos n) ds rest h k = no_sign ds rest h k ∙ unsigned_past ds rest h k
number_past (negsuc n) ds rest h k = unsigned_past ds rest h k

exponent_past : (ds : List ℕ) → 0 < length ds → is_digits ds ≡ true → is_exponent ds ≡ true
exponent_past [] h k = absurd (omega (arith, h))
exponent_past (c ∷ ds) h k =
    let parts = and_parts (is_digit c) (is_digits ds) k in
    subst (λ (b : Bool). elim b as (λ _. Bool) [ true ↦ is_some_digits ds | false ↦ is_digit c && is_digits ds ] ≡ true) (sym (digit_no_sign c parts.0)) k

some_digits : (ds : List ℕ) → 0 < length ds → is_digits ds ≡ true → is_some_digits ds ≡ true
some_digits [] h k = absurd (omega (arith, h))
some_digits (c ∷ ds) h k = k

before_digits : (ds rest : List ℕ) → is_digits ds ≡ true → before_mark (ds ++ rest) ≡ ds ++ before_mark rest
before_digits [] rest h = refl
before_digits (c ∷ ds) rest h =
    let parts = and_parts (is_digit c) (is_digits ds) h in
    subst (λ (b : Bool). elim b as (λ _. List ℕ) [ true ↦ [] | false ↦ c ∷ before_mark (ds ++ rest) ] ≡ c ∷ ds ++ before_mark rest) (sym (digit_no_mark c parts.0)) (ap (λ l. c ∷ l) (before_digits ds rest parts.1))

after_digits : (ds rest : List ℕ) → is_digits ds ≡ true → after_mark (ds ++ rest) ≡ after_mark rest
after_digits [] rest h = refl
after_digits (c ∷ ds) rest h =
    let parts = and_parts (is_digit c) (is_digits ds) h in
    subst (λ (b : Bool). elim b as (λ _. List ℕ) [ true ↦ ds ++ rest | false ↦ after_mark (ds ++ rest) ] ≡ after_mark rest) (sym (digit_no_mark c parts.0)) (after_digits ds rest parts.1)

point_digits : (ds rest : List ℕ) → is_digits ds ≡ true → after_point (ds ++ rest) ≡ after_point rest
point_digits [] rest h = refl
point_digits (c ∷ ds) rest h =
    let parts = and_parts (is_digit c) (is_digits ds) h in
    subst (λ (b : Bool). elim b as (λ _. List ℕ) [ true ↦ ds ++ rest | false ↦ after_point (ds ++ rest) ] ≡ after_point rest) (sym (digit_no_point c parts.0)) (point_digits ds rest parts.1)

-- the sign of a printed text
is_minus : ℤ → Bool
is_minus (pos n) = false
is_minus (negsuc n) = true

plus_digits : (ds rest : List ℕ) → 0 < length ds → is_digits ds ≡ true → is_negative (ds ++ rest) ≡ false
plus_digits [] rest h k = absurd (omega (arith, h))
plus_digits (c ∷ ds) rest h k = digit_no_minus c (and_parts (is_digit c) (is_digits ds) k).0

minus_past : (z : ℤ) (ds rest : List ℕ) → 0 < length ds → is_digits ds ≡ true → is_negative (sign_text z ++ ds ++ rest) ≡ is_minus z
unfolding is_minus
minus_past (pos n) ds rest h k = plus_digits ds rest h k
minus_past (negsuc n) ds rest h k = refl

signed_minus : (z : ℤ) → signed (is_minus z) (unsigned_abs z) ≡ z
unfolding is_minus
signed_minus (pos n) = refl
signed_minus (negsuc n) = refl

before_past : (z : ℤ) (ds rest : List ℕ) → is_digits ds ≡ true → before_mark (sign_text z ++ ds ++ rest) ≡ sign_text z ++ ds ++ before_mark rest
before_past (pos n) ds rest k = before_digits ds rest k
before_past (negsuc n) ds rest k = ap (λ l. 45 ∷ l) (before_digits ds rest k)

after_past : (z : ℤ) (ds rest : List ℕ) → is_digits ds ≡ true → after_mark (sign_text z ++ ds ++ rest) ≡ after_mark rest
after_past (pos n) ds rest k = after_digits ds rest k
after_past (negsuc n) ds rest k = after_digits ds rest k

point_past : (z : ℤ) (ds rest : List ℕ) → is_digits ds ≡ true → after_point (sign_text z ++ ds ++ rest) ≡ after_point rest
point_past (pos n) ds rest k = point_digits ds rest k
point_past (negsuc n) ds rest k = point_digits ds rest k

number_of_past : (z : ℤ) (ds rest : List ℕ) → digits_number (sign_text z ++ ds ++ rest) ≡ fold add_digit (digits_number ds) rest
number_of_past (pos n) ds rest = fold-append add_digit 0 ds rest
number_of_past (negsuc n) ds rest = fold-append add_digit 0 ds rest

-- what a text with a sign or none, digits of n, and a rest writes
record IsRest (rest back tail : List ℕ) : Type 0 where
  ends : ends_whole rest ≡ true
  before : before_mark rest ≡ tail
  after : after_mark rest ≡ back

written_past : (z : ℤ) (ds rest back tail : List ℕ) (n : ℕ) (m : ℕ) → Spells ds n → IsRest rest back tail → fold add_digit n tail ≡ m
    → written_digits (sign_text z ++ ds ++ rest) ≡ signed (is_minus z) m
written_past z ds rest back tail n m is r e =
    let number : digits_number (before_mark (sign_text z ++ ds ++ rest)) ≡ m =
    ap digits_number (before_past z ds rest is.digits) ∙ number_of_past z ds (before_mark rest)
    ∙ ap (λ k. fold add_digit k (before_mark rest)) is.number ∙ ap (λ l. fold add_digit n l) r.before ∙ e in
    ap (λ b. signed b (digits_number (before_mark (sign_text z ++ ds ++ rest)))) (minus_past z ds rest is.some is.digits) ∙ ap (λ k. signed (is_minus z) k) number

exponent_of_past : (z : ℤ) (ds rest back tail : List ℕ) (n : ℕ) → Spells ds n → IsRest rest back tail
    → written_exponent (sign_text z ++ ds ++ rest) ≡ signed (is_negative back) (digits_number back) -ℤ pos (length (after_point tail))
exponent_of_past z ds rest back tail n is r =
    let back_is : after_mark (sign_text z ++ ds ++ rest) ≡ back = after_past z ds rest is.digits ∙ r.after in
    let tail_is : after_point (before_mark (sign_text z ++ ds ++ rest)) ≡ after_point tail =
    ap after_point (before_past z ds rest is.digits ∙ ap (λ l. sign_text z ++ ds ++ l) r.before) ∙ point_past z ds tail is.digits in
    ap (λ l. signed (is_negative l) (digits_number l) -ℤ pos (length (after_point (before_mark (sign_text z ++ ds ++ rest))))) back_is
    ∙ ap (λ l. signed (is_negative back) (digits_number back) -ℤ pos (length l)) tail_is

-- a number's text and the number that it writes
writes_past : (z : ℤ) (ds rest back tail : List ℕ) (n m : ℕ) (d : DecimalNumber) → Spells ds n → IsRest rest back tail → fold add_digit n tail ≡ m
    → SameNumber (signed (is_minus z) m) (signed (is_negative back) (digits_number back) -ℤ pos (length (after_point tail))) d.digits d.exp
    → Writes (sign_text z ++ (ds ++ rest)) d
writes_past z ds rest back tail n m d is r e same =
    let text : Writes ((sign_text z ++ ds) ++ rest) d = record {
      is_text = number_past z ds rest is.some is.digits ∙ r.ends;
      same = subst (λ (x : ℤ). SameNumber x (written_exponent ((sign_text z ++ ds) ++ rest)) d.digits d.exp) (sym (written_past z ds rest back tail n m is r e))
          (subst (λ (x : ℤ). SameNumber (signed (is_minus z) m) x d.digits d.exp) (sym (exponent_of_past z ds rest back tail n is r)) same);
    } in
    subst (λ (t : List ℕ). Writes t d) (append_assoc (sign_text z) ds rest) text

plus_all : (ds : List ℕ) → 0 < length ds → is_digits ds ≡ true → is_negative ds ≡ false
plus_all ds h k = ap is_negative (sym (append-nil ds)) ∙ plus_digits ds [] h k

-- digits and zeros
zeros_digits : (e : ℕ) → is_digits (replicate e 48) ≡ true
zeros_digits zero = refl
zeros_digits (suc e) = zeros_digits e

zeros_number : (e n : ℕ) → fold add_digit n (replicate e 48) ≡ n * 10 ^ e
zeros_number zero n = omega arith
zeros_number (suc e) n =
    zeros_number e (n * 10 + 0) ∙ (let s : (n * 10 + 0) * 10 ^ e ≡ n * (10 ^ e * 10) = grind arith in s) ∙ ap (λ t. n * t) (sym (ten_suc e))

no_mark_in : (ds : List ℕ) → is_digits ds ≡ true → before_mark ds ≡ ds
no_mark_in [] h = refl
no_mark_in (c ∷ ds) h =
    let parts = and_parts (is_digit c) (is_digits ds) h in
    subst (λ (b : Bool). elim b as (λ _. List ℕ) [ true ↦ [] | false ↦ c ∷ before_mark ds ] ≡ c ∷ ds) (sym (digit_no_mark c parts.0)) (ap (λ l. c ∷ l) (no_mark_in ds parts.1))

no_mark_after : (ds : List ℕ) → is_digits ds ≡ true → after_mark ds ≡ []
no_mark_after [] h = refl
no_mark_after (c ∷ ds) h =
    let parts = and_parts (is_digit c) (is_digits ds) h in
    subst (λ (b : Bool). elim b as (λ _. List ℕ) [ true ↦ ds | false ↦ after_mark ds ] ≡ []) (sym (digit_no_mark c parts.0)) (no_mark_after ds parts.1)

no_point_after : (ds : List ℕ) → is_digits ds ≡ true → after_point ds ≡ []
no_point_after [] h = refl
no_point_after (c ∷ ds) h =
    let parts = and_parts (is_digit c) (is_digits ds) h in
    subst (λ (b : Bool). elim b as (λ _. List ℕ) [ true ↦ ds | false ↦ after_point ds ] ≡ []) (sym (digit_no_point c parts.0)) (no_point_after ds parts.1)

all_whole : (ds : List ℕ) → is_digits ds ≡ true → ends_whole ds ≡ true
all_whole ds h = ap ends_whole (sym (append-nil ds)) ∙ past_whole ds [] h

rest_zeros : (e : ℕ) → IsRest (replicate e 48) [] (replicate e 48)
rest_zeros e = record { ends = all_whole (replicate e 48) (zeros_digits e); before = no_mark_in (replicate e 48) (zeros_digits e); after = no_mark_after (replicate e 48) (zeros_digits e) }

-- plain digits of m, and e zeros
writes_zeros : (z : ℤ) (ds : List ℕ) (m e : ℕ) (d : DecimalNumber) → Spells ds m → signed (is_minus z) m ≡ d.digits → d.exp ≡ pos e → Writes (sign_text z ++ (ds ++ replicate e 48)) d
writes_zeros z ds m e d is p q =
    writes_past z ds (replicate e 48) [] (replicate e 48) m (m * 10 ^ e) d is (rest_zeros e) (zeros_number e m)
    (subst (λ (l : List ℕ). SameNumber (signed (is_minus z) (m * 10 ^ e)) (pos 0 -ℤ pos (length l)) d.digits d.exp) (sym (no_point_after (replicate e 48) (zeros_digits e)))
    (subst (λ (x : ℤ). SameNumber (signed (is_minus z) (m * 10 ^ e)) (pos 0) x d.exp) p
    (subst (λ (x : ℤ). SameNumber (signed (is_minus z) (m * 10 ^ e)) (pos 0) (signed (is_minus z) m) x) (let x : pos 0 +ℤ pos e ≡ pos e = omega (arith, ints) in x ∙ sym q) (moved_zeros (is_minus z) (m * 10 ^ e) m e (pos 0) refl))))

-- digits of m and an exponent
one_number : (x : ℤ) (a b : ℤ) → a ≡ b → SameNumber x a x b
one_number x a b e = subst (λ (y : ℤ). SameNumber x a x y) e refl

writes_exponent : (z : ℤ) (ds es : List ℕ) (m : ℕ) (d : DecimalNumber) → Spells ds m → is_exponent es ≡ true → signed (is_minus z) m ≡ d.digits
    → signed (is_negative es) (digits_number es) -ℤ pos 0 ≡ d.exp → Writes (sign_text z ++ (ds ++ 101 ∷ es)) d
writes_exponent z ds es m d is ends p q =
    writes_past z ds (101 ∷ es) es [] m m d is (record { ends = ends; before = refl; after = refl }) refl
    (subst (λ (x : ℤ). SameNumber (signed (is_minus z) m) (signed (is_negative es) (digits_number es) -ℤ pos 0) x d.exp) p
    (one_number (signed (is_minus z) m) (signed (is_negative es) (digits_number es) -ℤ pos 0) d.exp q))

-- digits of the whole part, a point and k digits behind it
writes_point : (z : ℤ) (ds fs : List ℕ) (n m k : ℕ) (d : DecimalNumber) → Spells ds n → is_digits fs ≡ true → length fs ≡ k → fold add_digit n fs ≡ m
    → signed (is_minus z) m ≡ d.digits → pos 0 -ℤ pos k ≡ d.exp → Writes (sign_text z ++ (ds ++ 46 ∷ fs)) d
writes_point z ds fs n m k d is digits count value p q =
    writes_past z ds (46 ∷ fs) [] (46 ∷ fs) n m d is
    (record { ends = past_fraction fs digits; before = ap (λ l. 46 ∷ l) (no_mark_in fs digits); after = no_mark_after fs digits }) value
    (subst (λ (j : ℕ). SameNumber (signed (is_minus z) m) (pos 0 -ℤ pos j) d.digits d.exp) (sym count)
    (subst (λ (x : ℤ). SameNumber (signed (is_minus z) m) (pos 0 -ℤ pos k) x d.exp) p (one_number (signed (is_minus z) m) (pos 0 -ℤ pos k) d.exp q)))

-- k digits behind the point, where the last is no 0
record IsFraction (k f : ℕ) (fs : List ℕ) : Type 0 where
  digits : is_digits fs ≡ true
  count : length fs ≡ k
  value : (a : ℕ) → fold add_digit a fs ≡ a * 10 ^ k + f

digit_is : (q : ℕ) → q < 10 → is_digit (48 + q) ≡ true
digit_is q h = grind (arith, nat_tests)

some_rest : (f : ℕ) → f % 10 ≢ 0 → 0 < f
some_rest zero h = absurd (h refl)
some_rest (suc f) h = omega arith

kept_last : (k f : ℕ) → 0 < k → (f % 10 ^ k) % 10 ≡ f % 10
kept_last zero f h = absurd (omega (arith, h))
kept_last (suc k) f h = mod-mod_of_dvd 10 f (dvd_of_mod-eq-zero 10 (ap (λ t. t % 10) (ten_suc k) ∙ mul-mod_left (10 ^ k) 10))

more_value : (a q t r f : ℕ) → f ≡ q * t + r → (a * 10 + ((48 + q) - 48)) * t + r ≡ a * (t * 10) + f
more_value a q t r f e = grind (arith, e)

fraction_is : (k f : ℕ) → f < 10 ^ k → (0 < k → f % 10 ≢ 0) → IsFraction k f (fraction_digits k f)
fraction_is zero f below last =
    let none : f ≡ 0 = omega (arith, below) in
    let e : fraction_digits 0 f ≡ [] = ap (λ n. fraction_digits 0 n) none ∙ no_fraction 0 in
    record {
      digits = ap is_digits e;
      count = ap length e;
      value = λ a. ap (λ l. fold add_digit a l) e ∙ (let s : a ≡ a * 10 ^ 0 + f = omega (arith, none) in s);
    }
fraction_is (suc k) f below last =
    let some : 0 < f = some_rest f (last (omega arith)) in
    let q : ℕ = f / 10 ^ k in
    let r : ℕ = f % 10 ^ k in
    let small : q < 10 = (div-lt_iff_lt-mul (ten_some k)).1 (let b : f < 10 * 10 ^ k = omega (arith, below, ten_suc k) in b) in
    let is : IsFraction k r (fraction_digits k r) = fraction_is k r (rest_below f k) (λ h e. last (omega arith) (sym (kept_last k f h) ∙ e)) in
    let e : fraction_digits (suc k) f ≡ (48 + q) ∷ fraction_digits k r = next_digit k f (not_zero f some) in
    record {
      digits = ap is_digits e ∙ ap (λ b. b && is_digits (fraction_digits k r)) (digit_is q small) ∙ is.digits;
      count = ap length e ∙ ap suc is.count;
      value = λ a. ap (λ l. fold add_digit a l) e ∙ ap (λ b. fold add_digit (if b then a * 10 + ((48 + q) - 48) else a) (fraction_digits k r)) (digit_is q small)
          ∙ is.value (a * 10 + ((48 + q) - 48)) ∙ more_value a q (10 ^ k) r f (sym (div-add-mod' f (10 ^ k))) ∙ ap (λ t. a * t + f) (sym (ten_suc k));
    }

no_less : (z : ℤ) → z -ℤ pos 0 ≡ z
no_less z = omega (arith, ints)

none_less : (k : ℕ) → pos 0 -ℤ pos (suc k) ≡ negsuc k
none_less k = omega (arith, ints)

small : (m : ℕ) → m < 10 ^ 34 → m < 10 ^ 64
small m h = omega (arith, h)

order_true : (a b : ℕ) → a < b → nat_lt a b ≡ true
order_true a b h = grind (arith, nat_tests, h)

order_false : (a b : ℕ) → b ≤ a → nat_lt a b ≡ false
order_false a b h = grind (arith, nat_tests, h)

most_true : (a b : ℕ) → a ≤ b → nat_le a b ≡ true
most_true a b h = grind (arith, nat_tests, h)

most_false : (a b : ℕ) → b < a → nat_le a b ≡ false
most_false a b h = grind (arith, nat_tests, h)

-- an exponent that is no negative one
large_writes : (z : ℤ) (e : ℕ) → IsDecimal (record { digits = z; exp = pos e }) → Writes (sign_text z ++ scaled_text (unsigned_abs z) (pos e)) (record { digits = z; exp = pos e })
large_writes z e is =
    let m : ℕ = unsigned_abs z in
    let d : DecimalNumber = record { digits = z; exp = pos e } in
    let front : Spells (decimal m) m = decimal_spells m (small m is.short) in
    elim (cases_lt 34 e) [
      | inl h ↦ (let back : Spells (decimal e) e = decimal_spells e (omega (arith, ints, is.most)) in
          let text : Writes (sign_text z ++ (decimal m ++ 101 ∷ decimal e)) d =
          writes_exponent z (decimal m) (decimal e) m d front (exponent_past (decimal e) back.some back.digits) (signed_minus z)
          (ap (λ b. signed b (digits_number (decimal e)) -ℤ pos 0) (plus_all (decimal e) back.some back.digits) ∙ ap (λ n. pos n -ℤ pos 0) back.number ∙ no_less (pos e)) in
          subst (λ (b : Bool). Writes (sign_text z ++ (decimal m ++ (if b then replicate e 48 else 101 ∷ decimal e))) d) (sym (most_false e 34 h)) text)
      | inr h ↦ (let text : Writes (sign_text z ++ (decimal m ++ replicate e 48)) d = writes_zeros z (decimal m) m e d front (signed_minus z) refl in
          subst (λ (b : Bool). Writes (sign_text z ++ (decimal m ++ (if b then replicate e 48 else 101 ∷ decimal e))) d) (sym (most_true e 34 h)) text)
    ]

-- a decimal with a negative exponent is no zero, so ten does not divide its digits
no_zero_exponent : (e : ℕ) → negsuc e ≡ pos 0 → ⊥
no_zero_exponent e h = absurd (omega (arith, ints, h))

last_digit : (z : ℤ) (e : ℕ) → IsDecimal (record { digits = z; exp = negsuc e }) → unsigned_abs z % 10 ≢ 0
last_digit z e is h = no_zero_exponent e (ap (λ (d : DecimalNumber). d.exp) (is.reduced h))

small_writes : (z : ℤ) (e : ℕ) → IsDecimal (record { digits = z; exp = negsuc e }) → Writes (sign_text z ++ scaled_text (unsigned_abs z) (negsuc e)) (record { digits = z; exp = negsuc e })
small_writes z e is =
    let m : ℕ = unsigned_abs z in
    let d : DecimalNumber = record { digits = z; exp = negsuc e } in
    let k : ℕ = suc e in
    let q : ℕ = m / 10 ^ k in
    let f : ℕ = m % 10 ^ k in
    let last : f % 10 ≢ 0 = λ e0. last_digit z e is (sym (kept_last k m (omega arith)) ∙ e0) in
    elim (cases_lt e 34) [
      | inl h ↦ (let front : Spells (decimal q) q = decimal_spells q (omega (arith, is.short, div-le_self m (10 ^ k))) in
          let parts : IsFraction k f (fraction_digits k f) = fraction_is k f (rest_below m k) (λ _. last) in
          let text : Writes (sign_text z ++ (decimal q ++ 46 ∷ fraction_digits k f)) d =
          writes_point z (decimal q) (fraction_digits k f) q m k d front parts.digits parts.count (parts.value q ∙ div-add-mod' m (10 ^ k)) (signed_minus z) (none_less e) in
          subst (λ (b : Bool). Writes (sign_text z ++ (if b then decimal q ++ (if f == 0 then [] else 46 ∷ fraction_digits k f) else (decimal m ++ codes "e-") ++ decimal k)) d) (sym (order_true e 34 h))
          (subst (λ (b : Bool). Writes (sign_text z ++ (decimal q ++ (if b then [] else 46 ∷ fraction_digits k f))) d) (sym (not_zero f (some_rest f last))) text))
      | inr h ↦ (let front : Spells (decimal m) m = decimal_spells m (small m is.short) in
          let back : Spells (decimal k) k = decimal_spells k (omega (arith, ints, is.least)) in
          let text : Writes (sign_text z ++ (decimal m ++ 101 ∷ 45 ∷ decimal k)) d =
          writes_exponent z (decimal m) (45 ∷ decimal k) m d front (some_digits (decimal k) back.some back.digits) (signed_minus z)
          (ap (λ n. signed true n -ℤ pos 0) back.number ∙ no_less (negsuc e)) in
          subst (λ (b : Bool). Writes (sign_text z ++ (if b then decimal q ++ (if f == 0 then [] else 46 ∷ fraction_digits k f) else (decimal m ++ codes "e-") ++ decimal k)) d) (sym (order_false e 34 h))
          (subst (λ (t : List ℕ). Writes (sign_text z ++ t) d) (sym (append_assoc (decimal m) (codes "e-") (decimal k))) text))
    ]

pub printed_writes : (d : DecimalNumber) → IsDecimal d → Writes (decimal_text d) d
printed_writes d is = by_exponent d.digits d.exp is
  where
    by_exponent : (z e : ℤ) → IsDecimal (record { digits = z; exp = e }) → Writes (sign_text z ++ scaled_text (unsigned_abs z) e) (record { digits = z; exp = e })
    by_exponent z (pos e) is = large_writes z e is
    by_exponent z (negsuc e) is = small_writes z e is
