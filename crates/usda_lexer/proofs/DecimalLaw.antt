-- The decimal that is computed of a text is the one that the text writes.
use Rattle.std.proofs.Common.{ℕ, zero, suc, ◌≡◌, ◌≢◌, ◌*◌, ◌/◌, ◌%◌, ◌^◌, ◌<◌, ◌≤◌, ◌∙◌, sym, ap, subst, refl, arith, Bool, true, false, ◌&&◌, ◌==◌, nat_lt, eqb-true, Option, Some, None, List}
use Rattle.std.specs.Prelude.{ℤ, pos, negsuc, ◌+ℤ◌, ◌≤ℤ◌, unsigned_abs, ◌↔◌}
use Rattle.std.proofs.lemmas.Bool.Decides.{nat_tests}
use Rattle.std.proofs.lemmas.Bool.{and_parts}
use Rattle.std.proofs.lemmas.Int.{ints}
use Rattle.sdf_values.specs.Numbers.{DecimalNumber, IsDecimal, zero_number}
use Rattle.sdf_values.specs.NumberTexts.{Writes, signed, is_number, is_negative, digits_number, before_mark, written_exponent}
use Rattle.sdf_values.specs.Places.{IsNumberOf}
use Rattle.sdf_values.proofs.Powers.{IsForm, only_form, only_zero, zero_same, IsDecimal-zero, moved_zeros, same_parts, abs_signed, ten_suc}
use Rattle.usda_lexer.specs.Decimals.{is_exponent_in_range, if_decimal, reduced, decimal_from, decimal_of}

pub in_range : (e : ℤ) → is_exponent_in_range e ≡ true → (negsuc 399 ≤ℤ e) × (e ≤ℤ pos 400)
in_range (pos n) h = let lt : n < 401 = grind (arith, nat_tests) in (omega (arith, ints), omega (arith, ints))
in_range (negsuc n) h = let lt : n < 400 = grind (arith, nat_tests) in (omega (arith, ints), omega (arith, ints))

pub range_in : (e : ℤ) → negsuc 399 ≤ℤ e → e ≤ℤ pos 400 → is_exponent_in_range e ≡ true
range_in (pos n) low high = let lt : n < 401 = omega (arith, ints) in grind (arith, nat_tests)
range_in (negsuc n) low high = let lt : n < 400 = omega (arith, ints) in grind (arith, nat_tests)

if_decimal_true : (negative : Bool) (m : ℕ) (e : ℤ) → (nat_lt m (10 ^ 34) && is_exponent_in_range e) ≡ true → if_decimal negative m e ≡ Some (record { digits = signed negative m; exp = e })
if_decimal_true negative m e h = rw (h, if_decimal) refl

if_decimal_false : (negative : Bool) (m : ℕ) (e : ℤ) → (nat_lt m (10 ^ 34) && is_exponent_in_range e) ≡ false → if_decimal negative m e ≡ None
if_decimal_false negative m e h = rw (h, if_decimal) refl

made : (negative : Bool) (n m z : ℕ) (e : ℤ) (d : DecimalNumber) (b : Bool) → IsForm n m z → (nat_lt m (10 ^ 34) && is_exponent_in_range (e +ℤ pos z)) ≡ b
    → if_decimal negative m (e +ℤ pos z) ≡ Some d → IsNumberOf d (signed negative n) e
made negative n m z e d false form test h = let none = if_decimal_false negative m (e +ℤ pos z) test in absurd cc
made negative n m z e d true form test h =
    let f : DecimalNumber = record { digits = signed negative m; exp = e +ℤ pos z } in
    let is : Some f ≡ Some d = sym (if_decimal_true negative m (e +ℤ pos z) test) ∙ h in
    let same : f ≡ d = cc is in
    let parts = and_parts (nat_lt m (10 ^ 34)) (is_exponent_in_range (e +ℤ pos z)) test in
    let few : m < 10 ^ 34 = grind (arith, nat_tests, parts.0) in
    let range = in_range (e +ℤ pos z) parts.1 in
    let abs : unsigned_abs (signed negative m) ≡ m = abs_signed negative m in
    let good : IsDecimal f = record {
      short = subst (λ (k : ℕ). k < 10 ^ 34) (sym abs) few;
      least = range.0;
      most = range.1;
      reduced = λ h. absurd (form.last (ap (λ k. k % 10) (sym abs) ∙ h));
    } in
    subst (λ (x : DecimalNumber). IsNumberOf x (signed negative n) e) same (good, moved_zeros negative n m z e form.whole)

found : (negative : Bool) (n m z : ℕ) (e : ℤ) (d : DecimalNumber) → IsForm n m z → IsNumberOf d (signed negative n) e → if_decimal negative m (e +ℤ pos z) ≡ Some d
found negative n m z e d form is =
    let parts = only_form negative n m z e d form is.0 is.1 in
    let abs : unsigned_abs d.digits ≡ m = ap unsigned_abs parts.0 ∙ abs_signed negative m in
    let few : m < 10 ^ 34 = subst (λ (k : ℕ). k < 10 ^ 34) abs is.0.short in
    let few_test : nat_lt m (10 ^ 34) ≡ true = grind (arith, nat_tests) in
    let range : is_exponent_in_range (e +ℤ pos z) ≡ true = ap is_exponent_in_range (sym parts.1) ∙ range_in d.exp is.0.least is.0.most in
    if_decimal_true negative m (e +ℤ pos z) (rw (few_test, range) refl)
    ∙ ap Some (same_parts (record { digits = signed negative m; exp = e +ℤ pos z }) d (sym parts.0) (sym parts.1))

divided : (m : ℕ) → (m % 10 == 0) ≡ true → m ≡ m / 10 * 10
divided m h = let none : m % 10 ≡ 0 = eqb-true (m % 10) 0 h in omega arith

undivided : (m : ℕ) → (m % 10 == 0) ≡ false → m % 10 ≢ 0
undivided m h = λ e. absurd (let t : (m % 10 == 0) ≡ true = rw e refl in cc)

shifted : (n m z : ℕ) → n ≡ m * 10 ^ z → m ≡ m / 10 * 10 → n ≡ m / 10 * 10 ^ suc z
shifted n m z h k = h ∙ ap (λ x. x * 10 ^ z) k ∙ (let t : m / 10 * 10 * 10 ^ z ≡ m / 10 * (10 ^ z * 10) = grind arith in t) ∙ ap (λ x. m / 10 * x) (sym (ten_suc z))

one_more : (e : ℤ) (z : ℕ) → (e +ℤ pos z) +ℤ pos 1 ≡ e +ℤ pos (suc z)
one_more e z = omega (arith, ints)

reduced_next : (f : ℕ) (negative : Bool) (m : ℕ) (x : ℤ) → (m % 10 == 0) ≡ true → reduced (suc f) negative m x ≡ reduced f negative (m / 10) (x +ℤ pos 1)
reduced_next f negative m x h = rw (h, reduced) refl

reduced_last : (f : ℕ) (negative : Bool) (m : ℕ) (x : ℤ) → (m % 10 == 0) ≡ false → reduced (suc f) negative m x ≡ if_decimal negative m x
reduced_last f negative m x h = rw (h, reduced) refl

-- what is true of one is true of the other
along : {A P : Type 0} (x y z : Option A) → x ≡ y → ((y ≡ z) ↔ P) → ((x ≡ z) ↔ P)
along x y z e both = (λ h. both.0 (sym e ∙ h), λ p. e ∙ both.1 p)

reduced_all : (f : ℕ) (negative : Bool) (n m z : ℕ) (e : ℤ) (d : DecimalNumber) → n ≡ m * 10 ^ z → 0 < m → m ≤ f → (reduced f negative m (e +ℤ pos z) ≡ Some d) ↔ IsNumberOf d (signed negative n) e
reduced_all zero negative n m z e d whole some few = absurd (omega arith)
reduced_all (suc f) negative n m z e d whole some few =
    cases (m % 10 == 0) refl (λ (y : ℕ) (whole : n ≡ y * 10 ^ suc z) (some : 0 < y) (few : y ≤ f). reduced_all f negative n y (suc z) e d whole some few)
  where
    cases : (b : Bool) → (m % 10 == 0) ≡ b → ((y : ℕ) → n ≡ y * 10 ^ suc z → 0 < y → y ≤ f → (reduced f negative y (e +ℤ pos (suc z)) ≡ Some d) ↔ IsNumberOf d (signed negative n) e)
        → (reduced (suc f) negative m (e +ℤ pos z) ≡ Some d) ↔ IsNumberOf d (signed negative n) e
    cases true h below =
        let tens = divided m h in
        along (reduced (suc f) negative m (e +ℤ pos z)) (reduced f negative (m / 10) (e +ℤ pos (suc z))) (Some d)
        (reduced_next f negative m (e +ℤ pos z) h ∙ ap (reduced f negative (m / 10)) (one_more e z))
        (below (m / 10) (shifted n m z whole tens) (omega (arith, tens, some)) (omega (arith, tens, some, few)))
    cases false h below =
        let form : IsForm n m z = record { whole = whole; last = undivided m h } in
        along (reduced (suc f) negative m (e +ℤ pos z)) (if_decimal negative m (e +ℤ pos z)) (Some d) (reduced_last f negative m (e +ℤ pos z) h)
        (made negative n m z e d _ form refl, found negative n m z e d form)

from_zero : (negative : Bool) (e : ℤ) (d : DecimalNumber) → (Some zero_number ≡ Some d) ↔ IsNumberOf d (signed negative 0) e
from_zero negative e d = (
  λ h. (let same : zero_number ≡ d = cc h in subst (λ (x : DecimalNumber). IsNumberOf x (signed negative 0) e) same (IsDecimal-zero, zero_same negative e)),
  λ h. ap Some (only_zero negative e d h.0 h.1),
)

no_zeros : (e : ℤ) → e +ℤ pos 0 ≡ e
no_zeros e = omega (arith, ints)

from_some : (negative : Bool) (n : ℕ) (e : ℤ) → (n == 0) ≡ false → decimal_from negative n e ≡ reduced n negative n e
from_some negative n e h = rw (h, decimal_from) refl

from_all : (negative : Bool) (n : ℕ) (e : ℤ) (d : DecimalNumber) → (decimal_from negative n e ≡ Some d) ↔ IsNumberOf d (signed negative n) e
from_all negative zero e d = from_zero negative e d
from_all negative (suc n) e d =
    along (decimal_from negative (suc n) e) (reduced (suc n) negative (suc n) (e +ℤ pos 0)) (Some d)
    (from_some negative (suc n) e (let some : (suc n == 0) ≡ false = grind (arith, nat_tests) in some) ∙ ap (reduced (suc n) negative (suc n)) (sym (no_zeros e)))
    (reduced_all (suc n) negative (suc n) (suc n) 0 e d (omega arith) (omega arith) (omega arith))

pub decimal_law : (t : List ℕ) (d : DecimalNumber) → (decimal_of t ≡ Some d) ↔ (IsDecimal d × Writes t d)
unfolding decimal_of
decimal_law t d = cases (is_number t) refl
  where
    cases : (b : Bool) → is_number t ≡ b
        → (elim b [ true ↦ decimal_from (is_negative t) (digits_number (before_mark t)) (written_exponent t) | false ↦ None ] ≡ Some d) ↔ (IsDecimal d × Writes t d)
    cases true h =
        let all = from_all (is_negative t) (digits_number (before_mark t)) (written_exponent t) d in
        (λ e. (let is = all.0 e in (is.0, record { is_text = h; same = is.1 })), λ w. all.1 (w.0, w.1.same))
    cases false h = (λ e. absurd cc, λ w. absurd (let t = w.1.is_text in cc))
