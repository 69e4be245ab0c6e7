-- Powers of ten, and the one form of a decimal.
use Rattle.std.proofs.Common.{ℕ, zero, suc, ◌≡◌, ◌≢◌, ◌+◌, ◌*◌, ◌/◌, ◌%◌, ◌^◌, ◌<◌, ◌≤◌, ◌⊎◌, inl, inr, ◌∙◌, sym, ap, refl, subst, arith, Bool, true, false, add-one}
use Rattle.std.specs.Prelude.{ℤ, pos, negsuc, neg_ℤ, ◌+ℤ◌, ◌-ℤ◌, ◌*ℤ◌, unsigned_abs}
use Rattle.std.proofs.lemmas.Int.{ints, unsigned_abs-mul}
use Rattle.std.proofs.lemmas.Nat.{pow-add}
use Rattle.std.proofs.Math.Nat.{one-le-pow, pow-le-pow_right, mul-mod_left, mul_assoc, mul-div_cancel}
use Rattle.sdf_values.specs.Numbers.{DecimalNumber, IsDecimal, SameNumber, natural, excess, zero_number}
use Rattle.sdf_values.specs.NumberTexts.{signed}

pub ten_some : (n : ℕ) → 0 < 10 ^ n
ten_some n = omega (arith, one-le-pow n 10 (omega arith))

pub ten_le : (k n : ℕ) → k ≤ n → 10 ^ k ≤ 10 ^ n
ten_le k n h = pow-le-pow_right (omega arith) h

pub ten_next : (n : ℕ) → 10 ^ (n + 1) ≡ 10 ^ n * 10
ten_next n = pow-add 10 n 1

pub ten_suc : (n : ℕ) → 10 ^ suc n ≡ 10 ^ n * 10
ten_suc n = ap (λ k. 10 ^ k) (sym (add-one n)) ∙ ten_next n

ten_times_mod : (d b : ℕ) → (d * 10 ^ suc b) % 10 ≡ 0
ten_times_mod d b = ap (λ t. (d * t) % 10) (ten_suc b) ∙ ap (λ t. t % 10) (sym (mul_assoc d (10 ^ b) 10)) ∙ mul-mod_left (d * 10 ^ b) 10

times_one : (m : ℕ) → m * 10 ^ 0 ≡ m
times_one m = omega arith

cut_ten : (m d s t : ℕ) → m * (s * 10) ≡ d * (t * 10) → m * s ≡ d * t
cut_ten m d s t e = grind (arith, mul_assoc m s 10, mul_assoc d t 10)

-- digits that ten does not divide have one place
pub same_tens : (m d a b : ℕ) → m % 10 ≢ 0 → d % 10 ≢ 0 → m * 10 ^ a ≡ d * 10 ^ b → (m ≡ d) × (a ≡ b)
same_tens m d zero zero p q e = (sym (times_one m) ∙ e ∙ times_one d, refl)
same_tens m d zero (suc b) p q e = absurd (p (ap (λ x. x % 10) (sym (times_one m) ∙ e) ∙ ten_times_mod d b))
same_tens m d (suc a) zero p q e = absurd (q (ap (λ x. x % 10) (sym (times_one d) ∙ sym e) ∙ ten_times_mod m a))
same_tens m d (suc a) (suc b) p q e =
    let cut = cut_ten m d (10 ^ a) (10 ^ b) (ap (λ t. m * t) (sym (ten_suc a)) ∙ e ∙ ap (λ t. d * t) (ten_suc b)) in
    let below = same_tens m d a b p q cut in
    (below.0, ap suc below.1)

shape : (z : ℤ) → ((n : ℕ) × (z ≡ pos n)) ⊎ ((n : ℕ) × (z ≡ negsuc n))
shape (pos n) = inl (n, refl)
shape (negsuc n) = inr (n, refl)

natural_of : (z : ℤ) (n : ℕ) → z ≡ pos n → natural z ≡ n
natural_of z n e = ap natural e

natural_none : (z : ℤ) (n : ℕ) → z +ℤ pos n ≡ pos 0 → natural z ≡ 0
natural_none (pos m) n e = omega (arith, ints, e)
natural_none (negsuc m) n e = refl

pub excess_above : (a b : ℤ) (n : ℕ) → a ≡ b +ℤ pos n → excess a b ≡ n
excess_above a b n e = natural_of (a -ℤ b) n (omega (arith, ints, e))

pub excess_below : (a b : ℤ) (n : ℕ) → b ≡ a +ℤ pos n → excess a b ≡ 0
excess_below a b n e = natural_none (a -ℤ b) n (omega (arith, ints, e))

-- one of two numbers is above the other
pub apart : (a b : ℤ) → ((n : ℕ) × (a ≡ b +ℤ pos n)) ⊎ ((n : ℕ) × (b ≡ a +ℤ pos n))
apart a b =
    elim (shape (a -ℤ b)) [
      | inl p ↦ inl (p.0, omega (arith, ints, p.1))
      | inr q ↦ inr (suc q.0, omega (arith, ints, q.1))
    ]

pub abs_signed : (negative : Bool) (n : ℕ) → unsigned_abs (signed negative n) ≡ n
abs_signed true zero = refl
abs_signed true (suc n) = refl
abs_signed false n = refl

pub signed_times : (negative : Bool) (a b : ℕ) → signed negative a *ℤ pos b ≡ signed negative (a * b)
signed_times false a b = refl
signed_times true zero b = omega (arith, ints)
signed_times true (suc a) b = refl

pub some_times : (b t : ℕ) → 0 < t → 0 < suc b * t
some_times b t h = grind arith

pub abs_times : (z : ℤ) (n : ℕ) → unsigned_abs (z *ℤ pos n) ≡ unsigned_abs z * n
abs_times z n = unsigned_abs-mul z (pos n)

cut : (a b t : ℕ) → 0 < t → a * t ≡ b * t → a ≡ b
cut a b t h e = sym (mul-div_cancel a h) ∙ ap (λ x. x / t) e ∙ mul-div_cancel b h

pub cut_ℤ : (a b : ℤ) (t : ℕ) → 0 < t → a *ℤ pos t ≡ b *ℤ pos t → a ≡ b
cut_ℤ (pos a) (pos b) t h e = ap pos (cut a b t h (ap unsigned_abs e))
cut_ℤ (pos a) (negsuc b) t h e = absurd (omega (arith, ints, some_times b t h, e))
cut_ℤ (negsuc a) (pos b) t h e = absurd (omega (arith, ints, some_times a t h, e))
cut_ℤ (negsuc a) (negsuc b) t h e = ap neg_ℤ (ap pos (cut (suc a) (suc b) t h (sym (abs_times (negsuc a) t) ∙ ap unsigned_abs e ∙ abs_times (negsuc b) t)))

-- the magnitudes of one number
pub same_magnitudes : (m a n b : ℤ) → SameNumber m a n b → unsigned_abs m * 10 ^ excess a b ≡ unsigned_abs n * 10 ^ excess b a
same_magnitudes m a n b e = sym (abs_times m (10 ^ excess a b)) ∙ ap unsigned_abs e ∙ abs_times n (10 ^ excess b a)

-- digits with their zeros, and the digits with the zeros in the exponent
pub moved_zeros : (negative : Bool) (n m z : ℕ) (e : ℤ) → n ≡ m * 10 ^ z → SameNumber (signed negative n) e (signed negative m) (e +ℤ pos z)
moved_zeros negative n m z e whole =
    rw (excess_below e (e +ℤ pos z) z refl, excess_above (e +ℤ pos z) e z refl, signed_times negative n 1, signed_times negative m (10 ^ z), ← whole) (ap (signed negative) (omega arith))

-- the digits and the exponent of the one decimal that is `n * 10^e`
pub record IsForm (n m z : ℕ) : Type 0 where
  pub whole : n ≡ m * 10 ^ z
  pub last : m % 10 ≢ 0

pub some_digits : (m : ℕ) → m % 10 ≢ 0 → 0 < m
some_digits zero h = absurd (h refl)
some_digits (suc m) h = omega arith

-- a decimal that is no zero has digits that ten does not divide
decimal_last : (d : DecimalNumber) → IsDecimal d → 0 < unsigned_abs d.digits → unsigned_abs d.digits % 10 ≢ 0
decimal_last d is some e = absurd (omega (arith, some, ap (λ f. unsigned_abs f.digits) (is.reduced e)))

pub some_product : (m t : ℕ) → 0 < m → 0 < t → 0 < m * t
some_product zero t h k = elim h [ ]
some_product (suc m) t h k = some_times m t k

pub some_factor : (a t q : ℕ) → 0 < q → q ≡ a * t → 0 < a
some_factor zero t q h e = absurd (omega (arith, h, e))
some_factor (suc a) t q h e = omega arith

aligned : (z : ℕ) (e x : ℤ) → z + excess e x ≡ excess x e → x ≡ e +ℤ pos z
aligned z e x h =
    elim (apart x e) [
      | inl p ↦ (let none = excess_below e x p.0 p.1 in let some = excess_above x e p.0 p.1 in
          let same : p.0 ≡ z = omega (arith, none, some, h) in p.1 ∙ ap (λ k. e +ℤ pos k) same)
      | inr q ↦ (let none = excess_below x e q.0 q.1 in let some = excess_above e x q.0 q.1 in
          let no : q.0 ≡ 0 = omega (arith, none, some, h) in let nor : z ≡ 0 = omega (arith, none, some, h) in
          omega (arith, ints, q.1, no, nor))
    ]

pub only_form : (negative : Bool) (n m z : ℕ) (e : ℤ) (d : DecimalNumber) → IsForm n m z → IsDecimal d → SameNumber (signed negative n) e d.digits d.exp
    → (d.digits ≡ signed negative m) × (d.exp ≡ e +ℤ pos z)
only_form negative n m z e d form is same =
    let p : ℕ = excess e d.exp in
    let q : ℕ = excess d.exp e in
    let sizes : n * 10 ^ p ≡ unsigned_abs d.digits * 10 ^ q =
    ap (λ k. k * 10 ^ p) (sym (abs_signed negative n)) ∙ same_magnitudes (signed negative n) e d.digits d.exp same in
    let lined : m * 10 ^ (z + p) ≡ unsigned_abs d.digits * 10 ^ q =
    ap (λ t. m * t) (pow-add 10 z p) ∙ sym (mul_assoc m (10 ^ z) (10 ^ p)) ∙ ap (λ k. k * 10 ^ p) (sym form.whole) ∙ sizes in
    let some : 0 < unsigned_abs d.digits = some_factor (unsigned_abs d.digits) (10 ^ q) (m * 10 ^ (z + p)) (some_product m (10 ^ (z + p)) (some_digits m form.last) (ten_some (z + p))) lined in
    let both = same_tens m (unsigned_abs d.digits) (z + p) q form.last (decimal_last d is some) lined in
    let exps : d.exp ≡ e +ℤ pos z = aligned z e d.exp both.1 in
    let moved : SameNumber (signed negative n) e (signed negative m) d.exp =
    subst (λ (x : ℤ). SameNumber (signed negative n) e (signed negative m) x) (sym exps) (moved_zeros negative n m z e form.whole) in
    (sym (cut_ℤ (signed negative m) d.digits (10 ^ q) (ten_some q) (sym moved ∙ same)), exps)

-- two decimals with equal parts are one
pub same_parts : (d f : DecimalNumber) → d.digits ≡ f.digits → d.exp ≡ f.exp → d ≡ f
same_parts d f p q =
    subst (λ (x : ℤ). d ≡ record { digits = x; exp = f.exp }) p (subst (λ (y : ℤ). d ≡ record { digits = d.digits; exp = y }) q refl)

times_zero : (negative : Bool) (t : ℕ) → signed negative 0 *ℤ pos t ≡ pos 0
times_zero false t = omega (arith, ints)
times_zero true t = omega (arith, ints)

zero_digits : (k t : ℕ) → 0 < t → 0 ≡ k * t → k ≡ 0
zero_digits zero t h e = refl
zero_digits (suc k) t h e = absurd (omega (arith, some_times k t h, e))

pub IsDecimal-zero : IsDecimal zero_number
IsDecimal-zero = record { short = omega arith; least = omega (arith, ints); most = omega (arith, ints); reduced = λ _. refl }

-- the decimal that is no digits is zero
pub only_zero : (negative : Bool) (e : ℤ) (d : DecimalNumber) → IsDecimal d → SameNumber (signed negative 0) e d.digits d.exp → zero_number ≡ d
only_zero negative e d is same =
    let sizes : 0 ≡ unsigned_abs d.digits * 10 ^ excess d.exp e =
    omega (arith, same_magnitudes (signed negative 0) e d.digits d.exp same, abs_signed negative 0, ap (λ k. k * 10 ^ excess e d.exp) (abs_signed negative 0)) in
    let none : unsigned_abs d.digits ≡ 0 = zero_digits (unsigned_abs d.digits) (10 ^ excess d.exp e) (ten_some (excess d.exp e)) sizes in
    sym (is.reduced (ap (λ k. k % 10) none))

pub zero_same : (negative : Bool) (e : ℤ) → SameNumber (signed negative 0) e (pos 0) (pos 0)
zero_same negative e = times_zero negative (10 ^ excess e (pos 0)) ∙ sym (times_zero false (10 ^ excess (pos 0) e))
