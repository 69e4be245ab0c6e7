-- Numbers are printed in ASCII.
use Rattle.std.proofs.Common.{ℕ, zero, suc, ◌+◌, ◌*◌, ◌/◌, ◌%◌, ◌^◌, ◌<◌, ◌==◌, nat_le, nat_lt, Bool, true, false, List, [], ◌∷◌, refl, arith}
use Rattle.std.specs.Prelude.{codes, if◌then◌else◌, ℤ, pos, negsuc, unsigned_abs}
use Rattle.std.specs.Fmt.{decimal, signed_decimal, digits, digits_onto, digit_glyph}
use Rattle.std.proofs.Math.Nat.{div-lt_iff_lt-mul, mod-lt}
use Rattle.sdf_values.specs.Print.{sign_text, fraction_digits, point_text, scaled_text, num_text, time_text, whole_scaled, whole_text}
use Rattle.sdf_values.specs.declared.decimal.Num.{Num}
use Rattle.sdf_values.specs.declared.decimal.Num.TheVariants as num
use Rattle.sdf_values.proofs.Powers.{ten_some, ten_suc}
use Rattle.text_checks.proofs.Bytes.{IsValid, two, nothing, behind, ascii, either, repeated}

-- digits
low_glyph : (d : ℕ) → d < 10 → digit_glyph false d < 128
low_glyph d h = test (nat_lt d 10)
  where
    test : (b : Bool) → (if b then 48 + d else 87 + d) < 128
    test true = omega (arith, h)
    test false = omega (arith, h)

digits_valid : (k n : ℕ) (acc : List ℕ) → IsValid acc → IsValid (digits_onto k 10 false n acc)
digits_valid zero n acc h = h
digits_valid (suc k) n acc h =
    let more : IsValid (digit_glyph false (n % 10) ∷ acc) = behind (digit_glyph false (n % 10)) (low_glyph (n % 10) (omega arith)) h in
    either (n / 10 == 0) more (digits_valid k (n / 10) (digit_glyph false (n % 10) ∷ acc) more)

pub decimal_valid : (n : ℕ) → IsValid (decimal n)
unfolding digits
decimal_valid n = digits_valid 64 n [] nothing

pub signed_valid : (z : ℤ) → IsValid (signed_decimal z)
signed_valid (pos n) = decimal_valid n
signed_valid (negsuc n) = behind 45 (omega arith) (decimal_valid (suc n))

sign_valid : (z : ℤ) → IsValid (sign_text z)
sign_valid (pos n) = nothing
sign_valid (negsuc n) = ascii (codes "-") refl

-- digits behind a point
fraction_valid : (k f : ℕ) → f < 10 ^ k → IsValid (fraction_digits k f)
unfolding fraction_digits
fraction_valid zero f h = nothing
fraction_valid (suc k) f h =
    let small : f / 10 ^ k < 10 = (div-lt_iff_lt-mul (ten_some k)).1 (let b : f < 10 * 10 ^ k = omega (arith, h, ten_suc k) in b) in
    cases (f == 0) (behind (48 + f / 10 ^ k) (omega (arith, small)) (fraction_valid k (f % 10 ^ k) (mod-lt f (ten_some k))))
  where
    cases : (b : Bool) {t : List ℕ} → IsValid t → IsValid (elim b as (λ _. List ℕ) [ true ↦ [] | false ↦ t ])
    cases true h = nothing
    cases false h = h

point_valid : (k m : ℕ) → IsValid (point_text k m)
point_valid k m = two (decimal_valid (m / 10 ^ k)) (either (m % 10 ^ k == 0) nothing (behind 46 (omega arith) (fraction_valid k (m % 10 ^ k) (mod-lt m (ten_some k)))))

scaled_valid : (m : ℕ) (e : ℤ) → IsValid (scaled_text m e)
scaled_valid m (pos e) = two (decimal_valid m) (either (nat_le e 34) (repeated e 48 (omega arith)) (behind 101 (omega arith) (decimal_valid e)))
scaled_valid m (negsuc e) = either (nat_lt e 34) (point_valid (suc e) m) (two (two (decimal_valid m) (ascii (codes "e-") refl)) (decimal_valid (suc e)))

pub number_valid : (x : Num) → IsValid (num_text x)
number_valid (num.Finite d) = two (sign_valid d.digits) (scaled_valid (unsigned_abs d.digits) d.exp)
number_valid num.Inf = ascii (codes "inf") refl
number_valid num.NegInf = ascii (codes "-inf") refl
number_valid num.Nan = ascii (codes "nan") refl

pub time_valid : (t : ℤ) → IsValid (time_text t)
time_valid t = two (sign_valid t) (point_valid 18 (unsigned_abs t))

whole_digits_valid : (zs : List ℕ) (m : ℕ) → IsValid (whole_scaled zs m)
whole_digits_valid [] m = decimal_valid m
whole_digits_valid (z ∷ zs) m = either (m % 10 ^ z == 0) (two (decimal_valid (m / 10 ^ z)) (behind 101 (omega arith) (decimal_valid z))) (whole_digits_valid zs m)

pub whole_valid : (n : ℤ) → IsValid (whole_text n)
whole_valid n = two (sign_valid n) (either (unsigned_abs n == 0) (decimal_valid (unsigned_abs n)) (whole_digits_valid (38 ∷ 37 ∷ 36 ∷ 35 ∷ []) (unsigned_abs n)))
