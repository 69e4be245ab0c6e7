-- The digits that are kept of a number.
use Rattle.std.proofs.Common.{ℕ, zero, suc, ◌≡◌, ◌≢◌, ◌+◌, ◌*◌, ◌/◌, ◌%◌, ◌^◌, ◌-◌, ◌<◌, ◌≤◌, ◌∙◌, sym, ap, refl, arith, false}
use Rattle.std.proofs.lemmas.Nat.{mod-mul-add}
use Rattle.std.proofs.Math.Nat.{mul_assoc, div-lt_iff_lt-mul}
use Rattle.sdf_values.specs.Places.{IsLong, IsShort}
use Rattle.sdf_values.specs.declared.parse.Significant.{Significant}
use Rattle.sdf_values.proofs.Powers.{ten_some, ten_le, ten_next}

last_digit : (n c : ℕ) → c < 10 → (n * 10 + c) % 10 ≡ c
last_digit n c h = mod-mul-add n 10 c h

pub at_least : (m t : ℕ) → 0 < t → m ≤ m * t
at_least m t h = grind arith

next_zeros : (n m z : ℕ) → n ≡ m * 10 ^ z → n * 10 ≡ m * 10 ^ (z + 1)
next_zeros n m z e = ap (λ k. k * 10) e ∙ mul_assoc m (10 ^ z) 10 ∙ ap (λ t. m * t) (sym (ten_next z))

pub at_most : (m t : ℕ) → 0 < m → t ≤ m * t
at_most m t h = grind arith

pub long_digits : (n c : ℕ) → 0 < c → c < 10 → 10 ^ 34 ≤ n * 10 + c → IsLong (n * 10 + c)
long_digits n c some h many = record {
  digits = n * 10 + c;
  zeros = 0;
  whole = omega arith;
  last = λ e. absurd (omega (arith, some, sym (last_digit n c h) ∙ e));
  many = many;
}

pub long_more : (n c : ℕ) → c < 10 → IsLong n → IsLong (n * 10 + c)
long_more n zero h l = record {
  digits = l.digits;
  zeros = l.zeros + 1;
  whole = omega (arith, next_zeros n l.digits l.zeros l.whole);
  last = l.last;
  many = l.many;
}
long_more n (suc c) h l =
    long_digits n (suc c) (omega arith) h (omega (arith, l.many, l.whole, at_least l.digits (10 ^ l.zeros) (ten_some l.zeros)))

pub short_zero : (n c d : ℕ) (z : ℕ) → c < 10 → n ≡ d * 10 ^ z → d ≡ 0 → IsShort (n * 10 + c) (record { digits = c; zeros = 0; is_long = false })
short_zero n c d z h e none =
    let n0 : n ≡ 0 = e ∙ ap (λ k. k * 10 ^ z) none ∙ omega arith in
    record { whole = omega (arith, n0); few = omega (arith, h); last = λ l. omega (arith, h, l); none = λ _. refl }

pub short_more : (n : ℕ) (s : Significant) → s.digits ≢ 0 → IsShort n s → IsShort (n * 10 + 0) (record { digits = s.digits; zeros = s.zeros + 1; is_long = false })
short_more n s some h = record {
  whole = omega (arith, next_zeros n s.digits s.zeros h.whole);
  few = h.few;
  last = h.last;
  none = λ e. absurd (some e);
}

-- the number behind the zeros and one more digit
next_digits : (n d z c : ℕ) → n ≡ d * 10 ^ z → n * 10 + c ≡ d * 10 ^ (z + 1) + c
next_digits n d z c e = ap (λ k. k + c) (next_zeros n d z e)

pub short_last : (n d z c : ℕ) (r : Significant) → 0 < c → c < 10 → n ≡ d * 10 ^ z → r.digits ≡ d * 10 ^ (z + 1) + c → r.digits < 10 ^ 34 → r.zeros ≡ 0 → IsShort (n * 10 + c) r
short_last n d z c r some h e made few zeros =
    let same : n * 10 + c ≡ r.digits = next_digits n d z c e ∙ sym made in
    let last : r.digits % 10 ≡ c = ap (λ k. k % 10) (sym same) ∙ last_digit n c h in
    record {
      whole = same ∙ sym (ap (λ k. r.digits * 10 ^ k) zeros ∙ omega arith);
      few = few;
      last = λ l. absurd (omega (arith, some, last, l));
      none = λ l. absurd (omega (arith, some, same, l));
    }

pub long_last : (n d z c : ℕ) → 0 < c → c < 10 → n ≡ d * 10 ^ z → 10 ^ 34 ≤ d * 10 ^ (z + 1) + c → IsLong (n * 10 + c)
long_last n d z c some h e many = long_digits n c some h (omega (arith, many, next_digits n d z c e))

pub past_zeros : (d z c : ℕ) → 0 < d → 33 < z → 10 ^ 34 ≤ d * 10 ^ (z + 1) + c
past_zeros d z c some h = omega (arith, ten_le 34 (z + 1) (omega (arith, h)), at_most d (10 ^ (z + 1)) some)

pub past_unit : (d t c : ℕ) → 0 < t → (10 ^ 34 - 1) / t < d → 10 ^ 34 ≤ d * t + c
past_unit d t c some h =
    let above : 10 ^ 34 - 1 < d * t = (div-lt_iff_lt-mul some).0 h in
    omega (arith, above)
