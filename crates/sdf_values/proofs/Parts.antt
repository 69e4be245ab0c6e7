-- What a number's kept digits and exponent make.
use Rattle.std.proofs.lemmas.Bool.{cases_lt}
use Rattle.std.proofs.Common.{ℕ, inl, inr, min, ◌≡◌, ◌≢◌, ◌*◌, ◌^◌, ◌<◌, ◌≤◌, ◌∙◌, sym, ap, subst, arith, Bool, true, false, Ok, Result}
use Rattle.std.specs.Prelude.{ℤ, pos, negsuc, ◌+ℤ◌, ◌-ℤ◌, ◌≤ℤ◌, unsigned_abs, ◌↔◌}
use Rattle.std.proofs.lemmas.Int.{ints}
use Rattle.sdf_values.specs.Numbers.{DecimalNumber, IsDecimal, SameNumber, zero_number}
use Rattle.sdf_values.specs.NumberTexts.{signed}
use Rattle.sdf_values.specs.Places.{Keeps, IsLong, IsShort, IsNear, same, above, below, IsNumberOf}
use Rattle.sdf_values.specs.declared.parse.Significant.{Significant}
use Rattle.sdf_values.proofs.Powers.{IsForm, only_form, only_zero, zero_same, IsDecimal-zero, moved_zeros, same_parts, abs_signed}

pub long_none : (negative : Bool) (kept : Significant) (n : ℕ) (e : ℤ) (d : DecimalNumber) → kept.is_long ≡ true → Keeps kept n → IsNumberOf d (signed negative n) e → ⊥
long_none negative kept n e d long keeps is =
    let l : IsLong n = keeps.long long in
    let form : IsForm n l.digits l.zeros = record { whole = l.whole; last = l.last } in
    let parts = only_form negative n l.digits l.zeros e d form is.0 is.1 in
    absurd (omega (arith, is.0.short, l.many, ap unsigned_abs parts.0 ∙ abs_signed negative l.digits))

zero_whole : (n m z : ℕ) → n ≡ m * 10 ^ z → m ≡ 0 → n ≡ 0
zero_whole n m z e h = e ∙ ap (λ k. k * 10 ^ z) h ∙ omega arith

pub zero_all : (negative : Bool) (kept : Significant) (n : ℕ) (e : ℤ) (d : DecimalNumber) → kept.is_long ≡ false → kept.digits ≡ 0 → Keeps kept n
    → (zero_number ≡ d) ↔ IsNumberOf d (signed negative n) e
zero_all negative kept n e d short none keeps =
    let s : IsShort n kept = keeps.short short in
    let n0 : n ≡ 0 = zero_whole n kept.digits kept.zeros s.whole none in (
      λ (h : zero_number ≡ d). subst (λ (x : DecimalNumber). IsNumberOf x (signed negative n) e) h
          (IsDecimal-zero, subst (λ (k : ℕ). SameNumber (signed negative k) e (pos 0) (pos 0)) (sym n0) (zero_same negative e)),
      λ (h : IsNumberOf d (signed negative n) e). only_zero negative e d h.0 (subst (λ (k : ℕ). SameNumber (signed negative k) e d.digits d.exp) n0 h.1),
    )

-- the form of kept digits that are not 0
kept_form : (kept : Significant) (n : ℕ) → kept.is_long ≡ false → kept.digits ≢ 0 → Keeps kept n → IsForm n kept.digits kept.zeros
kept_form kept n short some keeps = let s : IsShort n kept = keeps.short short in record { whole = s.whole; last = λ h. some (s.last h) }

out_of_range : (x exp e dexp : ℤ) (z : ℕ) → z < 2 ^ 64 → exp ≡ x +ℤ pos z → dexp ≡ e +ℤ pos z → negsuc 399 ≤ℤ dexp → dexp ≤ℤ pos 400 → IsNear e x
    → negsuc 399 ≤ℤ exp × exp ≤ℤ pos 400
out_of_range x exp e dexp z small p q low high (same h) = (omega (arith, ints), omega (arith, ints))
out_of_range x exp e dexp z small p q low high (above h k) = absurd (omega (arith, ints))
out_of_range x exp e dexp z small p q low high (below h k) = absurd (omega (arith, ints))

pub far_none : (negative : Bool) (kept : Significant) (x exp : ℤ) (n : ℕ) (e : ℤ) (d : DecimalNumber) → kept.is_long ≡ false → kept.digits ≢ 0 → kept.zeros < 2 ^ 64
    → exp ≡ x +ℤ pos kept.zeros → Keeps kept n → IsNear e x → IsNumberOf d (signed negative n) e → negsuc 399 ≤ℤ exp × exp ≤ℤ pos 400
far_none negative kept x exp n e d short some small sum keeps near is =
    let parts = only_form negative n kept.digits kept.zeros e d (kept_form kept n short some keeps) is.0 is.1 in
    out_of_range x exp e d.exp kept.zeros small sum parts.1 is.0.least is.0.most near

near_same : (x exp e : ℤ) (z : ℕ) → z < 2 ^ 64 → exp ≡ x +ℤ pos z → negsuc 399 ≤ℤ exp → exp ≤ℤ pos 400 → IsNear e x → exp ≡ e +ℤ pos z
near_same x exp e z small p low high (same h) = omega (arith, ints)
near_same x exp e z small p low high (above h k) = absurd (omega (arith, ints))
near_same x exp e z small p low high (below h k) = absurd (omega (arith, ints))

pub near_all : (negative : Bool) (kept : Significant) (x exp : ℤ) (r : DecimalNumber) (n : ℕ) (e : ℤ) (d : DecimalNumber) → kept.is_long ≡ false → kept.digits ≢ 0 → kept.zeros < 2 ^ 64
    → exp ≡ x +ℤ pos kept.zeros → IsDecimal r → r.digits ≡ signed negative kept.digits → r.exp ≡ exp → Keeps kept n → IsNear e x → (r ≡ d) ↔ IsNumberOf d (signed negative n) e
near_all negative kept x exp r n e d short some small sum is rdigits rexp keeps near =
    let form = kept_form kept n short some keeps in
    let e_is : exp ≡ e +ℤ pos kept.zeros = near_same x exp e kept.zeros small sum
    (subst (λ (y : ℤ). negsuc 399 ≤ℤ y) rexp is.least) (subst (λ (y : ℤ). y ≤ℤ pos 400) rexp is.most) near in
    let moved : SameNumber (signed negative n) e r.digits r.exp =
    subst (λ (y : ℤ). SameNumber (signed negative n) e y r.exp) (sym rdigits)
    (subst (λ (y : ℤ). SameNumber (signed negative n) e (signed negative kept.digits) y) (sym (rexp ∙ e_is)) (moved_zeros negative n kept.digits kept.zeros e form.whole)) in (
      λ (h : r ≡ d). subst (λ (f : DecimalNumber). IsNumberOf f (signed negative n) e) h (is, moved),
      λ (h : IsNumberOf d (signed negative n) e).
          (let parts = only_form negative n kept.digits kept.zeros e d form h.0 h.1 in
          same_parts r d (rdigits ∙ sym parts.0) (rexp ∙ e_is ∙ sym parts.1)),
    )

abbrev ok_of : {E : Type 0} → DecimalNumber → Result DecimalNumber E
ok_of r = Ok r

pub as_ok : {E P : Type 0} (r d : DecimalNumber) → (r ≡ d) ↔ P → (ok_of {E = E} r ≡ ok_of {E = E} d) ↔ P
as_ok r d both = (λ h. both.0 (cc h), λ p. ap Ok (both.1 p))

pub near_written : (negative : Bool) (n places : ℕ) (x : ℤ) → places < 2 ^ 64 → x ≡ signed negative (min n (10 ^ 30)) -ℤ pos places → IsNear (signed negative n -ℤ pos places) x
near_written negative n places x few e =
    elim (cases_lt n (10 ^ 30)) [
      | inl h ↦ same (ap (λ k. signed negative k -ℤ pos places) (let m : n ≡ min n (10 ^ 30) = omega (arith, h) in m) ∙ sym e)
      | inr h ↦ far negative n places x few (e ∙ ap (λ k. signed negative k -ℤ pos places) (let m : min n (10 ^ 30) ≡ 10 ^ 30 = omega (arith, h) in m)) h
    ]
  where
    far : (negative : Bool) (n places : ℕ) (x : ℤ) → places < 2 ^ 64 → x ≡ signed negative (10 ^ 30) -ℤ pos places → 10 ^ 30 ≤ n → IsNear (signed negative n -ℤ pos places) x
    far false n places x few e h = above (omega (arith, ints)) (omega (arith, ints, e))
    far true n places x few e h = below (omega (arith, ints)) (omega (arith, ints, e))
