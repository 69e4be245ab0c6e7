-- The time that is computed of a decimal is the one that it is.
use Rattle.std.proofs.Common.{◌≡◌, ◌≢◌, ◌∙◌, ◌≤◌, ◌^◌, ◌%◌, nat_le, Bool, true, false, Some, None, ap, refl, arith}
use Rattle.std.specs.Prelude.{ℤ, pos, negsuc, ◌+ℤ◌, ◌*ℤ◌, ◌≤ℤ◌, int_le, unsigned_abs, if◌then◌else◌}
use Rattle.std.proofs.lemmas.Bool.Decides.{nat_tests}
use Rattle.std.proofs.lemmas.Int.{ints}
use Rattle.sdf_values.specs.Numbers.{DecimalNumber, IsDecimal, natural, zero_number}
use Rattle.sdf_values.specs.Scales.{IsTime, IsTimeOf}
use Rattle.sdf_values.proofs.Times.{is_time, only_time, no_time, below_units}
use Rattle.usda_values.specs.Scalars.{if_time, time_of}

pub natural_is : (z : ℤ) → pos 0 ≤ℤ z → z ≡ pos (natural z)
natural_is (pos n) h = refl
natural_is (negsuc n) h = absurd (omega (arith, ints, h))

pub above : (e : ℤ) → negsuc 17 ≤ℤ e → e ≡ negsuc 17 +ℤ pos (natural (e +ℤ pos 18))
above e h =
    let z = natural_is (e +ℤ pos 18) (omega (arith, ints, h)) in
    omega (arith, ints, z)

some_digits : (d : DecimalNumber) → IsDecimal d → d.exp ≤ℤ negsuc 18 → d.digits ≢ pos 0
some_digits d is low = λ z.
    (let none : d ≡ zero_number = is.reduced (ap (λ (x : ℤ). unsigned_abs x % 10) z) in
    absurd (omega (arith, ints, low, ap (λ (f : DecimalNumber). f.exp) none)))

pub if_within : (t : ℤ) → IsTime t → if_time t ≡ Some t
if_within t h = let test : nat_le (unsigned_abs t) (10 ^ 30) ≡ true = grind (arith, nat_tests) in ap (λ b. if b then Some t else None) test

pub time_found : (d : DecimalNumber) (t : ℤ) → IsDecimal d → IsTime t → IsTimeOf d t → time_of d ≡ Some t
unfolding time_of
time_found d t is within same = cases (int_le (negsuc 17) d.exp) refl
  where
    cases : (b : Bool) → int_le (negsuc 17) d.exp ≡ b → (if b then if_time (d.digits *ℤ pos (10 ^ natural (d.exp +ℤ pos 18))) else None) ≡ Some t
    cases true h =
        let k = above d.exp (omega (arith, ints, h)) in
        ap if_time (only_time d (natural (d.exp +ℤ pos 18)) t k same) ∙ if_within t within
    cases false h =
        let low : d.exp ≤ℤ negsuc 18 = omega (arith, ints, h) in
        let n = below_units d.exp low in
        absurd (no_time d n.0 t is (some_digits d is low) n.1 same)

pub time_none : (d : DecimalNumber) → IsDecimal d → ((t : ℤ) → IsTime t → IsTimeOf d t → ⊥) → time_of d ≡ None
unfolding time_of
time_none d is bad = cases (int_le (negsuc 17) d.exp) refl
  where
    cases : (b : Bool) → int_le (negsuc 17) d.exp ≡ b → (if b then if_time (d.digits *ℤ pos (10 ^ natural (d.exp +ℤ pos 18))) else None) ≡ None
    cases true h = outside (nat_le (unsigned_abs (d.digits *ℤ pos (10 ^ natural (d.exp +ℤ pos 18)))) (10 ^ 30)) refl
      where
        outside : (b : Bool) → nat_le (unsigned_abs (d.digits *ℤ pos (10 ^ natural (d.exp +ℤ pos 18)))) (10 ^ 30) ≡ b
            → (if b then Some (d.digits *ℤ pos (10 ^ natural (d.exp +ℤ pos 18))) else None) ≡ None
        outside false g = refl
        outside true g =
            let k = above d.exp (omega (arith, ints, h)) in
            let within : IsTime (d.digits *ℤ pos (10 ^ natural (d.exp +ℤ pos 18))) = grind (arith, nat_tests) in
            absurd (bad (d.digits *ℤ pos (10 ^ natural (d.exp +ℤ pos 18))) within (is_time d (natural (d.exp +ℤ pos 18)) k))
    cases false h = refl
