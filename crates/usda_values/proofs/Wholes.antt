-- Whole numbers: their sign and size, the tens that divide them, and those of a type.
use Rattle.std.proofs.Common.{◌≡◌, ◌≢◌, ◌∙◌, ℕ, zero, suc, ◌+◌, ◌*◌, ◌/◌, ◌%◌, ◌^◌, ◌<◌, ◌==◌, Bool, true, false, Option, Some, Ok, Err, ap, sym, refl, arith, eqb-true}
use Rattle.std.specs.Prelude.{if◌then◌else◌, ℤ, pos, negsuc, unsigned_abs}
use Rattle.std.proofs.Math.Nat.{mul_assoc}
use Rattle.sdf_values.specs.Conforms.{whole_bounds, is_between, is_element}
use Rattle.sdf_values.specs.NumberTexts.{signed}
use Rattle.sdf_values.specs.declared.refusal.RefusalKind.TheVariants.{ValueShape}
use Rattle.sdf_values.specs.declared.type_name.ElementType.{ElementType}
use Rattle.sdf_values.specs.declared.type_name.ElementType.TheVariants as element
use Rattle.sdf_values.specs.declared.value.Value.TheOpen.{Value-F}
use Rattle.sdf_values.specs.declared.value.Value.TheVariants as value
use Rattle.sdf_values.proofs.Powers.{ten_suc}
use Rattle.usda_values.specs.Scalars.{stripped, is_below_zero, take_element, take_whole}

-- a number of no size is zero
pub abs_zero : (n : ℤ) → unsigned_abs n ≡ 0 → n ≡ pos 0
abs_zero (pos n) h = ap pos h
abs_zero (negsuc n) h = absurd (omega (arith, h))

-- a number is its size with its sign
pub signed_back : (n : ℤ) → signed (is_below_zero n) (unsigned_abs n) ≡ n
signed_back (pos n) = refl
signed_back (negsuc n) = refl

-- a number without the tens that divide it
pub record IsStripped (fuel n tens : ℕ) : Type 0 where
  pub digits : ℕ
  pub zeros : ℕ
  pub whole : n ≡ digits * 10 ^ zeros
  pub last : digits % 10 ≢ 0
  pub few : zeros < fuel
  pub is : stripped fuel n tens ≡ Some (digits, tens + zeros)

pub strip : (fuel n tens : ℕ) → 0 < n → n < 10 ^ fuel → IsStripped fuel n tens
strip zero n tens h low = absurd (omega (arith, h, low))
strip (suc fuel) n tens h low = cases (n % 10 == 0) refl (λ some less. strip fuel (n / 10) (tens + 1) some less)
  where
    cases : (b : Bool) → (n % 10 == 0) ≡ b → (0 < n / 10 → n / 10 < 10 ^ fuel → IsStripped fuel (n / 10) (tens + 1)) → IsStripped (suc fuel) n tens
    cases false e below = record {
      digits = n;
      zeros = 0;
      whole = omega arith;
      last = λ z. (let t : (n % 10 == 0) ≡ true = ap (λ k. k == 0) z in absurd cc);
      few = omega arith;
      is = ap (λ b. elim b as (λ _. Option (ℕ × ℕ)) [ true ↦ stripped fuel (n / 10) (tens + 1) | false ↦ Some (n, tens) ]) e ∙ ap (λ k. Some (n, k)) (let t : tens ≡ tens + 0 = omega arith in t);
    }
    cases true e below =
        let none : n % 10 ≡ 0 = eqb-true (n % 10) 0 e in
        let tenfold : n ≡ n / 10 * 10 = omega (arith, none) in
        let p = below (omega (arith, h, tenfold)) (omega (arith, low, ten_suc fuel, tenfold)) in
        record {
          digits = p.digits;
          zeros = suc p.zeros;
          whole = tenfold ∙ ap (λ k. k * 10) p.whole ∙ mul_assoc p.digits (10 ^ p.zeros) 10 ∙ ap (λ k. p.digits * k) (sym (ten_suc p.zeros));
          last = p.last;
          few = omega (arith, p.few);
          is = ap (λ b. elim b as (λ _. Option (ℕ × ℕ)) [ true ↦ stripped fuel (n / 10) (tens + 1) | false ↦ Some (n, tens) ]) e ∙ p.is
              ∙ ap (λ k. Some (p.digits, k)) (let t : tens + 1 + p.zeros ≡ tens + suc p.zeros = omega arith in t);
        }

-- a whole number between the bounds of a type is taken as it is
whole_taken : (e : ElementType) (n : ℤ) → is_between (whole_bounds e) n ≡ true → take_whole e n ≡ Ok (value.Whole n)
whole_taken e n h = ap (λ b. if b then Ok (value.Whole n) else Err ValueShape) h

-- a whole number of a type is taken as it is
pub element_taken : (n : ℤ) (e : ElementType) → is_element (Value-F.Whole n) e ≡ true → take_element e (value.Whole n) ≡ Ok (value.Whole n)
element_taken n element.Uchar h = whole_taken element.Uchar n h
element_taken n element.Int h = whole_taken element.Int n h
element_taken n element.Uint h = whole_taken element.Uint n h
element_taken n element.Int64 h = whole_taken element.Int64 n h
element_taken n element.Uint64 h = whole_taken element.Uint64 n h
element_taken n _ h = absurd cc
