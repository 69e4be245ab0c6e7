-- The test for the one form of a decimal number.
use Rattle.std.proofs.Common.{◌≡◌, ◌∙◌, ◌^◌, ◌%◌, ◌&&◌, ◌||◌, ◌==◌, not, nat_lt, Bool, true, false, ap, refl, arith, eqb-true}
use Rattle.std.specs.Prelude.{◌↔◌, unsigned_abs}
use Rattle.std.proofs.lemmas.Bool.Decides.{nat_tests}
use Rattle.sdf_values.specs.Numbers.{DecimalNumber, IsDecimal, zero_number}
use Rattle.usda_lexer.specs.Decimals.{is_exponent_in_range}
use Rattle.usda_lexer.proofs.DecimalLaw.{range_in}
use Rattle.value_texts.specs.Writable.{is_decimal, is_zero_exponent}
use Rattle.value_texts.proofs.TokenCuts.{good_decimal}

pub decimal_good : (d : DecimalNumber) → IsDecimal d → is_decimal d ≡ true
decimal_good d is =
    let short : nat_lt (unsigned_abs d.digits) (10 ^ 34) ≡ true = (let few = is.short in grind (arith, nat_tests)) in
    ap (λ b. b && (is_exponent_in_range d.exp && (not (unsigned_abs d.digits % 10 == 0) || ((unsigned_abs d.digits == 0) && is_zero_exponent d.exp)))) short
    ∙ ap (λ b. b && (not (unsigned_abs d.digits % 10 == 0) || ((unsigned_abs d.digits == 0) && is_zero_exponent d.exp))) (range_in d.exp is.least is.most)
    ∙ last (unsigned_abs d.digits % 10 == 0) refl
  where
    last : (b : Bool) → (unsigned_abs d.digits % 10 == 0) ≡ b → (not b || ((unsigned_abs d.digits == 0) && is_zero_exponent d.exp)) ≡ true
    last false e = refl
    last true e =
        let zero : d ≡ zero_number = is.reduced (eqb-true (unsigned_abs d.digits % 10) 0 e) in
        ap (λ (f : DecimalNumber). (unsigned_abs f.digits == 0) && is_zero_exponent f.exp) zero

pub decimal_test : (d : DecimalNumber) → (is_decimal d ≡ true) ↔ IsDecimal d
decimal_test d = (good_decimal d, decimal_good d)
