-- A whole number, where it is expected.
use Rattle.std.proofs.Common.{◌≡◌, ◌∙◌, ℕ, ◌+◌, ◌-◌, ◌/◌, ◌%◌, ◌<◌, ◌≤◌, ◌^◌, ◌&&◌, ◌==◌, Bool, true, false, List, [], ◌∷◌, ◌++◌, Some, Ok, ap, refl, arith, None, suc, nat_lt}
use Rattle.std.specs.Prelude.{if◌then◌else◌, ℤ, pos, negsuc, unsigned_abs, int_le}
use Rattle.std.specs.Fmt.{decimal, signed_decimal}
use Rattle.std.specs.List.{list_all}
use Rattle.std.proofs.lemmas.Fmt.{decimal_by_steps_wide}
use Rattle.std.proofs.lemmas.List.Folds.{list_all-append}
use Rattle.std.proofs.lemmas.Bool.Decides.{nat_tests}
use Rattle.std.proofs.lemmas.Int.{ints}
use Rattle.std.proofs.Math.Nat.{mod-eq_of_lt, mod-lt}
use Rattle.sdf_values.specs.Numbers.{DecimalNumber, IsDecimal, zero_number}
use Rattle.sdf_values.specs.Conforms.{is_element, holds_step}
use Rattle.sdf_values.specs.Print.{decimal_text, whole_text, sign_text, magnitude_text, whole_scaled}
use Rattle.sdf_values.specs.declared.decimal.Num.TheVariants as num
use Rattle.sdf_values.specs.declared.type_name.ElementType.{ElementType}
use Rattle.sdf_values.specs.declared.type_name.ElementType.TheVariants as element
use Rattle.sdf_values.specs.declared.value.Value.TheOpen.{Value-F}
use Rattle.sdf_values.specs.declared.value.Value.TheVariants as value
use Rattle.sdf_values.proofs.Fractions.{not_zero}
use Rattle.usda_lexer.specs.declared.token.TokenKind.TheVariants as kind
use Rattle.usda_lexer.specs.Meanings.{number_of}
use Rattle.usda_values.specs.Scalars.{is_plain_byte, is_plain, whole_or, by_value, as_written, whole_of, in_128_bits, decimal_of_whole, tens_out, is_below_zero, if_short}
use Rattle.usda_values.specs.Shapes.{for_metadata}
use Rattle.usda_values.specs.declared.shape.Shape.{Shape}
use Rattle.usda_values.specs.declared.shape.Shape.TheVariants.{Untyped, Metadata, Typed, Dictionary}
use Rattle.usda_values.proofs.Wholes.{strip, element_taken}
use Rattle.value_texts.specs.Readable.{reading_step}
use Rattle.value_texts.specs.Writable.{is_writable_whole}
use Rattle.value_texts.proofs.NumberTokens.{printed_decimal, printed_number, decimal_number_of}
use Rattle.value_texts.proofs.TokenCuts.{written_whole}
use Rattle.value_texts.proofs.Leaves.{Gives, number_token, by_element, typed_part, no_array}
use Rattle.std.specs.Option.{is_some}
use Rattle.std.proofs.lemmas.Bool.{and_parts}
use Rattle.sdf_values.specs.NumberTexts.{signed}
use Rattle.sdf_values.proofs.Powers.{ten_some}
use Rattle.sdf_values.proofs.Digits.{at_least}

-- the digits of a number
abbrev AllPlain : List ℕ → Type 0
AllPlain ds = list_all is_plain_byte ds ≡ true

digit_plain : (n : ℕ) → n < 10 → is_plain_byte (48 + n) ≡ true
digit_plain n h = grind (arith, nat_tests)

decimal_plain : (n : ℕ) → n < 10 ^ 64 → AllPlain (decimal n)
decimal_plain =
    decimal_by_steps_wide (λ n ds. AllPlain ds) (λ n h. ap (λ b. b && true) (digit_plain n h))
    (λ n ds h p. list_all-append is_plain_byte ds ((48 + n % 10) ∷ []) ∙ ap (λ b. b && (is_plain_byte (48 + n % 10) && true)) p
    ∙ ap (λ b. b && true) (digit_plain (n % 10) (mod-lt n (omega arith))))

-- a number below 10^35 is written without an exponent
no_tens : (z m : ℕ) (zs : List ℕ) → 0 < m → m < 10 ^ z → whole_scaled (z ∷ zs) m ≡ whole_scaled zs m
no_tens z m zs some low =
    ap (λ r. if r == 0 then decimal (m / 10 ^ z) ++ 101 ∷ decimal z else whole_scaled zs m) (mod-eq_of_lt low)
    ∙ ap (λ b. if b then decimal (m / 10 ^ z) ++ 101 ∷ decimal z else whole_scaled zs m) (not_zero m some)

plain_magnitude : (m : ℕ) → m < 10 ^ 35 → magnitude_text m ≡ decimal m
plain_magnitude m low = cases (m == 0) refl
  where
    cases : (b : Bool) → (m == 0) ≡ b → (if b then decimal m else whole_scaled (38 ∷ 37 ∷ 36 ∷ 35 ∷ []) m) ≡ decimal m
    cases true e = refl
    cases false e =
        let some : 0 < m = grind (arith, nat_tests) in
        no_tens 38 m (37 ∷ 36 ∷ 35 ∷ []) some (omega (arith, low)) ∙ no_tens 37 m (36 ∷ 35 ∷ []) some (omega (arith, low)) ∙ no_tens 36 m (35 ∷ []) some (omega (arith, low)) ∙ no_tens 35 m [] some low

signed_plain : (n : ℤ) (ds : List ℕ) → AllPlain ds → AllPlain (sign_text n ++ ds)
signed_plain (pos n) ds h = h
signed_plain (negsuc n) ds h = h

whole_plain : (n : ℤ) → unsigned_abs n < 10 ^ 35 → is_plain (whole_text n) ≡ true
unfolding is_plain
whole_plain n low =
    ap (λ t. list_all is_plain_byte (sign_text n ++ t)) (plain_magnitude (unsigned_abs n) low) ∙ signed_plain n (decimal (unsigned_abs n)) (decimal_plain (unsigned_abs n) (omega (arith, low)))

-- the types of whole numbers
near : (n low high : ℤ) (l h : ℕ) → unsigned_abs low ≤ l → unsigned_abs high ≤ l → (int_le low n && int_le n high) ≡ true → unsigned_abs n ≤ l
near n low high l h a b is = let p = and_parts (int_le low n) (int_le n high) is in omega (arith, ints, p.0, p.1, a, b)

bounded : (n : ℤ) (e : ElementType) → is_element (Value-F.Whole n) e ≡ true → unsigned_abs n < 10 ^ 35
bounded n element.Uchar h = omega (arith, near n (pos 0) (pos (2 ^ 8 - 1)) (2 ^ 64) 0 (omega arith) (omega arith) h)
bounded n element.Int h = omega (arith, near n (negsuc (2 ^ 31 - 1)) (pos (2 ^ 31 - 1)) (2 ^ 64) 0 (omega arith) (omega arith) h)
bounded n element.Uint h = omega (arith, near n (pos 0) (pos (2 ^ 32 - 1)) (2 ^ 64) 0 (omega arith) (omega arith) h)
bounded n element.Int64 h = omega (arith, near n (negsuc (2 ^ 63 - 1)) (pos (2 ^ 63 - 1)) (2 ^ 64) 0 (omega arith) (omega arith) h)
bounded n element.Uint64 h = omega (arith, near n (pos 0) (pos (2 ^ 64 - 1)) (2 ^ 64) 0 (omega arith) (omega arith) h)
bounded n _ h = absurd cc

-- the token of a whole number
pub whole_read : (n : ℤ) → is_writable_whole n ≡ true → (d : DecimalNumber) × (number_of (whole_text n) ≡ Some (num.Finite d)) × (whole_of d ≡ Some n)
whole_read n w =
    let k = written_whole n w in
    let is : IsDecimal k.0 = k.3.good in
    (k.0, ap number_of k.3.text ∙ decimal_number_of (decimal_text k.0) k.0 (printed_number k.0 is) (printed_decimal k.0 is), k.3.back k.2)

by_its_value : (d : DecimalNumber) (n : ℤ) → whole_of d ≡ Some n → by_value (num.Finite d) ≡ value.Whole n
by_its_value d n h = ap (whole_or (num.Finite d)) h

whole_in_metadata : (b : Bool) (d : DecimalNumber) (n : ℤ) → whole_of d ≡ Some n → for_metadata (as_written b (num.Finite d)) ≡ value.Whole n
whole_in_metadata true d n h = ap for_metadata (by_its_value d n h)
whole_in_metadata false d n h = by_its_value d n h

whole_written : (b : Bool) (d : DecimalNumber) (n : ℤ) → b ≡ true → whole_of d ≡ Some n → as_written b (num.Finite d) ≡ value.Whole n
whole_written true d n e h = by_its_value d n h
whole_written false d n e h = absurd cc

pub whole_gives : (n : ℤ) → is_writable_whole n ≡ true → (shape : Shape) (s : Bool) → reading_step (Value-F.Whole n) shape s ≡ true → Gives kind.Number (whole_text n) shape s (value.Whole n)
whole_gives n w Untyped s h =
    let k = whole_read n w in
    (value.Whole n, number_token (whole_text n) (num.Finite k.0) k.1 ∙ ap Ok (whole_written (is_plain (whole_text n)) k.0 n h k.2), refl)
whole_gives n w Metadata s h =
    let k = whole_read n w in
    (as_written (is_plain (whole_text n)) (num.Finite k.0), number_token (whole_text n) (num.Finite k.0) k.1, ap Ok (whole_in_metadata (is_plain (whole_text n)) k.0 n k.2))
whole_gives n w (Typed t) s h =
    let k = whole_read n w in
    let p = no_array t.array (is_element (Value-F.Whole n) t.element) (typed_part s (holds_step (Value-F.Whole n) t) h) in
    let plain : is_plain (whole_text n) ≡ true = whole_plain n (bounded n t.element p.1) in (
      value.Whole n,
      number_token (whole_text n) (num.Finite k.0) k.1 ∙ ap Ok (whole_written (is_plain (whole_text n)) k.0 n plain k.2),
      by_element s t (value.Whole n) (value.Whole n) (λ s. refl) p.0 (element_taken n t.element p.1),
    )
whole_gives n w Dictionary s h = absurd cc

-- whole numbers with few digits
plain_decimal : (n : ℤ) → unsigned_abs n < 10 ^ 35 → whole_text n ≡ signed_decimal n
plain_decimal (pos n) low = plain_magnitude n low
plain_decimal (negsuc n) low = ap (λ t. 45 ∷ t) (plain_magnitude (suc n) low)

fits : (n : ℤ) → unsigned_abs n < 10 ^ 34 → is_some (in_128_bits n) ≡ true
fits (pos n) low = let test : nat_lt n (2 ^ 127) ≡ true = (let l : n < 2 ^ 127 = omega (arith, low) in grind (arith, nat_tests)) in ap (λ b. is_some (if b then Some (pos n) else None)) test
fits (negsuc n) low = let test : nat_lt n (2 ^ 127) ≡ true = (let l : n < 2 ^ 127 = omega (arith, low) in grind (arith, nat_tests)) in ap (λ b. is_some (if b then Some (negsuc n) else None)) test

kept : (n : ℤ) → unsigned_abs n < 10 ^ 34 → is_some (decimal_of_whole n) ≡ true
unfolding decimal_of_whole tens_out
kept n low = cases (unsigned_abs n == 0) refl
  where
    cases : (b : Bool) → (unsigned_abs n == 0) ≡ b → is_some (if b then Some zero_number else if_short (is_below_zero n) (tens_out (unsigned_abs n))) ≡ true
    cases true e = refl
    cases false e =
        let some : 0 < unsigned_abs n = grind (arith, nat_tests) in
        let p = strip 39 (unsigned_abs n) 0 some (omega (arith, low)) in
        let few : p.digits < 10 ^ 34 = omega (arith, low, p.whole, at_least p.digits (10 ^ p.zeros) (ten_some p.zeros)) in
        let test : nat_lt p.digits (10 ^ 34) ≡ true = grind (arith, nat_tests) in
        ap (λ o. is_some (if_short (is_below_zero n) o)) p.is ∙ ap (λ b. is_some {T = DecimalNumber} (if b then Some (record { digits = signed (is_below_zero n) p.digits; exp = pos (0 + p.zeros) }) else None)) test

pub small_writable : (n : ℤ) → unsigned_abs n < 10 ^ 34 → (is_writable_whole n ≡ true) × (whole_text n ≡ signed_decimal n)
small_writable n low = (ap (λ b. b && is_some (decimal_of_whole n)) (fits n low) ∙ kept n low, plain_decimal n (omega (arith, low)))
