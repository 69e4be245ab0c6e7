-- The decimal that a number's text writes.
use Rattle.std.specs.Prelude.{ℕ, zero, suc, ◌+◌, ◌/◌, ◌%◌, ◌^◌, nat_lt, Bool, true, false, ◌&&◌, ◌==◌, ℤ, pos, negsuc, ◌+ℤ◌, List, Option, Some, None}
use Rattle.sdf_values.specs.Numbers.{DecimalNumber, zero_number}
use Rattle.sdf_values.specs.NumberTexts.{is_number, is_negative, signed, before_mark, digits_number, written_exponent}

-- at most 400
abbrev pub is_exponent_in_range : ℤ → Bool
is_exponent_in_range (pos n) = nat_lt n 401
is_exponent_in_range (negsuc n) = nat_lt n 400

-- a decimal of digits that ten does not divide, if they are few enough and the exponent is in its range
abbrev pub if_decimal : Bool → ℕ → ℤ → Option DecimalNumber
if_decimal negative digits exp =
    elim (nat_lt digits (10 ^ 34) && is_exponent_in_range exp) [ true ↦ Some (record { digits = signed negative digits; exp = exp }) | false ↦ None ]

-- the decimal that `n * 10^exp` is, with n's sign; ten is taken out of n as long as it divides it, at most so many times
abbrev pub reduced : ℕ → Bool → ℕ → ℤ → Option DecimalNumber
reduced zero negative n exp = if_decimal negative n exp
reduced (suc more) negative n exp = elim (n % 10 == 0) [ true ↦ reduced more negative (n / 10) (exp +ℤ pos 1) | false ↦ if_decimal negative n exp ]

-- zero has the exponent 0, whatever is written
abbrev pub decimal_from : Bool → ℕ → ℤ → Option DecimalNumber
decimal_from negative n exp = elim (n == 0) [ true ↦ Some zero_number | false ↦ reduced n negative n exp ]

-- the decimal of a number's text; none where the text is no number, or where its number has more than 34 digits or an exponent
-- beyond 400
unfoldable pub decimal_of : List ℕ → Option DecimalNumber
decimal_of t = elim (is_number t) [ true ↦ decimal_from (is_negative t) (digits_number (before_mark t)) (written_exponent t) | false ↦ None ]
