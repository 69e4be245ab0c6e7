-- What one token is as a value, and which values of one token a type takes.
use Rattle.std.specs.Prelude.{ℕ, zero, suc, ◌+◌, ◌/◌, ◌%◌, ◌^◌, nat_le, nat_lt, Bool, true, false, ◌||◌, ◌==◌, if◌then◌else◌, List, Option, Some, None, Result, Ok, Err, ℤ, pos, negsuc, ◌+ℤ◌, ◌*ℤ◌, int_le, unsigned_abs, codes}
use Rattle.std.specs.List.{list_all}
use Rattle.std.specs.Cmp.Lexicographic.{pointwise}
use Rattle.sdf_values.specs.Numbers.{DecimalNumber, natural, zero_number}
use Rattle.sdf_values.specs.NumberTexts.{is_digit, is_sign, signed}
use Rattle.sdf_values.specs.Conforms.{whole_bounds, is_between}
use Rattle.sdf_values.specs.declared.decimal.Num.{Num}
use Rattle.sdf_values.specs.declared.decimal.Num.TheVariants as num
use Rattle.sdf_values.specs.declared.refusal.RefusalKind.{RefusalKind}
use Rattle.sdf_values.specs.declared.refusal.RefusalKind.TheVariants.{Syntax, NumberTooLong, NotUtf8, ValueShape, TimeRange}
use Rattle.sdf_values.specs.declared.type_name.ElementType.{ElementType}
use Rattle.sdf_values.specs.declared.type_name.ElementType.TheVariants as element
use Rattle.sdf_values.specs.declared.value.Value.{Value}
use Rattle.sdf_values.specs.declared.value.Value.TheVariants as value
use Rattle.usda_lexer.specs.declared.token.TokenKind.{TokenKind}
use Rattle.usda_lexer.specs.declared.token.TokenKind.TheVariants as kind
use Rattle.usda_lexer.specs.Meanings.{string_text, asset_text, path_text, number_of}
use Rattle.usda_values.specs.PathTexts.{is_path_text}

-- the whole number, where it fits in 128 signed bits
abbrev pub in_128_bits : ℤ → Option ℤ
in_128_bits (pos n) = if nat_lt n (2 ^ 127) then Some (pos n) else None
in_128_bits (negsuc n) = if nat_lt n (2 ^ 127) then Some (negsuc n) else None

-- a power of ten within 128 signed bits: ten to 39 is past them
abbrev pub power_of : ℤ → Option ℤ
power_of (pos e) = if nat_le e 38 then Some (pos (10 ^ e)) else None
power_of (negsuc e) = None

-- digits times a power of ten, within 128 signed bits
abbrev pub times_power : ℤ → Option ℤ → Option ℤ
times_power digits None = None
times_power digits (Some unit) = in_128_bits (digits *ℤ unit)

-- the whole number that a decimal is; none where it has decimals or does not fit in 128 signed bits
unfoldable pub whole_of : DecimalNumber → Option ℤ
whole_of d = times_power d.digits (power_of d.exp)

-- a digit or a sign: what a number without a point and without an exponent is written with
abbrev pub is_plain_byte : ℕ → Bool
is_plain_byte c = is_digit c || is_sign c

-- the text of a number is written without a point and without an exponent; `inf` and `nan` are not
unfoldable pub is_plain : List ℕ → Bool
is_plain text = list_all is_plain_byte text

-- the whole number where there is one, and else the number as it is
abbrev pub whole_or : Num → Option ℤ → Value
whole_or x (Some n) = value.Whole n
whole_or x None = value.Number x

-- a number that is kept as a whole one where it is one
abbrev pub by_value : Num → Value
by_value (num.Finite d) = whole_or (num.Finite d) (whole_of d)
by_value x = value.Number x

-- a number token: whole where it is written as one, if its value is within 128 signed bits
abbrev pub as_written : Bool → Num → Value
as_written true x = by_value x
as_written false x = value.Number x

-- a value as it is taken, or the kind of its refusal
abbrev pub Taken : Type 0
Taken = Result Value RefusalKind

-- the value of a number token; one that is too long is refused
abbrev pub number_value : List ℕ → Option Num → Taken
number_value text None = Err NumberTooLong
number_value text (Some x) = Ok (as_written (is_plain text) x)

-- the value of a string token; one whose escapes are not UTF-8 is refused
abbrev pub string_value : Option (List ℕ) → Taken
string_value None = Err NotUtf8
string_value (Some text) = Ok (value.Text text)

-- the value of a path token; a text that is no path is refused
abbrev pub path_value : List ℕ → Taken
path_value text = if is_path_text text then Ok (value.PathText text) else Err Syntax

-- the value of a name: `None` is the block, any other name stands for itself
abbrev pub word_value : List ℕ → Value
word_value text = if pointwise ◌==◌ text (codes "None") then value.Block else value.Word text

-- the value of one token
unfoldable pub token_value : TokenKind → List ℕ → Taken
token_value kind.Number text = number_value text (number_of text)
token_value kind.String text = string_value (string_text text)
token_value kind.Asset text = Ok (value.Asset (asset_text text))
token_value kind.Path text = path_value (path_text text)
token_value kind.Name text = Ok (word_value text)
token_value (kind.Mark m) text = Err Syntax

-- so many units of 10^-18, where that is a time: at most 10^12 whole units of time away from 0
abbrev pub if_time : ℤ → Option ℤ
if_time units = if nat_le (unsigned_abs units) (10 ^ 30) then Some units else None

-- a decimal as a time; none where it has more than 18 decimals or is more than 10^12 away from 0
unfoldable pub time_of : DecimalNumber → Option ℤ
time_of d = if int_le (negsuc 17) d.exp then if_time (d.digits *ℤ pos (10 ^ natural (d.exp +ℤ pos 18))) else None

-- the time that a number is; `inf` and `nan` are none
unfoldable pub finite_time : Num → Option ℤ
finite_time (num.Finite d) = time_of d
finite_time x = None

-- the number is negative
abbrev pub is_below_zero : ℤ → Bool
is_below_zero (pos n) = false
is_below_zero (negsuc n) = true

-- a number without the tens that divide it, and how many these are, if they are fewer than so many
abbrev pub stripped : ℕ → ℕ → ℕ → Option (ℕ × ℕ)
stripped zero n tens = None
stripped (suc more) n tens = elim (n % 10 == 0) [ true ↦ stripped more (n / 10) (tens + 1) | false ↦ Some (n, tens) ]

-- a number of 128 bits has fewer than 39 tens
unfoldable pub tens_out : ℕ → Option (ℕ × ℕ)
tens_out n = stripped 39 n 0

-- digits, and the tens taken out of them, as a decimal; none where the digits are more than 34
abbrev pub if_short : Bool → Option (ℕ × ℕ) → Option DecimalNumber
if_short negative None = None
if_short negative (Some s) = if nat_lt s.0 (10 ^ 34) then Some (record { digits = signed negative s.0; exp = pos s.1 }) else None

-- a whole number as a decimal; none where it has more than 34 digits
unfoldable pub decimal_of_whole : ℤ → Option DecimalNumber
decimal_of_whole n = if unsigned_abs n == 0 then Some zero_number else if_short (is_below_zero n) (tens_out (unsigned_abs n))

-- the words `true` and `false` are truth values
abbrev pub take_bool_word : List ℕ → Taken
take_bool_word text = if pointwise ◌==◌ text (codes "true") then Ok (value.Bool true) else if pointwise ◌==◌ text (codes "false") then Ok (value.Bool false) else Err ValueShape

-- 0 and 1 are truth values
abbrev pub take_bit : ℤ → Taken
take_bit (pos n) = if n == 0 then Ok (value.Bool false) else if n == 1 then Ok (value.Bool true) else Err ValueShape
take_bit (negsuc n) = Err ValueShape

-- a whole number, within the bounds of its type
abbrev pub take_whole : ElementType → ℤ → Taken
take_whole e n = if is_between (whole_bounds e) n then Ok (value.Whole n) else Err ValueShape

-- a whole number as a `half`, `float` or `double`, which are kept exact; one of more than 34 digits is refused
abbrev pub take_decimal : Option DecimalNumber → Taken
take_decimal (Some d) = Ok (value.Number (num.Finite d))
take_decimal None = Err NumberTooLong

-- a time; a number that is none is refused
abbrev pub take_time : Option ℤ → Taken
take_time (Some t) = Ok (value.Time t)
take_time None = Err TimeRange

-- a whole number as a time; one of more than 34 digits is out of range
abbrev pub take_whole_time : Option DecimalNumber → Taken
take_whole_time (Some d) = take_time (time_of d)
take_whole_time None = Err TimeRange

-- a `bool` is `true`, `false`, 1 or 0
abbrev pub take_bool : Value → Taken
take_bool (value.Bool b) = Ok (value.Bool b)
take_bool (value.Word text) = take_bool_word text
take_bool (value.Whole n) = take_bit n
take_bool v = Err ValueShape

-- a `half`, `float` or `double` is any number, whole ones, `inf` and `nan` among them
abbrev pub take_real : Value → Taken
take_real (value.Number x) = Ok (value.Number x)
take_real (value.Whole n) = take_decimal (decimal_of_whole n)
take_real v = Err ValueShape

-- a number as a time; `inf` and `nan` are none
abbrev pub take_number_time : Num → Taken
take_number_time (num.Finite d) = take_time (time_of d)
take_number_time x = Err TimeRange

-- a `timecode` is a number that is a time
abbrev pub take_timecode : Value → Taken
take_timecode (value.Time t) = Ok (value.Time t)
take_timecode (value.Number x) = take_number_time x
take_timecode (value.Whole n) = take_whole_time (decimal_of_whole n)
take_timecode v = Err ValueShape

-- a `string` or a `token` is a string, and no word
abbrev pub take_text : Value → Taken
take_text (value.Text s) = Ok (value.Text s)
take_text v = Err ValueShape

-- an `asset` is an asset, and no string
abbrev pub take_asset : Value → Taken
take_asset (value.Asset s) = Ok (value.Asset s)
take_asset v = Err ValueShape

-- a type of whole numbers takes no number with a point or an exponent
abbrev pub take_whole_value : ElementType → Value → Taken
take_whole_value e (value.Whole n) = take_whole e n
take_whole_value e v = Err ValueShape

-- a value of one token as one of a type that is no array and no tuple; equal in meaning, or the kind of its refusal
abbrev pub take_element : ElementType → Value → Taken
take_element element.Bool v = take_bool v
take_element (element.Real p) v = take_real v
take_element element.Timecode v = take_timecode v
take_element element.String v = take_text v
take_element element.Token v = take_text v
take_element element.Asset v = take_asset v
take_element e v = take_whole_value e v
