-- How far each token goes that is no name.
use Rattle.std.specs.Prelude.{ℕ, ◌<◌, ◌≤◌, ◌+◌, ◌-◌, Bool, true, false, ◌&&◌, ◌==◌, if◌then◌else◌, List, [], ◌∷◌, drop, length, slice_index, Option, Some, None}
use Rattle.std.specs.List.{prefix_len}
use Rattle.sdf_values.specs.NumberTexts.{is_digit, is_sign, is_mark}
use Rattle.usda_lexer.specs.Blanks.{begins}

-- how many digits stand in front
abbrev pub digits_len : List ℕ → ℕ
digits_len = prefix_len is_digit

-- 1 where a sign stands in front
abbrev pub sign_len : List ℕ → ℕ
sign_len [] = 0
sign_len (c ∷ cs) = if is_sign c then 1 else 0

-- digits behind a part of so many bytes; where there are none, 0 for the whole
abbrev pub with_digits : ℕ → List ℕ → ℕ
with_digits before cs = if digits_len cs == 0 then 0 else before + digits_len cs

-- an exponent, where one stands in front: `e` or `E`, a sign or none, and digits
abbrev pub exponent_len : List ℕ → ℕ
exponent_len [] = 0
exponent_len (c ∷ cs) = if is_mark c then with_digits (1 + sign_len cs) (drop (sign_len cs) cs) else 0

-- so many digits, and then a point and digits, where a point stands in front and a digit on one side of it
abbrev pub pointed_len : ℕ → List ℕ → ℕ
pointed_len whole [] = whole
pointed_len whole (c ∷ cs) = if (c == 46) && (if whole == 0 then (if digits_len cs == 0 then false else true) else true) then whole + 1 + digits_len cs else whole

-- digits with a point or none
abbrev pub mantissa_len : List ℕ → ℕ
mantissa_len bytes = pointed_len (digits_len bytes) (drop (digits_len bytes) bytes)

-- these digits and the exponent behind them; 0 where there are none
abbrev pub scaled_len : ℕ → ℕ → List ℕ → ℕ
scaled_len sign mantissa bytes = if mantissa == 0 then 0 else sign + mantissa + exponent_len (drop mantissa bytes)

-- how long a number is whose sign has so many bytes; 0 where no digits follow the sign
abbrev pub behind_sign_len : ℕ → List ℕ → ℕ
behind_sign_len sign bytes = scaled_len sign (mantissa_len bytes) bytes

-- how many bytes in front are a number that is written with digits; 0 where none begins
abbrev pub number_len : List ℕ → ℕ
number_len bytes = behind_sign_len (sign_len bytes) (drop (sign_len bytes) bytes)

-- n bytes of a token were gone over: how long it is up to the first such byte, which has to stand on the same line
abbrev pub closed_line : ℕ → ℕ → List ℕ → Option ℕ
closed_line close n [] = None
closed_line close n (c ∷ cs) = elim (c == close) [ true ↦ Some (n + 1) | false ↦ elim (c == 10) [ true ↦ None | false ↦ closed_line close (n + 1) cs ] ]

-- the same for a string on one line; `escaped` says that a backslash stands before, which takes the meaning of a quote away
abbrev pub closed_string : ℕ → Bool → ℕ → List ℕ → Option ℕ
closed_string quote escaped n [] = None
closed_string quote escaped n (c ∷ cs) =
    elim (c == 10) [
      | true ↦ None
      | false ↦ elim escaped [
        | true ↦ closed_string quote false (n + 1) cs
        | false ↦ elim (c == quote) [ true ↦ Some (n + 1) | false ↦ closed_string quote (c == 92) (n + 1) cs ]
      ]
    ]

-- the same for a string up to the first three quotes in a row; so many stand directly before
abbrev pub closed_tripled : ℕ → Bool → ℕ → ℕ → List ℕ → Option ℕ
closed_tripled quote escaped run n [] = None
closed_tripled quote escaped run n (c ∷ cs) =
    elim escaped [
      | true ↦ closed_tripled quote false 0 (n + 1) cs
      | false ↦ elim (c == quote) [
        | true ↦ elim (run == 2) [ true ↦ Some (n + 1) | false ↦ closed_tripled quote false (run + 1) (n + 1) cs ]
        | false ↦ closed_tripled quote (c == 92) 0 (n + 1) cs
      ]
    ]

-- how many `@` stand in front, two at most
abbrev pub more_ats : List ℕ → ℕ
more_ats [] = 0
more_ats (c ∷ cs) = if c == 64 then (if begins 64 cs then 2 else 1) else 0

-- the same for an asset of the second form: the first three `@` in a row close it, with up to two more
abbrev pub closed_asset : ℕ → ℕ → List ℕ → Option ℕ
closed_asset run n [] = None
closed_asset run n (c ∷ cs) =
    elim (c == 64) [
      | true ↦ elim (run == 2) [ true ↦ Some (n + 1 + more_ats cs) | false ↦ closed_asset (run + 1) (n + 1) cs ]
      | false ↦ closed_asset 0 (n + 1) cs
    ]

-- whether this byte stands in front twice
abbrev pub begins_twice : ℕ → List ℕ → Bool
begins_twice c cs = begins c cs && begins c (drop 1 cs)

-- how long a string is whose first quote stands before; three quotes always open a string that goes over lines
abbrev pub string_len : ℕ → List ℕ → Option ℕ
string_len quote cs = if begins_twice quote cs then closed_tripled quote false 0 3 (drop 2 cs) else closed_string quote false 1 cs

-- how long an asset is whose first `@` stands before; three of them always open the second form
abbrev pub asset_len : List ℕ → Option ℕ
asset_len cs = if begins_twice 64 cs then closed_asset 0 3 (drop 2 cs) else closed_line 64 1 cs

-- a token of n bytes, of which so many stand before these: its last byte is one of these, and ASCII
pub record EndsIn (before : ℕ) (bytes : List ℕ) (n : ℕ) : Type 0 where
  pub some : before < n
  pub inside : n ≤ before + length bytes
  pub ascii : slice_index bytes (n - before - 1) < 128
