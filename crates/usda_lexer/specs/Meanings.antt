-- What the text of a token means.
use Rattle.std.specs.Prelude.{ℕ, zero, suc, ◌+◌, ◌-◌, ◌*◌, ◌%◌, nat_le, Bool, true, false, ◌&&◌, ◌||◌, ◌==◌, if◌then◌else◌, List, [], ◌∷◌, take, drop, length, slice_index, Option, Some, None, codes}
use Rattle.std.specs.Option.{option_map}
use Rattle.std.specs.Cmp.Lexicographic.{pointwise}
use Rattle.sdf_values.specs.declared.decimal.Num.{Num}
use Rattle.sdf_values.specs.declared.decimal.Num.TheVariants.{Finite, Inf, NegInf, Nan}
use Rattle.usda_lexer.specs.Decimals.{decimal_of}
use Rattle.std.specs.Str.{is_utf8}
use Rattle.usda_lexer.specs.declared.escapes.Escape.{Escape}
use Rattle.usda_lexer.specs.Blanks.{begins}
use Rattle.usda_lexer.specs.Forms.{begins_twice}

-- the value of a hexadecimal digit
abbrev pub hexadecimal : ℕ → Option ℕ
hexadecimal c =
    if nat_le 48 c && nat_le c 57 then Some (c - 48)
    else if nat_le 97 c && nat_le c 102 then Some (c - 87)
    else if nat_le 65 c && nat_le c 70 then Some (c - 55)
    else None

-- `0` to `7`
abbrev pub is_octal : ℕ → Bool
is_octal c = nat_le 48 c && nat_le c 55

-- `\x` is followed by two hexadecimal digits; else `x` stands for itself
abbrev pub two_digits : Option ℕ → Option ℕ → Escape
two_digits (Some h) (Some l) = record { byte = h * 16 + l; len = 3 }
two_digits (Some h) None = record { byte = 120; len = 1 }
two_digits None l = record { byte = 120; len = 1 }

-- the value of the hexadecimal digit in front, where one stands there
abbrev pub digit_at : List ℕ → Option ℕ
digit_at [] = None
digit_at (c ∷ cs) = hexadecimal c

-- one to three octal digits, as many as stand there; so many were read, with this value, which counts modulo 256
abbrev pub octal : ℕ → ℕ → List ℕ → Escape
octal len value [] = record { byte = value % 256; len = len }
octal len value (c ∷ cs) = if is_octal c && nat_le len 2 then octal (len + 1) (value * 8 + (c - 48)) cs else record { byte = value % 256; len = len }

-- the letters that stand for control characters, as in C; any other byte stands for itself
abbrev pub letter : ℕ → ℕ
letter c =
    if c == 97 then 7 else if c == 98 then 8 else if c == 102 then 12 else if c == 110 then 10
    else if c == 114 then 13 else if c == 116 then 9 else if c == 118 then 11 else c

-- the escape whose backslash stands before a byte
abbrev pub escape : ℕ → List ℕ → Escape
escape c cs =
    if c == 120 then two_digits (digit_at cs) (digit_at (drop 1 cs))
    else if is_octal c then octal 1 (c - 48) cs
    else record { byte = letter c; len = 1 }

-- the bytes that a text with escapes stands for; `taken` bytes in front belong to an escape, and `after` says that a backslash
-- stands before
abbrev pub unescaped : ℕ → Bool → List ℕ → List ℕ
unescaped taken after [] = []
unescaped (suc taken) after (c ∷ cs) = unescaped taken false cs
unescaped zero true (c ∷ cs) = (escape c cs).byte ∷ unescaped ((escape c cs).len - 1) false cs
unescaped zero false (c ∷ cs) = elim (c == 92) [ true ↦ unescaped 0 true cs | false ↦ c ∷ unescaped 0 false cs ]

-- what stands between the first so many bytes and the last so many
abbrev pub inside : ℕ → List ℕ → List ℕ
inside n bytes = take (length bytes - n - n) (drop n bytes)

-- three quotes or one, as they stand in front
abbrev pub quotes_len : List ℕ → ℕ
quotes_len [] = 0
quotes_len (c ∷ cs) = if begins_twice c cs then 3 else 1

-- the bytes that a string token stands for
abbrev pub string_bytes_of : List ℕ → List ℕ
string_bytes_of text = unescaped 0 false (inside (quotes_len text) text)

-- the bytes as a text, where they are UTF-8
abbrev pub if_utf8 : List ℕ → Option (List ℕ)
if_utf8 bytes = if is_utf8 bytes then Some bytes else None

-- the text of a string token; none where its escapes make bytes that are not UTF-8
unfoldable pub string_text : List ℕ → Option (List ℕ)
string_text text = if_utf8 (string_bytes_of text)

-- the text without so many delimiters on both sides; where the last of them are not there, the whole text
abbrev pub trimmed : ℕ → ℕ → List ℕ → List ℕ
trimmed close n text = if nat_le (n + n) (length text) && (slice_index text (length text - n) == close) then inside n text else text

-- the text of an asset token: without its `@`, or without three of them on both sides
unfoldable pub asset_text : List ℕ → List ℕ
asset_text text = if begins 64 text then (if begins_twice 64 (drop 1 text) then trimmed 64 3 text else trimmed 64 1 text) else text

-- the text of a path token, without its brackets
unfoldable pub path_text : List ℕ → List ℕ
path_text text = if begins 60 text then trimmed 62 1 text else text

-- the number of a number token: `inf`, `nan`, one of them behind a `-`, or a decimal
unfoldable pub number_of : List ℕ → Option Num
number_of text =
    if pointwise ◌==◌ text (codes "inf") then Some Inf
    else if pointwise ◌==◌ text (codes "-inf") then Some NegInf
    else if pointwise ◌==◌ text (codes "nan") || pointwise ◌==◌ text (codes "-nan") then Some Nan
    else option_map Finite (decimal_of text)
