-- The canonical text of values.
use Rattle.std.specs.Prelude.{ℕ, zero, suc, Bool, true, false, if◌then◌else◌, ◌+◌, ◌-◌, ◌*◌, ◌/◌, ◌%◌, ◌^◌, ◌==◌, ◌||◌, ◌&&◌, nat_le, nat_lt, min, List, [], ◌∷◌, ◌++◌, replicate, codes, ℤ, pos, negsuc, unsigned_abs}
use Rattle.std.specs.List.{list_any}
use Rattle.std.specs.Fmt.{decimal, signed_decimal}
use Rattle.sdf_values.specs.Numbers.{DecimalNumber}
use Rattle.sdf_values.specs.Scales.{Offset, is_identity}
use Rattle.usd_names.specs.Names.{is_name, is_identifier}
use Rattle.sdf_values.specs.TypeNames.{type_text}
use Rattle.sdf_values.specs.declared.decimal.Num.{Num}
use Rattle.sdf_values.specs.declared.decimal.Num.TheVariants as num
use Rattle.sdf_values.specs.declared.value.DictType.{DictType}
use Rattle.sdf_values.specs.declared.value.DictType.TheVariants as dict_type
use Rattle.sdf_values.specs.declared.value.Value.{Value, fold-Value}
use Rattle.sdf_values.specs.declared.value.Value.TheOpen.{Value-F, DictItem-F}

-- a `-` before what is negative, and never a `+`
abbrev pub sign_text : ℤ → List ℕ
sign_text (pos n) = []
sign_text (negsuc n) = codes "-"

-- the first k digits behind a point, of a rest in units of 10^-k, without the zeros at the end
unfoldable pub fraction_digits : ℕ → ℕ → List ℕ
fraction_digits zero f = []
fraction_digits (suc k) f = elim (f == 0) [ true ↦ [] | false ↦ (48 + f / 10 ^ k) ∷ fraction_digits k (f % 10 ^ k) ]

-- a point and the digits behind it; where no rest is, no point
abbrev pub fraction_text : ℕ → ℕ → List ℕ
fraction_text k f = if f == 0 then [] else 46 ∷ fraction_digits k f

-- m * 10^-k: the whole part, and where there is a rest a point and its digits
abbrev pub point_text : ℕ → ℕ → List ℕ
point_text k m = decimal (m / 10 ^ k) ++ fraction_text k (m % 10 ^ k)

-- m times a power of ten: for exponents from -34 to 34 plain digits, else the digits and the exponent
abbrev pub scaled_text : ℕ → ℤ → List ℕ
scaled_text m (pos e) = decimal m ++ (if nat_le e 34 then replicate e 48 else 101 ∷ decimal e)
scaled_text m (negsuc e) = if nat_lt e 34 then point_text (suc e) m else decimal m ++ codes "e-" ++ decimal (suc e)

-- a finite number: its sign, and its digits with a point or an exponent where its power of ten asks for one
abbrev pub decimal_text : DecimalNumber → List ℕ
decimal_text d = sign_text d.digits ++ scaled_text (unsigned_abs d.digits) d.exp

-- a number; those that are not finite are `inf`, `-inf` and `nan`
abbrev pub num_text : Num → List ℕ
num_text (num.Finite d) = decimal_text d
num_text num.Inf = codes "inf"
num_text num.NegInf = codes "-inf"
num_text num.Nan = codes "nan"

-- a time in units of 10^-18
abbrev pub time_text : ℤ → List ℕ
time_text t = sign_text t ++ point_text 18 (unsigned_abs t)

-- both the offset and the scale stand between the brackets, unless together they change no time
abbrev pub unless_identity : Bool → Offset → List ℕ
unless_identity true o = []
unless_identity false o = codes " (offset = " ++ signed_decimal o.offset ++ codes "; scale = " ++ signed_decimal o.scale ++ codes ")"

-- an offset behind an item; the one that changes no time is not written
abbrev pub offset_text : Offset → List ℕ
offset_text o = unless_identity (is_identity o) o

-- A whole number prints as the decimal that it is, so with an exponent where more than 34 zeros end it. The list has the
-- counts of zeros to be tried, the greatest first.
abbrev pub whole_scaled : List ℕ → ℕ → List ℕ
whole_scaled [] m = decimal m
whole_scaled (z ∷ zs) m = if m % 10 ^ z == 0 then decimal (m / 10 ^ z) ++ 101 ∷ decimal z else whole_scaled zs m

-- a whole number without its sign: 35 zeros or more at its end become an exponent, and zero has none
abbrev pub magnitude_text : ℕ → List ℕ
magnitude_text m = if m == 0 then decimal m else whole_scaled (38 ∷ 37 ∷ 36 ∷ 35 ∷ []) m

-- a whole number with its sign, without a point
abbrev pub whole_text : ℤ → List ℕ
whole_text n = sign_text n ++ magnitude_text (unsigned_abs n)

-- a hexadecimal digit in lower case
abbrev pub hex_digit : ℕ → ℕ
hex_digit n = if nat_lt n 10 then 48 + n else 87 + n

-- what stands in no string as it is: the backslash, the quote and control characters
abbrev pub is_escaped : ℕ → Bool
is_escaped c = (c == 92) || ((c == 34) || (nat_lt c 32 || (c == 127)))

-- the escape of a character below 128 that has one
abbrev pub escape : ℕ → List ℕ
escape c =
    if c == 92 then codes "\\\\"
    else if c == 34 then codes "\\\""
    else if c == 10 then codes "\\n"
    else if c == 13 then codes "\\r"
    else if c == 9 then codes "\\t"
    else 92 ∷ 120 ∷ hex_digit (c / 16) ∷ hex_digit (c % 16) ∷ []

-- the bytes of a string, those that may not stand there by their escapes
abbrev pub escaped : List ℕ → List ℕ
escaped [] = []
escaped (c ∷ t) = (if is_escaped c then escape c else c ∷ []) ++ escaped t

-- a string between quotes
abbrev pub quoted : List ℕ → List ℕ
quoted t = 34 ∷ escaped t ++ 34 ∷ []

-- the short form cannot hold the asset's name: it has an `@` or a line feed
abbrev pub is_long_asset : List ℕ → Bool
is_long_asset t = list_any (λ c. (c == 64) || (c == 10)) t

-- an asset between `@`, or between `@@@` where its name has an `@` or a line feed
abbrev pub asset_text : List ℕ → List ℕ
asset_text t = if is_long_asset t then codes "@@@" ++ t ++ codes "@@@" else codes "@" ++ t ++ codes "@"

-- a dictionary's key that stands for itself: an identifier, and no word that is a number; names joined by colons are none
abbrev pub is_plain_key : List ℕ → Bool
is_plain_key t = is_name t && is_identifier t

-- a dictionary's key: a string where it does not stand for itself
abbrev pub key_text : List ℕ → List ℕ
key_text t = if is_plain_key t then t else quoted t

-- the type of an entry: a value type, or the word `dictionary`
abbrev pub dict_type_text : DictType → List ℕ
dict_type_text (dict_type.Plain t) = type_text t
dict_type_text dict_type.Dictionary = codes "dictionary"

-- the texts of the members that follow another, each behind a comma and a blank
abbrev pub more_listed : List (ℕ → List ℕ) → ℕ → List ℕ
more_listed [] indent = []
more_listed (f ∷ fs) indent = codes ", " ++ f indent ++ more_listed fs indent

-- what stands between the brackets
abbrev pub listed : List (ℕ → List ℕ) → ℕ → List ℕ
listed [] indent = []
listed (f ∷ fs) indent = f indent ++ more_listed fs indent

-- what stands from a member on, the first one or a later one
abbrev pub listed_from : Bool → List (ℕ → List ℕ) → ℕ → List ℕ
listed_from true = listed
listed_from false = more_listed

-- four blanks a level
abbrev pub blanks : ℕ → List ℕ
blanks indent = replicate (4 * indent) 32

-- the entries, each on a line of its own
abbrev pub lines : List (ℕ → List ℕ) → ℕ → List ℕ
lines [] indent = []
lines (f ∷ fs) indent = blanks indent ++ f indent ++ codes "\n" ++ lines fs indent

-- one level further in, which stands still at the last number
abbrev pub deeper : ℕ → ℕ
deeper indent = min (indent + 1) (2 ^ 64 - 1)

-- a dictionary between braces: an entry on each line, one level further in
abbrev pub dict_text : List (ℕ → List ℕ) → ℕ → List ℕ
dict_text fs indent = codes "{\n" ++ lines fs (deeper indent) ++ blanks indent ++ codes "}"

-- one value, with the printer of each value inside it in its place
abbrev pub print_step : Value-F (ℕ → List ℕ) (ℕ → List ℕ) → ℕ → List ℕ
print_step (Value-F.Bool b) indent = if b then codes "true" else codes "false"
print_step (Value-F.Whole n) indent = whole_text n
print_step (Value-F.Number x) indent = num_text x
print_step (Value-F.Time t) indent = time_text t
print_step (Value-F.Text t) indent = quoted t
print_step (Value-F.Asset t) indent = asset_text t
print_step (Value-F.PathText t) indent = codes "<" ++ t ++ codes ">"
print_step (Value-F.Word t) indent = t
print_step (Value-F.Tuple fs) indent = codes "(" ++ listed fs indent ++ codes ")"
print_step (Value-F.Array fs) indent = codes "[" ++ listed fs indent ++ codes "]"
print_step (Value-F.Dict fs) indent = dict_text fs indent
print_step Value-F.Block indent = codes "None"

-- an entry of a dictionary
abbrev pub print_item : DictItem-F (ℕ → List ℕ) (ℕ → List ℕ) → ℕ → List ℕ
print_item item indent = dict_type_text item.ty ++ codes " " ++ key_text item.key ++ codes " = " ++ item.value indent

-- the text of a value that stands so many levels in
abbrev pub print : Value → ℕ → List ℕ
print = fold-Value (ℕ → List ℕ) (ℕ → List ℕ) print_step print_item
