-- Which values can be written, so that their texts are the tokens that are meant.
use Rattle.std.specs.Prelude.{ℕ, Bool, true, false, ◌&&◌, ◌||◌, ◌+◌, ◌%◌, ◌^◌, ◌==◌, nat_le, nat_lt, not, List, [], ◌∷◌, ℤ, pos, negsuc, unsigned_abs}
use Rattle.std.specs.List.{list_any}
use Rattle.std.specs.Option.{is_some}
use Rattle.std.specs.Str.{is_utf8}
use Rattle.usd_names.specs.Names.{is_name}
use Rattle.sdf_values.specs.Numbers.{DecimalNumber}
use Rattle.sdf_values.specs.Proper.{all_true}
use Rattle.sdf_values.specs.declared.decimal.Num.{Num}
use Rattle.sdf_values.specs.declared.decimal.Num.TheVariants as num
use Rattle.sdf_values.specs.declared.value.DictItem.{DictItem, fold-DictItem}
use Rattle.sdf_values.specs.declared.value.Value.{Value, fold-Value}
use Rattle.sdf_values.specs.declared.value.Value.TheOpen.{Value-F, DictItem-F}
use Rattle.usda_lexer.specs.Decimals.{is_exponent_in_range}
use Rattle.usda_values.specs.Scalars.{in_128_bits, decimal_of_whole}

-- never three `@` in a row, where so many stand directly before
abbrev pub has_short_ats : ℕ → List ℕ → Bool
has_short_ats run [] = true
has_short_ats run (c ∷ cs) = elim (c == 64) [ true ↦ elim (run == 2) [ true ↦ false | false ↦ has_short_ats (run + 1) cs ] | false ↦ has_short_ats 0 cs ]

-- The name of an asset, which may have two `@` in a row, at its ends too, and line feeds, but never three.
abbrev pub is_writable_asset : List ℕ → Bool
is_writable_asset t = has_short_ats 0 t

-- a text on one line without `>`
abbrev pub is_writable_path : List ℕ → Bool
is_writable_path t = not (list_any (λ c. (c == 62) || (c == 10)) t)

-- the exponent is 0
abbrev pub is_zero_exponent : ℤ → Bool
is_zero_exponent (pos n) = n == 0
is_zero_exponent (negsuc n) = false

-- the one form of a decimal number: at most 34 digits, which ten does not divide, and an exponent within 400 of 0; zero has the
-- exponent 0
abbrev pub is_decimal : DecimalNumber → Bool
is_decimal d =
    nat_lt (unsigned_abs d.digits) (10 ^ 34) && (is_exponent_in_range d.exp
    && (not (unsigned_abs d.digits % 10 == 0) || ((unsigned_abs d.digits == 0) && is_zero_exponent d.exp)))

-- `inf` and `nan` can be written, and a decimal in its one form
abbrev pub is_writable_number : Num → Bool
is_writable_number (num.Finite d) = is_decimal d
is_writable_number x = true

-- a whole number of 128 bits with at most 34 digits, but for zeros at its end
abbrev pub is_writable_whole : ℤ → Bool
is_writable_whole n = is_some (in_128_bits n) && is_some (decimal_of_whole n)

-- one value, with whether each value inside it can be written in its place
abbrev pub writable_step : Value-F Bool Bool → Bool
writable_step (Value-F.Bool b) = true
writable_step (Value-F.Whole n) = is_writable_whole n
writable_step (Value-F.Number x) = is_writable_number x
writable_step (Value-F.Time t) = nat_le (unsigned_abs t) (10 ^ 30)
writable_step (Value-F.Text t) = is_utf8 t
writable_step (Value-F.Asset t) = is_writable_asset t
writable_step (Value-F.PathText t) = is_writable_path t
writable_step (Value-F.Word t) = is_utf8 t && is_name t
writable_step (Value-F.Tuple bs) = all_true bs
writable_step (Value-F.Array bs) = all_true bs
writable_step (Value-F.Dict bs) = all_true bs
writable_step Value-F.Block = true

-- the key of an entry is UTF-8, since it is printed as a name or a string, and its value can be written
abbrev pub writable_item : DictItem-F Bool Bool → Bool
writable_item item = is_utf8 item.key && item.value

-- The canonical text of the value is tokens that say its parts: its texts are UTF-8, its words are names, its numbers have at most 34
-- digits, and its assets and paths do not have in them what closes them.
abbrev pub is_writable : Value → Bool
is_writable = fold-Value Bool Bool writable_step writable_item

-- the entry can be written
abbrev pub is_writable_item : DictItem → Bool
is_writable_item = fold-DictItem Bool Bool writable_step writable_item
