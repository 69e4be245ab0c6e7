-- Values whose numbers are such as a program holds them.
use Rattle.std.specs.Prelude.{Bool, true, not, ◌&&◌, ◌||◌, ◌==◌, ◌%◌, ◌^◌, nat_le, nat_lt, pos, negsuc, int_le, unsigned_abs}
use Rattle.std.specs.Option.{is_some}
use Rattle.sdf_values.specs.Numbers.{DecimalNumber}
use Rattle.sdf_values.specs.Proper.{all_true}
use Rattle.sdf_values.specs.declared.decimal.Num.{Num}
use Rattle.sdf_values.specs.declared.decimal.Num.TheVariants as num
use Rattle.sdf_values.specs.declared.value.DictItem.{DictItem, fold-DictItem}
use Rattle.sdf_values.specs.declared.value.Value.{Value, fold-Value}
use Rattle.sdf_values.specs.declared.value.Value.TheOpen.{Value-F, DictItem-F}
use Rattle.usda_values.specs.Scalars.{in_128_bits}

-- zero, whose exponent is 0
abbrev pub is_zero : DecimalNumber → Bool
is_zero d = (unsigned_abs d.digits == 0) && (unsigned_abs d.exp == 0)

-- the one form of a decimal: at most 34 digits, an exponent within 400 of 0, and ten divides the digits of zero alone
abbrev pub is_form : DecimalNumber → Bool
is_form d = nat_lt (unsigned_abs d.digits) (10 ^ 34) && (int_le (negsuc 399) d.exp && (int_le d.exp (pos 400) && (not (unsigned_abs d.digits % 10 == 0) || is_zero d)))

-- `inf`, `-inf` and `nan`, and decimals in their one form
abbrev pub is_held_number : Num → Bool
is_held_number (num.Finite d) = is_form d
is_held_number x = true

-- one value, with whether each value inside it is held in its place
abbrev pub held_step : Value-F Bool Bool → Bool
held_step (Value-F.Whole n) = is_some (in_128_bits n)
held_step (Value-F.Number x) = is_held_number x
held_step (Value-F.Time units) = nat_le (unsigned_abs units) (10 ^ 30)
held_step (Value-F.Tuple bs) = all_true bs
held_step (Value-F.Array bs) = all_true bs
held_step (Value-F.Dict bs) = all_true bs
held_step v = true

-- an entry holds its numbers as its value does
abbrev pub held_item : DictItem-F Bool Bool → Bool
held_item item = item.value

-- whole numbers within 128 signed bits, decimals in their one form, times within 10^12 whole units of 0
abbrev pub is_held : Value → Bool
is_held = fold-Value Bool Bool held_step held_item

-- the numbers in the value of an entry are held so
abbrev pub is_held_item : DictItem → Bool
is_held_item = fold-DictItem Bool Bool held_step held_item
