-- Offset and scale of a reference, a payload or a sublayer.
use Rattle.std.specs.Prelude.{ℕ, ◌==◌, nat_le, int_le, ◌&&◌, if◌then◌else◌, ℤ, pos, unsigned_abs, List, codes, Option, Some, None, Result, Ok, Err}
use Rattle.std.specs.Cmp.Lexicographic.{pointwise}
use Rattle.sdf_values.specs.Scales.{Offset}
pub use Rattle.sdf_values.specs.Scales.{identity}
use Rattle.sdf_values.specs.declared.decimal.Num.{Num}
use Rattle.sdf_values.specs.declared.decimal.Num.TheVariants.{Finite}
use Rattle.sdf_values.specs.declared.refusal.RefusalKind.{RefusalKind}
use Rattle.sdf_values.specs.declared.refusal.RefusalKind.TheVariants.{NumberTooLong, OffsetRange, ReferenceData}
use Rattle.usda_lexer.specs.Meanings.{number_of}
use Rattle.usda_values.specs.Scalars.{whole_of}
use Rattle.usda_lists.specs.declared.offset.OffsetKey.{OffsetKey}
use Rattle.usda_lists.specs.declared.offset.OffsetKey.TheVariants as key

-- `offset` or `scale`; any other key is refused
abbrev pub offset_key : List ℕ → Result OffsetKey RefusalKind
offset_key word = if pointwise ◌==◌ word (codes "offset") then Ok key.Offset else if pointwise ◌==◌ word (codes "scale") then Ok key.Scale else Err ReferenceData

-- a whole number; `inf`, `nan` and numbers with decimals are none
abbrev pub whole_number : Num → Option ℤ
whole_number (Finite d) = whole_of d
whole_number x = None

-- an offset is within a thousand million of 0
abbrev pub with_offset : ℤ → Offset → Result Offset RefusalKind
with_offset n o = if nat_le (unsigned_abs n) 1000000000 then Ok (record o { offset = n }) else Err OffsetRange

-- a scale is from 1 to a million
abbrev pub with_scale : ℤ → Offset → Result Offset RefusalKind
with_scale n o = if int_le (pos 1) n && int_le n (pos 1000000) then Ok (record o { scale = n }) else Err OffsetRange

-- the value of a key; a later one of the same key replaces it
abbrev pub with_part : OffsetKey → Option ℤ → Offset → Result Offset RefusalKind
with_part k None o = Err OffsetRange
with_part key.Offset (Some n) o = with_offset n o
with_part key.Scale (Some n) o = with_scale n o

-- a number that is too long is refused before it is asked whether it is whole and within its bounds
abbrev pub with_number : OffsetKey → Option Num → Offset → Result Offset RefusalKind
with_number k None o = Err NumberTooLong
with_number k (Some x) o = with_part k (whole_number x) o

-- the number token of a key
abbrev pub offset_act : OffsetKey → List ℕ → Offset → Result Offset RefusalKind
offset_act k text o = with_number k (number_of text) o
