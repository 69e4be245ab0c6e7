-- Times in units of 10^-18, and offsets of layers.
use Rattle.std.specs.Prelude.{Bool, false, ◌&&◌, ◌==◌, ◌≤◌, ◌^◌, ℤ, pos, negsuc, ◌+ℤ◌, ◌*ℤ◌, ◌≤ℤ◌, unsigned_abs}
use Rattle.sdf_values.specs.Numbers.{DecimalNumber, SameNumber}

-- within 10^12 whole units of time of 0
abbrev pub IsTime : ℤ → Type 0
IsTime units = unsigned_abs units ≤ 10 ^ 30

-- a decimal and a time are one number
abbrev pub IsTimeOf : DecimalNumber → ℤ → Type 0
IsTimeOf d units = SameNumber d.digits d.exp units (negsuc 17)

-- time t becomes `t * scale + offset`
pub record Offset : Type 0 where
  pub offset : ℤ
  pub scale : ℤ

-- a scale from 1 to a million, an offset within a thousand million of 0
pub record IsOffset (o : Offset) : Type 0 where
  pub scale_least : pos 1 ≤ℤ o.scale
  pub scale_most : o.scale ≤ℤ pos 1000000
  pub offset_within : unsigned_abs o.offset ≤ 1000000000

-- the offset that changes no time
abbrev pub identity : Offset
identity = record { offset = pos 0; scale = pos 1 }

-- an offset that moves no time
abbrev pub is_zero : ℤ → Bool
is_zero (pos n) = n == 0
is_zero (negsuc n) = false

-- a scale that stretches no time
abbrev pub is_one : ℤ → Bool
is_one (pos n) = n == 1
is_one (negsuc n) = false

-- the offset changes no time
abbrev pub is_identity : Offset → Bool
is_identity o = is_zero o.offset && is_one o.scale

-- the inner offset and then the outer one
abbrev pub composed : Offset → Offset → Offset
composed inner outer = record { offset = (inner.offset *ℤ outer.scale) +ℤ outer.offset; scale = inner.scale *ℤ outer.scale }

-- a time in units of 10^-18 through an offset
abbrev pub mapped : Offset → ℤ → ℤ
mapped o units = (units *ℤ o.scale) +ℤ (o.offset *ℤ pos (10 ^ 18))
