-- Decimal numbers as digits and a power of ten, exactly.
use Rattle.std.specs.Prelude.{ℕ, ◌≡◌, ◌<◌, ◌%◌, ◌^◌, ℤ, pos, negsuc, ◌-ℤ◌, ◌*ℤ◌, ◌≤ℤ◌, unsigned_abs}

-- `digits * 10^exp`
pub record DecimalNumber : Type 0 where
  pub digits : ℤ
  pub exp : ℤ

-- zero in its one form: its exponent is 0
abbrev pub zero_number : DecimalNumber
zero_number = record { digits = pos 0; exp = pos 0 }

-- the number, or 0 where it is negative
abbrev pub natural : ℤ → ℕ
natural (pos n) = n
natural (negsuc n) = 0

-- by how much a is above b, and 0 where it is not
abbrev pub excess : ℤ → ℤ → ℕ
excess a b = natural (a -ℤ b)

-- m * 10^a and n * 10^b are one number: they are equal as multiples of the smaller power
abbrev pub SameNumber : ℤ → ℤ → ℤ → ℤ → Type 0
SameNumber m a n b = m *ℤ pos (10 ^ excess a b) ≡ n *ℤ pos (10 ^ excess b a)

-- The digits are at most 34, the exponent is within 400 of 0, and ten divides the digits of zero alone, whose exponent is 0:
-- each number has one such form at most.
pub record IsDecimal (d : DecimalNumber) : Type 0 where
  pub short : unsigned_abs d.digits < 10 ^ 34
  pub least : negsuc 399 ≤ℤ d.exp
  pub most : d.exp ≤ℤ pos 400
  pub reduced : unsigned_abs d.digits % 10 ≡ 0 → d ≡ zero_number
