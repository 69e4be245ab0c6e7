-- The places in a number's text, and how its digits are kept.
use Rattle.std.specs.Prelude.{ℕ, ℤ, pos, neg_ℤ, ◌≤ℤ◌, ◌≡◌, ◌≢◌, ◌<◌, ◌≤◌, ◌*◌, ◌%◌, ◌^◌, Bool, true, false, List}
use Rattle.sdf_values.specs.Numbers.{DecimalNumber, IsDecimal, SameNumber}
use Rattle.sdf_values.specs.NumberTexts.{is_number, is_unsigned, ends_whole, starts_fraction, ends_fraction, is_exponent, is_some_digits, is_digits}
use Rattle.sdf_values.specs.declared.parse.Place.{Place}
use Rattle.sdf_values.specs.declared.parse.Place.TheVariants as place
use Rattle.sdf_values.specs.declared.parse.Significant.{Significant}

-- whether a text may stand at a place, up to the end of the number
abbrev pub accepts : Place → List ℕ → Bool
accepts place.Start = is_number
accepts place.Signed = is_unsigned
accepts place.Whole = ends_whole
accepts place.Point = starts_fraction
accepts place.Fraction = ends_fraction
accepts place.Mark = is_exponent
accepts place.MarkSigned = is_some_digits
accepts place.Exponent = is_digits

-- n has more than 34 digits before the zeros that end it
pub record IsLong (n : ℕ) : Type 0 where
  pub digits : ℕ
  pub zeros : ℕ
  pub whole : n ≡ digits * 10 ^ zeros
  pub last : digits % 10 ≢ 0
  pub many : 10 ^ 34 ≤ digits

-- at most 34 digits and the zeros that end a number
pub record IsShort (n : ℕ) (s : Significant) : Type 0 where
  pub whole : n ≡ s.digits * 10 ^ s.zeros
  pub few : s.digits < 10 ^ 34
  pub last : s.digits % 10 ≡ 0 → s.digits ≡ 0
  pub none : s.digits ≡ 0 → s.zeros ≡ 0

-- what is kept of the digits of a number: at most 34 of them and the zeros behind, or that they are too many
pub record Keeps (s : Significant) (n : ℕ) : Type 0 where
  pub short : s.is_long ≡ false → IsShort n s
  pub long : s.is_long ≡ true → IsLong n

-- An exponent of a text, and the one that stands for it where it may be far from 0: they are the same, or both too far from
-- 0 for any text's zeros to make up.
pub data IsNear (written kept : ℤ) : Type 0 where
  same : written ≡ kept → IsNear written kept
  above : pos (10 ^ 20) ≤ℤ written → pos (10 ^ 20) ≤ℤ kept → IsNear written kept
  below : written ≤ℤ neg_ℤ (pos (10 ^ 20)) → kept ≤ℤ neg_ℤ (pos (10 ^ 20)) → IsNear written kept

-- A decimal is the number with these digits and this exponent.
abbrev pub IsNumberOf : DecimalNumber → ℤ → ℤ → Type 0
IsNumberOf d digits exp = IsDecimal d × SameNumber digits exp d.digits d.exp
