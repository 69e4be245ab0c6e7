-- The text of a number that is written with digits, and the number that it writes.
use Rattle.std.specs.Prelude.{ℕ, ◌≡◌, ◌+◌, ◌-◌, ◌*◌, ◌<◌, ◌≤◌, ◌==◌, nat_le, Bool, true, false, ◌&&◌, ◌||◌, if◌then◌else◌, cond, List, [], ◌∷◌, ◌++◌, length, take, fold, ℤ, pos, ◌-ℤ◌, neg_ℤ, IsTrue}
use Rattle.sdf_values.specs.Numbers.{DecimalNumber, SameNumber}

-- `0` to `9`
abbrev pub is_digit : ℕ → Bool
is_digit c = nat_le 48 c && nat_le c 57

-- `+` or `-`
abbrev pub is_sign : ℕ → Bool
is_sign c = (c == 43) || (c == 45)

-- `e` or `E`, before an exponent
abbrev pub is_mark : ℕ → Bool
is_mark c = (c == 101) || (c == 69)

-- Below, each test says whether a text may stand where it is named for, up to the end of the number.
-- digits or none
abbrev pub is_digits : List ℕ → Bool
is_digits [] = true
is_digits (c ∷ t) = is_digit c && is_digits t

-- one digit at least
abbrev pub is_some_digits : List ℕ → Bool
is_some_digits [] = false
is_some_digits (c ∷ t) = is_digit c && is_digits t

-- an exponent: a sign or none, and digits
abbrev pub is_exponent : List ℕ → Bool
is_exponent [] = false
is_exponent (c ∷ t) = elim (is_sign c) [ true ↦ is_some_digits t | false ↦ is_digit c && is_digits t ]

-- behind a point and a digit on one side of it: digits, and an exponent or none
abbrev pub ends_fraction : List ℕ → Bool
ends_fraction [] = true
ends_fraction (c ∷ t) = elim (is_digit c) [ true ↦ ends_fraction t | false ↦ is_mark c && is_exponent t ]

-- behind a point that has no digit before it
abbrev pub starts_fraction : List ℕ → Bool
starts_fraction [] = false
starts_fraction (c ∷ t) = is_digit c && ends_fraction t

-- behind a digit before the point
abbrev pub ends_whole : List ℕ → Bool
ends_whole [] = true
ends_whole (c ∷ t) =
    elim (is_digit c) [
      | true ↦ ends_whole t
      | false ↦ elim (c == 46) [ true ↦ ends_fraction t | false ↦ is_mark c && is_exponent t ]
    ]

-- a number without its sign
abbrev pub is_unsigned : List ℕ → Bool
is_unsigned [] = false
is_unsigned (c ∷ t) = elim (is_digit c) [ true ↦ ends_whole t | false ↦ (c == 46) && starts_fraction t ]

-- the whole text of a number: a sign or none, digits with a point or none and a digit on one side of it, an exponent or none
abbrev pub is_number : List ℕ → Bool
is_number [] = false
is_number (c ∷ t) = elim (is_sign c) [ true ↦ is_unsigned t | false ↦ is_unsigned (c ∷ t) ]

-- some number's text begins so
abbrev pub GoesOn : List ℕ → Type 0
GoesOn front = (rest : List ℕ) × IsTrue (is_number (front ++ rest))

-- Not a number's text, and this is the first byte, or the end, with which none goes on.
pub record FailsAt (t : List ℕ) (at : ℕ) : Type 0 where
  pub no_number : is_number t ≡ false
  pub within : at ≤ length t
  pub good_before : GoesOn (take at t)
  pub bad_there : at < length t → GoesOn (take (at + 1) t) → ⊥

-- the number with one more digit behind it; another character adds nothing
abbrev pub add_digit : ℕ → ℕ → ℕ
add_digit n c = if is_digit c then n * 10 + (c - 48) else n

-- all digits of a text as one whole number; other characters are passed over
abbrev pub digits_number : List ℕ → ℕ
digits_number t = fold add_digit 0 t

-- what stands before the exponent's mark, and behind it
abbrev pub before_mark : List ℕ → List ℕ
before_mark [] = []
before_mark (c ∷ t) = elim (is_mark c) [ true ↦ [] | false ↦ c ∷ before_mark t ]

abbrev pub after_mark : List ℕ → List ℕ
after_mark [] = []
after_mark (c ∷ t) = elim (is_mark c) [ true ↦ t | false ↦ after_mark t ]

-- what stands behind the point
abbrev pub after_point : List ℕ → List ℕ
after_point [] = []
after_point (c ∷ t) = elim (c == 46) [ true ↦ t | false ↦ after_point t ]

-- a `-` stands in front
abbrev pub is_negative : List ℕ → Bool
is_negative [] = false
is_negative (c ∷ t) = c == 45

-- the number of this size, negative where the first argument says so
abbrev pub signed : Bool → ℕ → ℤ
signed negative n = cond negative (neg_ℤ (pos n)) (pos n)

-- all digits before the mark, as one whole number with the text's sign
abbrev pub written_digits : List ℕ → ℤ
written_digits t = signed (is_negative t) (digits_number (before_mark t))

-- the power of ten that goes with them: the exponent, less the number of digits behind the point
abbrev pub written_exponent : List ℕ → ℤ
written_exponent t =
    signed (is_negative (after_mark t)) (digits_number (after_mark t)) -ℤ pos (length (after_point (before_mark t)))

-- a number's text, and a decimal that is the number
pub record Writes (t : List ℕ) (d : DecimalNumber) : Type 0 where
  pub is_text : IsTrue (is_number t)
  pub same : SameNumber (written_digits t) (written_exponent t) d.digits d.exp
