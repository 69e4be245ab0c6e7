-- What means the same as each value, and nothing else does.
use Rattle.std.specs.Prelude.{◌≡◌, ◌⊎◌, ℕ, Bool, List, ℤ, pos, negsuc}
use Rattle.sdf_values.specs.Numbers.{DecimalNumber, SameNumber}
use Rattle.sdf_values.specs.Scales.{IsTimeOf}
use Rattle.sdf_values.specs.declared.decimal.Num.{Num}
use Rattle.sdf_values.specs.declared.decimal.Num.TheVariants as num
use Rattle.sdf_values.specs.declared.value.DictItem.{DictItem}
use Rattle.sdf_values.specs.declared.value.Value.{Value}
use Rattle.sdf_values.specs.declared.value.Value.TheVariants as value
use Rattle.value_shapes.specs.Meanings.{SameMeaning, SameMeanings, truth_number, truth_word}

-- the decimal, the time or the truth value of a whole number
abbrev pub IsOfWhole : ℤ → Value → Type 0
IsOfWhole n w =
    ((d : DecimalNumber) × (w ≡ value.Number (num.Finite d)) × SameNumber n (pos 0) d.digits d.exp)
    ⊎ ((units : ℤ) × (w ≡ value.Time units) × SameNumber n (pos 0) units (negsuc 17)) ⊎ ((b : Bool) × (w ≡ value.Bool b) × (n ≡ truth_number b))

-- for each kind of value, all values that mean the same
pub record AreApart : Type 0 where
  -- these mean themselves alone
  pub truth : (b : Bool) (w : Value) → SameMeaning (value.Bool b) w → w ≡ value.Bool b
  pub time : (units : ℤ) (w : Value) → SameMeaning (value.Time units) w → w ≡ value.Time units
  pub text : (s : List ℕ) (w : Value) → SameMeaning (value.Text s) w → w ≡ value.Text s
  pub asset : (s : List ℕ) (w : Value) → SameMeaning (value.Asset s) w → w ≡ value.Asset s
  pub path : (s : List ℕ) (w : Value) → SameMeaning (value.PathText s) w → w ≡ value.PathText s
  pub dictionary : (items : List DictItem) (w : Value) → SameMeaning (value.Dict items) w → w ≡ value.Dict items
  pub block : (w : Value) → SameMeaning value.Block w → w ≡ value.Block
  -- a word, a number and a whole number, besides themselves
  pub word : (s : List ℕ) (w : Value) → SameMeaning (value.Word s) w → (w ≡ value.Word s) ⊎ ((b : Bool) × (w ≡ value.Bool b) × (s ≡ truth_word b))
  pub number : (x : Num) (w : Value) → SameMeaning (value.Number x) w → (w ≡ value.Number x) ⊎ ((d : DecimalNumber) × (units : ℤ) × (x ≡ num.Finite d) × (w ≡ value.Time units) × IsTimeOf d units)
  pub whole : (n : ℤ) (w : Value) → SameMeaning (value.Whole n) w → (w ≡ value.Whole n) ⊎ IsOfWhole n w
  -- a tuple of as many members, each of the meaning of the one at its place, and the same of arrays
  pub tuple : (vs : List Value) (w : Value) → SameMeaning (value.Tuple vs) w → (ws : List Value) × (w ≡ value.Tuple ws) × SameMeanings vs ws
  pub array : (vs : List Value) (w : Value) → SameMeaning (value.Array vs) w → (ws : List Value) × (w ≡ value.Array ws) × SameMeanings vs ws
