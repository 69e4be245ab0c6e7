-- When a value means the same as another: it is that value, but that a number, a time or a truth value may be represented otherwise.
use Rattle.std.specs.Prelude.{ℕ, Bool, true, false, List, [], ◌∷◌, codes, ℤ, pos, negsuc}
use Rattle.sdf_values.specs.Numbers.{DecimalNumber, SameNumber}
use Rattle.sdf_values.specs.Scales.{IsTimeOf}
use Rattle.sdf_values.specs.declared.decimal.Num.TheVariants as num
use Rattle.sdf_values.specs.declared.value.Value.{Value}
use Rattle.sdf_values.specs.declared.value.Value.TheVariants as value

-- the number and the word that are written for a truth value
abbrev pub truth_number : Bool → ℤ
truth_number false = pos 0
truth_number true = pos 1

abbrev pub truth_word : Bool → List ℕ
truth_word false = codes "false"
truth_word true = codes "true"

mutual
  -- The second value means what the first one does. Members are compared one by one.
  pub data SameMeaning : Value → Value → Type 0 where
    itself : (v : Value) → SameMeaning v v
    -- a whole number, as the decimal or as the time of the same number
    whole_as_number : (n : ℤ) (d : DecimalNumber) → SameNumber n (pos 0) d.digits d.exp → SameMeaning (value.Whole n) (value.Number (num.Finite d))
    whole_as_time : (n units : ℤ) → SameNumber n (pos 0) units (negsuc 17) → SameMeaning (value.Whole n) (value.Time units)
    -- a decimal, as the time of the same number
    number_as_time : (d : DecimalNumber) (units : ℤ) → IsTimeOf d units → SameMeaning (value.Number (num.Finite d)) (value.Time units)
    -- 0 or 1, `false` or `true`, as the truth value
    number_as_truth : (b : Bool) → SameMeaning (value.Whole (truth_number b)) (value.Bool b)
    word_as_truth : (b : Bool) → SameMeaning (value.Word (truth_word b)) (value.Bool b)
    tuple : (vs ws : List Value) → SameMeanings vs ws → SameMeaning (value.Tuple vs) (value.Tuple ws)
    array : (vs ws : List Value) → SameMeanings vs ws → SameMeaning (value.Array vs) (value.Array ws)

  -- as many values, each of the same meaning
  pub data SameMeanings : List Value → List Value → Type 0 where
    none : SameMeanings [] []
    more : (v w : Value) (vs ws : List Value) → SameMeaning v w → SameMeanings vs ws → SameMeanings (v ∷ vs) (w ∷ ws)
