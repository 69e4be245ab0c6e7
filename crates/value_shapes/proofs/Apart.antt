-- What means the same as a value of each kind.
use Rattle.std.proofs.Common.{◌≡◌, ◌⊎◌, inl, inr, ℕ, Bool, List, [], ◌∷◌, refl, subst}
use Rattle.std.specs.Prelude.{ℤ, pos, negsuc}
use Rattle.sdf_values.specs.Numbers.{DecimalNumber, SameNumber}
use Rattle.sdf_values.specs.Scales.{IsTimeOf}
use Rattle.sdf_values.specs.declared.decimal.Num.{Num}
use Rattle.sdf_values.specs.declared.decimal.Num.TheVariants as num
use Rattle.sdf_values.specs.declared.value.DictItem.{DictItem}
use Rattle.sdf_values.specs.declared.value.Value.{Value}
use Rattle.sdf_values.specs.declared.value.Value.TheVariants as value
use Rattle.value_shapes.specs.Apart.{IsOfWhole}
use Rattle.value_shapes.proofs.Inside.{one_tuple, one_array}
use Rattle.value_shapes.specs.Meanings.{SameMeaning, SameMeanings, itself, whole_as_number, whole_as_time, number_as_time, number_as_truth, word_as_truth, tuple, array, none, more, truth_word}

pub truth_alone : (c : Bool) (v w : Value) → SameMeaning v w → v ≡ value.Bool c → w ≡ value.Bool c
truth_alone c v w (itself _) e = e
truth_alone c v w (whole_as_number n d k) e = absurd cc
truth_alone c v w (whole_as_time n t k) e = absurd cc
truth_alone c v w (number_as_time d t k) e = absurd cc
truth_alone c v w (number_as_truth b) e = absurd cc
truth_alone c v w (word_as_truth b) e = absurd cc
truth_alone c v w (tuple vs ws k) e = absurd cc
truth_alone c v w (array vs ws k) e = absurd cc

pub time_alone : (u : ℤ) (v w : Value) → SameMeaning v w → v ≡ value.Time u → w ≡ value.Time u
time_alone u v w (itself _) e = e
time_alone u v w (whole_as_number n d k) e = absurd cc
time_alone u v w (whole_as_time n t k) e = absurd cc
time_alone u v w (number_as_time d t k) e = absurd cc
time_alone u v w (number_as_truth b) e = absurd cc
time_alone u v w (word_as_truth b) e = absurd cc
time_alone u v w (tuple vs ws k) e = absurd cc
time_alone u v w (array vs ws k) e = absurd cc

pub text_alone : (s : List ℕ) (v w : Value) → SameMeaning v w → v ≡ value.Text s → w ≡ value.Text s
text_alone s v w (itself _) e = e
text_alone s v w (whole_as_number n d k) e = absurd cc
text_alone s v w (whole_as_time n t k) e = absurd cc
text_alone s v w (number_as_time d t k) e = absurd cc
text_alone s v w (number_as_truth b) e = absurd cc
text_alone s v w (word_as_truth b) e = absurd cc
text_alone s v w (tuple vs ws k) e = absurd cc
text_alone s v w (array vs ws k) e = absurd cc

pub asset_alone : (s : List ℕ) (v w : Value) → SameMeaning v w → v ≡ value.Asset s → w ≡ value.Asset s
asset_alone s v w (itself _) e = e
asset_alone s v w (whole_as_number n d k) e = absurd cc
asset_alone s v w (whole_as_time n t k) e = absurd cc
asset_alone s v w (number_as_time d t k) e = absurd cc
asset_alone s v w (number_as_truth b) e = absurd cc
asset_alone s v w (word_as_truth b) e = absurd cc
asset_alone s v w (tuple vs ws k) e = absurd cc
asset_alone s v w (array vs ws k) e = absurd cc

pub path_alone : (s : List ℕ) (v w : Value) → SameMeaning v w → v ≡ value.PathText s → w ≡ value.PathText s
path_alone s v w (itself _) e = e
path_alone s v w (whole_as_number n d k) e = absurd cc
path_alone s v w (whole_as_time n t k) e = absurd cc
path_alone s v w (number_as_time d t k) e = absurd cc
path_alone s v w (number_as_truth b) e = absurd cc
path_alone s v w (word_as_truth b) e = absurd cc
path_alone s v w (tuple vs ws k) e = absurd cc
path_alone s v w (array vs ws k) e = absurd cc

pub dict_alone : (items : List DictItem) (v w : Value) → SameMeaning v w → v ≡ value.Dict items → w ≡ value.Dict items
dict_alone items v w (itself _) e = e
dict_alone items v w (whole_as_number n d k) e = absurd cc
dict_alone items v w (whole_as_time n t k) e = absurd cc
dict_alone items v w (number_as_time d t k) e = absurd cc
dict_alone items v w (number_as_truth b) e = absurd cc
dict_alone items v w (word_as_truth b) e = absurd cc
dict_alone items v w (tuple vs ws k) e = absurd cc
dict_alone items v w (array vs ws k) e = absurd cc

pub block_alone : (v w : Value) → SameMeaning v w → v ≡ value.Block → w ≡ value.Block
block_alone v w (itself _) e = e
block_alone v w (whole_as_number n d k) e = absurd cc
block_alone v w (whole_as_time n t k) e = absurd cc
block_alone v w (number_as_time d t k) e = absurd cc
block_alone v w (number_as_truth b) e = absurd cc
block_alone v w (word_as_truth b) e = absurd cc
block_alone v w (tuple vs ws k) e = absurd cc
block_alone v w (array vs ws k) e = absurd cc

pub word_means : (s : List ℕ) (v w : Value) → SameMeaning v w → v ≡ value.Word s → (w ≡ value.Word s) ⊎ ((c : Bool) × (w ≡ value.Bool c) × (s ≡ truth_word c))
word_means s v w (itself _) e = inl e
word_means s v w (whole_as_number n d k) e = absurd cc
word_means s v w (whole_as_time n t k) e = absurd cc
word_means s v w (number_as_time d t k) e = absurd cc
word_means s v w (number_as_truth b) e = absurd cc
word_means s v w (word_as_truth b) e = inr (b, refl, cc)
word_means s v w (tuple vs ws k) e = absurd cc
word_means s v w (array vs ws k) e = absurd cc

pub number_means : (x : Num) (v w : Value) → SameMeaning v w → v ≡ value.Number x → (w ≡ value.Number x) ⊎ ((d : DecimalNumber) × (units : ℤ) × (x ≡ num.Finite d) × (w ≡ value.Time units) × IsTimeOf d units)
number_means x v w (itself _) e = inl e
number_means x v w (whole_as_number n d k) e = absurd cc
number_means x v w (whole_as_time n t k) e = absurd cc
number_means x v w (number_as_time d t k) e = inr (d, t, cc, refl, k)
number_means x v w (number_as_truth b) e = absurd cc
number_means x v w (word_as_truth b) e = absurd cc
number_means x v w (tuple vs ws k) e = absurd cc
number_means x v w (array vs ws k) e = absurd cc

of_number : (m n : ℤ) (d : DecimalNumber) → SameNumber n (pos 0) d.digits d.exp → n ≡ m → IsOfWhole m (value.Number (num.Finite d))
of_number m n d k e = inl (d, refl, subst (λ x. SameNumber x (pos 0) d.digits d.exp) e k)

of_time : (m n units : ℤ) → SameNumber n (pos 0) units (negsuc 17) → n ≡ m → IsOfWhole m (value.Time units)
of_time m n units k e = inr (inl (units, refl, subst (λ x. SameNumber x (pos 0) units (negsuc 17)) e k))

pub whole_means : (m : ℤ) (v w : Value) → SameMeaning v w → v ≡ value.Whole m → (w ≡ value.Whole m) ⊎ IsOfWhole m w
whole_means m v w (itself _) e = inl e
whole_means m v w (whole_as_number n d k) e = inr (of_number m n d k cc)
whole_means m v w (whole_as_time n t k) e = inr (of_time m n t k cc)
whole_means m v w (number_as_time d t k) e = absurd cc
whole_means m v w (number_as_truth b) e = inr (inr (inr (b, refl, cc)))
whole_means m v w (word_as_truth b) e = absurd cc
whole_means m v w (tuple vs ws k) e = absurd cc
whole_means m v w (array vs ws k) e = absurd cc

same_each : (vs : List Value) → SameMeanings vs vs
same_each [] = none
same_each (v ∷ vs) = more v v vs vs (itself v) (same_each vs)

abbrev IsTuple : List Value → Value → Type 0
IsTuple us w = (ws : List Value) × (w ≡ value.Tuple ws) × SameMeanings us ws

abbrev IsArray : List Value → Value → Type 0
IsArray us w = (ws : List Value) × (w ≡ value.Array ws) × SameMeanings us ws

of_tuple : (us vs ws : List Value) → SameMeanings vs ws → vs ≡ us → IsTuple us (value.Tuple ws)
of_tuple us vs ws k e = (ws, refl, subst (λ l. SameMeanings l ws) e k)

of_array : (us vs ws : List Value) → SameMeanings vs ws → vs ≡ us → IsArray us (value.Array ws)
of_array us vs ws k e = (ws, refl, subst (λ l. SameMeanings l ws) e k)

pub tuple_means : (us : List Value) (v w : Value) → SameMeaning v w → v ≡ value.Tuple us → (ws : List Value) × (w ≡ value.Tuple ws) × SameMeanings us ws
tuple_means us v w (itself _) e = (us, e, same_each us)
tuple_means us v w (whole_as_number n d k) e = absurd cc
tuple_means us v w (whole_as_time n t k) e = absurd cc
tuple_means us v w (number_as_time d t k) e = absurd cc
tuple_means us v w (number_as_truth b) e = absurd cc
tuple_means us v w (word_as_truth b) e = absurd cc
tuple_means us v w (tuple vs ws k) e = of_tuple us vs ws k (one_tuple vs us e)
tuple_means us v w (array vs ws k) e = absurd cc

pub array_means : (us : List Value) (v w : Value) → SameMeaning v w → v ≡ value.Array us → (ws : List Value) × (w ≡ value.Array ws) × SameMeanings us ws
array_means us v w (itself _) e = (us, e, same_each us)
array_means us v w (whole_as_number n d k) e = absurd cc
array_means us v w (whole_as_time n t k) e = absurd cc
array_means us v w (number_as_time d t k) e = absurd cc
array_means us v w (number_as_truth b) e = absurd cc
array_means us v w (word_as_truth b) e = absurd cc
array_means us v w (tuple vs ws k) e = absurd cc
array_means us v w (array vs ws k) e = of_array us vs ws k (one_array vs us e)
