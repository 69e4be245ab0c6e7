-- Values by cases: what a fold makes of each, and an induction.
use Rattle.std.proofs.Common.{◌≡◌, ◌∙◌, ℕ, Bool, sym, ap, subst, map, List, [], ◌∷◌}
use Rattle.std.specs.Prelude.{ℤ}
use Rattle.sdf_values.specs.declared.decimal.Num.{Num}
use Rattle.sdf_values.specs.declared.value.Value.{Value, fold-Value, ind-Value, fold-roll-Value, roll-Value, map-Value}
use Rattle.sdf_values.specs.declared.value.Value.TheOpen.{Value-F, DictItem-F}
use Rattle.sdf_values.specs.declared.value.Value.TheVariants as value
use Rattle.sdf_values.specs.declared.value.Value.TheVariants.{rolls-Bool, rolls-Whole, rolls-Number, rolls-Time, rolls-Text, rolls-Asset, rolls-PathText, rolls-Word, rolls-Tuple, rolls-Array, rolls-Dict, rolls-Block}
use Rattle.sdf_values.specs.declared.value.DictType.{DictType}
use Rattle.sdf_values.specs.declared.value.DictItem.{DictItem, fold-DictItem, roll-DictItem, fold-roll-DictItem, map-DictItem}

-- what a fold makes of each value
module _ (A A' : Type 0) (step : Value-F A A' → A) (step' : DictItem-F A A' → A') where
  pub of_bool : (b : Bool) → fold-Value A A' step step' (value.Bool b) ≡ step (Value-F.Bool b)
  of_bool b = ap (fold-Value A A' step step') (sym (rolls-Bool b)) ∙ fold-roll-Value A A' step step' (Value-F.Bool b)

  pub of_whole : (n : ℤ) → fold-Value A A' step step' (value.Whole n) ≡ step (Value-F.Whole n)
  of_whole n = ap (fold-Value A A' step step') (sym (rolls-Whole n)) ∙ fold-roll-Value A A' step step' (Value-F.Whole n)

  pub of_number : (x : Num) → fold-Value A A' step step' (value.Number x) ≡ step (Value-F.Number x)
  of_number x = ap (fold-Value A A' step step') (sym (rolls-Number x)) ∙ fold-roll-Value A A' step step' (Value-F.Number x)

  pub of_time : (t : ℤ) → fold-Value A A' step step' (value.Time t) ≡ step (Value-F.Time t)
  of_time t = ap (fold-Value A A' step step') (sym (rolls-Time t)) ∙ fold-roll-Value A A' step step' (Value-F.Time t)

  pub of_text : (t : List ℕ) → fold-Value A A' step step' (value.Text t) ≡ step (Value-F.Text t)
  of_text t = ap (fold-Value A A' step step') (sym (rolls-Text t)) ∙ fold-roll-Value A A' step step' (Value-F.Text t)

  pub of_asset : (t : List ℕ) → fold-Value A A' step step' (value.Asset t) ≡ step (Value-F.Asset t)
  of_asset t = ap (fold-Value A A' step step') (sym (rolls-Asset t)) ∙ fold-roll-Value A A' step step' (Value-F.Asset t)

  pub of_path : (t : List ℕ) → fold-Value A A' step step' (value.PathText t) ≡ step (Value-F.PathText t)
  of_path t = ap (fold-Value A A' step step') (sym (rolls-PathText t)) ∙ fold-roll-Value A A' step step' (Value-F.PathText t)

  pub of_word : (t : List ℕ) → fold-Value A A' step step' (value.Word t) ≡ step (Value-F.Word t)
  of_word t = ap (fold-Value A A' step step') (sym (rolls-Word t)) ∙ fold-roll-Value A A' step step' (Value-F.Word t)

  pub of_block : fold-Value A A' step step' value.Block ≡ step Value-F.Block
  of_block = ap (fold-Value A A' step step') (sym rolls-Block) ∙ fold-roll-Value A A' step step' Value-F.Block

  pub of_tuple : (vs : List Value) → fold-Value A A' step step' (value.Tuple vs) ≡ step (Value-F.Tuple (map (fold-Value A A' step step') vs))
  of_tuple vs = ap (fold-Value A A' step step') (sym (rolls-Tuple vs)) ∙ fold-roll-Value A A' step step' (Value-F.Tuple vs)

  pub of_array : (vs : List Value) → fold-Value A A' step step' (value.Array vs) ≡ step (Value-F.Array (map (fold-Value A A' step step') vs))
  of_array vs = ap (fold-Value A A' step step') (sym (rolls-Array vs)) ∙ fold-roll-Value A A' step step' (Value-F.Array vs)

  pub of_dict : (items : List DictItem) → fold-Value A A' step step' (value.Dict items) ≡ step (Value-F.Dict (map (fold-DictItem A A' step step') items))
  of_dict items = ap (fold-Value A A' step step') (sym (rolls-Dict items)) ∙ fold-roll-Value A A' step step' (Value-F.Dict items)

  pub of_item : (item : DictItem) → fold-DictItem A A' step step' item ≡ step' (record { key = item.key; ty = item.ty; value = fold-Value A A' step step' item.value })
  of_item item = fold-roll-DictItem A A' step step' (record { key = item.key; ty = item.ty; value = item.value })

-- what holds of each of a list
abbrev pub Each : {A : Type 0} → (A → Type 0) → List A → Type 0
Each P [] = Unit {0}
Each P (x ∷ xs) = P x × Each P xs

-- what is to be shown of values by induction
pub record Cases (P : Value → Type 0) (Q : DictItem → Type 0) : Type 0 where
  pub bool : (b : Bool) → P (value.Bool b)
  pub whole : (n : ℤ) → P (value.Whole n)
  pub number : (x : Num) → P (value.Number x)
  pub time : (t : ℤ) → P (value.Time t)
  pub text : (t : List ℕ) → P (value.Text t)
  pub asset : (t : List ℕ) → P (value.Asset t)
  pub path : (t : List ℕ) → P (value.PathText t)
  pub word : (t : List ℕ) → P (value.Word t)
  pub block : P value.Block
  pub tuple : (vs : List Value) → Each P vs → P (value.Tuple vs)
  pub array : (vs : List Value) → Each P vs → P (value.Array vs)
  pub dict : (items : List DictItem) → Each Q items → P (value.Dict items)
  pub item : (k : List ℕ) (t : DictType) (v : Value) → P v → Q (record { key = k; ty = t; value = v })

module _ (P : Value → Type 0) (Q : DictItem → Type 0) (S S' : Type 0) (f : S → Value) (g : S' → DictItem) (p : (s : S) → P (f s)) (q : (s : S') → Q (g s)) (cases : Cases P Q) where
  each_value : (ss : List S) → Each P (map f ss)
  each_value [] = tt
  each_value (s ∷ ss) = (p s, each_value ss)

  each_item : (ss : List S') → Each Q (map g ss)
  each_item [] = tt
  each_item (s ∷ ss) = (q s, each_item ss)

  one_level : (y : Value-F S S') → P (roll-Value (map-Value S S' Value DictItem f g y))
  one_level (Value-F.Bool b) = subst P (sym (rolls-Bool b)) (cases.bool b)
  one_level (Value-F.Whole n) = subst P (sym (rolls-Whole n)) (cases.whole n)
  one_level (Value-F.Number x) = subst P (sym (rolls-Number x)) (cases.number x)
  one_level (Value-F.Time t) = subst P (sym (rolls-Time t)) (cases.time t)
  one_level (Value-F.Text t) = subst P (sym (rolls-Text t)) (cases.text t)
  one_level (Value-F.Asset t) = subst P (sym (rolls-Asset t)) (cases.asset t)
  one_level (Value-F.PathText t) = subst P (sym (rolls-PathText t)) (cases.path t)
  one_level (Value-F.Word t) = subst P (sym (rolls-Word t)) (cases.word t)
  one_level (Value-F.Tuple ss) = subst P (sym (rolls-Tuple (map f ss))) (cases.tuple (map f ss) (each_value ss))
  one_level (Value-F.Array ss) = subst P (sym (rolls-Array (map f ss))) (cases.array (map f ss) (each_value ss))
  one_level (Value-F.Dict ss) = subst P (sym (rolls-Dict (map g ss))) (cases.dict (map g ss) (each_item ss))
  one_level Value-F.Block = subst P (sym rolls-Block) cases.block

  one_item : (y : DictItem-F S S') → Q (roll-DictItem (map-DictItem S S' Value DictItem f g y))
  one_item y = cases.item y.key y.ty (f y.value) (p y.value)

pub by_cases : (P : Value → Type 0) (Q : DictItem → Type 0) → Cases P Q → (v : Value) → P v
by_cases P Q cases =
    ind-Value P Q
    (λ x y is. subst (λ x. P (roll-Value x)) is (one_level P Q _ _ (λ e. e.0) (λ e. e.0) (λ e. e.1) (λ e. e.1) cases y))
    (λ x y is. subst (λ x. Q (roll-DictItem x)) is (one_item P Q _ _ (λ e. e.0) (λ e. e.0) (λ e. e.1) (λ e. e.1) cases y))
