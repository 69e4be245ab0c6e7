-- A value of a type is taken as it is, level by level.
use Rattle.std.proofs.Common.{◌≡◌, ◌∙◌, ℕ, ◌&&◌, ◌==◌, not, Bool, true, false, List, [], ◌∷◌, length, map, Option, Some, None, Ok, Err, ap, sym, refl, eqb-true}
use Rattle.std.specs.Prelude.{if◌then◌else◌, ℤ}
use Rattle.std.proofs.lemmas.List.{length-map}
use Rattle.std.proofs.lemmas.Bool.{and_parts}
use Rattle.sdf_values.specs.Conforms.{holds, holds_step, item_step, is_element, all_hold, are_members, members_of, one}
use Rattle.sdf_values.specs.declared.decimal.Num.{Num}
use Rattle.sdf_values.specs.declared.refusal.RefusalKind.TheVariants.{ValueShape}
use Rattle.sdf_values.specs.declared.type_name.ElementType.{ElementType}
use Rattle.sdf_values.specs.declared.type_name.ElementType.TheVariants as element
use Rattle.sdf_values.specs.declared.type_name.TypeName.{TypeName}
use Rattle.sdf_values.specs.declared.value.DictItem.{fold-DictItem}
use Rattle.sdf_values.specs.declared.value.Value.{Value}
use Rattle.sdf_values.specs.declared.value.Value.TheOpen.{Value-F}
use Rattle.sdf_values.specs.declared.value.Value.TheVariants as value
use Rattle.sdf_values.proofs.Values.{Each, by_cases}
use Rattle.usda_values.specs.Scalars.{Taken, take_element}
use Rattle.usda_values.specs.Shaping.{Taking, TakenAll, before_all, take_all, take_counted, as_tuple, as_array, take_tuple, take_leaf, take_step, take_item, taken}
use Rattle.usda_values.proofs.Wholes.{element_taken}
use Rattle.sdf_values.proofs.Values as fold
use Rattle.value_shapes.proofs.Elements.{Test}

-- the value is taken as it is wherever it is one of the type
abbrev pub IsKept : Value → Type 0
IsKept v = (t : TypeName) → holds v t ≡ true → taken v t ≡ Ok v

-- values of one token
truth_kept : (b : Bool) (e : ElementType) → is_element (Value-F.Bool b) e ≡ true → take_element e (value.Bool b) ≡ Ok (value.Bool b)
truth_kept b element.Bool h = refl
truth_kept b _ h = absurd cc

number_kept : (x : Num) (e : ElementType) → is_element (Value-F.Number x) e ≡ true → take_element e (value.Number x) ≡ Ok (value.Number x)
number_kept x (element.Real p) h = refl
number_kept x _ h = absurd cc

time_kept : (t : ℤ) (e : ElementType) → is_element (Value-F.Time t) e ≡ true → take_element e (value.Time t) ≡ Ok (value.Time t)
time_kept t element.Timecode h = refl
time_kept t _ h = absurd cc

text_kept : (s : List ℕ) (e : ElementType) → is_element (Value-F.Text s) e ≡ true → take_element e (value.Text s) ≡ Ok (value.Text s)
text_kept s element.String h = refl
text_kept s element.Token h = refl
text_kept s _ h = absurd cc

asset_kept : (s : List ℕ) (e : ElementType) → is_element (Value-F.Asset s) e ≡ true → take_element e (value.Asset s) ≡ Ok (value.Asset s)
asset_kept s element.Asset h = refl
asset_kept s _ h = absurd cc

leaf_cases : (v : Value) (l : Value-F Test Test) → ((e : ElementType) → is_element l e ≡ true → take_element e v ≡ Ok v) → (a : Bool) (e : ElementType)
    → (not a && is_element l e) ≡ true → (if a then Err ValueShape else take_element e v) ≡ Ok v
leaf_cases v l each true e h = absurd cc
leaf_cases v l each false e h = each e h

leaf : (v : Value) (l : Value-F Test Test) → ((t : TypeName) → taken v t ≡ take_leaf v t) → ((t : TypeName) → holds v t ≡ (not t.array && is_element l t.element))
    → ((e : ElementType) → is_element l e ≡ true → take_element e v ≡ Ok v) → IsKept v
leaf v l is level each t h = is t ∙ leaf_cases v l each t.array t.element (sym (level t) ∙ h)

-- members
all_kept : (vs : List Value) → Each IsKept vs → (t : TypeName) → all_hold (map holds vs) t ≡ true → take_all (map taken vs) t ≡ Ok vs
all_kept [] each t h = refl
all_kept (v ∷ vs) each t h =
    let p = and_parts (holds v t) (all_hold (map holds vs) t) h in
    ap (λ (r : Taken). elim r as (λ _. TakenAll) [ Ok w ↦ before_all w (take_all (map taken vs) t) | Err k ↦ Err k ]) (each.0 t p.0) ∙ ap (before_all v) (all_kept vs each.1 t p.1)

counted_kept : (vs : List Value) → Each IsKept vs → (t : TypeName) → all_hold (map holds vs) t ≡ true → take_counted (length vs) (map taken vs) t ≡ Ok vs
counted_kept [] each t h = refl
counted_kept (v ∷ vs) each t h =
    let p = and_parts (holds v t) (all_hold (map holds vs) t) h in
    ap (λ (r : Taken). elim r as (λ _. TakenAll) [ Ok w ↦ before_all w (take_counted (length vs) (map taken vs) t) | Err k ↦ Err k ]) (each.0 t p.0)
    ∙ ap (before_all v) (counted_kept vs each.1 t p.1)

tuple_members : (vs : List Value) → Each IsKept vs → (o : Option (ElementType × ℕ)) → are_members o (map holds vs) ≡ true → take_tuple o (map taken vs) ≡ Ok (value.Tuple vs)
tuple_members vs each None h = absurd cc
tuple_members vs each (Some m) h =
    let p = and_parts (length (map holds vs) == m.1) (all_hold (map holds vs) (one m.0)) h in
    let count : length vs ≡ m.1 = sym (length-map vs holds) ∙ eqb-true (length (map holds vs)) m.1 p.0 in
    ap as_tuple (ap (λ n. take_counted n (map taken vs) (one m.0)) (sym count) ∙ counted_kept vs each (one m.0) p.1)

tuple_cases : (vs : List Value) → Each IsKept vs → (a : Bool) (e : ElementType) → (not a && are_members (members_of e) (map holds vs)) ≡ true
    → (if a then Err ValueShape else take_tuple (members_of e) (map taken vs)) ≡ Ok (value.Tuple vs)
tuple_cases vs each true e h = absurd cc
tuple_cases vs each false e h = tuple_members vs each (members_of e) h

tuple_kept : (vs : List Value) → Each IsKept vs → IsKept (value.Tuple vs)
tuple_kept vs each t h =
    ap (λ f. f t) (fold.of_tuple Taking Taking take_step take_item vs)
    ∙ tuple_cases vs each t.array t.element (sym (ap (λ f. f t) (fold.of_tuple Test Test holds_step item_step vs)) ∙ h)

array_cases : (vs : List Value) → Each IsKept vs → (a : Bool) (e : ElementType) → (a && all_hold (map holds vs) (one e)) ≡ true
    → (if a then as_array (take_all (map taken vs) (one e)) else Err ValueShape) ≡ Ok (value.Array vs)
array_cases vs each true e h = ap as_array (all_kept vs each (one e) h)
array_cases vs each false e h = absurd cc

array_kept : (vs : List Value) → Each IsKept vs → IsKept (value.Array vs)
array_kept vs each t h =
    ap (λ f. f t) (fold.of_array Taking Taking take_step take_item vs)
    ∙ array_cases vs each t.array t.element (sym (ap (λ f. f t) (fold.of_array Test Test holds_step item_step vs)) ∙ h)

-- values of no type
no_type : (v : Value) (l : Value-F Test Test) → ((t : TypeName) → holds v t ≡ (not t.array && is_element l t.element)) → ((e : ElementType) → is_element l e ≡ false) → IsKept v
no_type v l level none t h = absurd (never t.array (is_element l t.element) (none t.element) (sym (level t) ∙ h))
  where
    never : (a b : Bool) → b ≡ false → (not a && b) ≡ true → ⊥
    never true b e g = cc
    never false b e g = cc

no_path : (s : List ℕ) (e : ElementType) → is_element (Value-F.PathText s) e ≡ false
no_path s element.Bool = refl
no_path s _ = refl

no_word : (s : List ℕ) (e : ElementType) → is_element (Value-F.Word s) e ≡ false
no_word s element.Bool = refl
no_word s _ = refl

no_dict : (cs : List Test) (e : ElementType) → is_element (Value-F.Dict cs) e ≡ false
no_dict cs element.Bool = refl
no_dict cs _ = refl

no_block : (e : ElementType) → is_element Value-F.Block e ≡ false
no_block element.Bool = refl
no_block _ = refl

pub kept : (v : Value) → IsKept v
kept = by_cases IsKept (λ i. Unit {0}) (record {
  bool = λ b. leaf (value.Bool b) (Value-F.Bool b) (λ t. ap (λ f. f t) (fold.of_bool Taking Taking take_step take_item b)) (λ t. ap (λ f. f t) (fold.of_bool Test Test holds_step item_step b)) (truth_kept b);
  whole = λ n. leaf (value.Whole n) (Value-F.Whole n) (λ t. ap (λ f. f t) (fold.of_whole Taking Taking take_step take_item n)) (λ t. ap (λ f. f t) (fold.of_whole Test Test holds_step item_step n)) (element_taken n);
  number = λ x. leaf (value.Number x) (Value-F.Number x) (λ t. ap (λ f. f t) (fold.of_number Taking Taking take_step take_item x)) (λ t. ap (λ f. f t) (fold.of_number Test Test holds_step item_step x)) (number_kept x);
  time = λ x. leaf (value.Time x) (Value-F.Time x) (λ t. ap (λ f. f t) (fold.of_time Taking Taking take_step take_item x)) (λ t. ap (λ f. f t) (fold.of_time Test Test holds_step item_step x)) (time_kept x);
  text = λ s. leaf (value.Text s) (Value-F.Text s) (λ t. ap (λ f. f t) (fold.of_text Taking Taking take_step take_item s)) (λ t. ap (λ f. f t) (fold.of_text Test Test holds_step item_step s)) (text_kept s);
  asset = λ s. leaf (value.Asset s) (Value-F.Asset s) (λ t. ap (λ f. f t) (fold.of_asset Taking Taking take_step take_item s)) (λ t. ap (λ f. f t) (fold.of_asset Test Test holds_step item_step s)) (asset_kept s);
  path = λ s. no_type (value.PathText s) (Value-F.PathText s) (λ t. ap (λ f. f t) (fold.of_path Test Test holds_step item_step s)) (no_path s);
  word = λ s. no_type (value.Word s) (Value-F.Word s) (λ t. ap (λ f. f t) (fold.of_word Test Test holds_step item_step s)) (no_word s);
  block = no_type value.Block Value-F.Block (λ t. ap (λ f. f t) (fold.of_block Test Test holds_step item_step)) no_block;
  tuple = tuple_kept;
  array = array_kept;
  dict = λ items each. no_type (value.Dict items) (Value-F.Dict (map (fold-DictItem Test Test holds_step item_step) items)) (λ t. ap (λ f. f t) (fold.of_dict Test Test holds_step item_step items)) (no_dict (map (fold-DictItem Test Test holds_step item_step) items));
  item = λ k t v h. tt;
})
