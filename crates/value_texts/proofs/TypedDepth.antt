-- A value of a type is at most three levels deep: an array of matrices.
use Rattle.std.proofs.Common.{◌≡◌, ◌∙◌, ℕ, suc, ◌+◌, ◌≤◌, ◌&&◌, ◌||◌, not, Bool, true, false, List, [], ◌∷◌, map, ap, sym, refl, subst, arith}
use Rattle.std.proofs.lemmas.Bool.{and_parts}
use Rattle.sdf_values.specs.declared.type_name.Precision.TheVariants.{Double}
use Rattle.sdf_values.specs.Conforms.{is_element, holds, holds_step, item_step, is_block, is_block_step, is_block_item, conforms, all_hold, are_members, members_of, one, matrix_width}
use Rattle.sdf_values.specs.declared.type_name.ElementType.{ElementType}
use Rattle.sdf_values.specs.declared.type_name.ElementType.TheVariants as element
use Rattle.sdf_values.specs.declared.type_name.TypeName.{TypeName}
use Rattle.sdf_values.specs.declared.value.DictItem.{DictItem, fold-DictItem}
use Rattle.sdf_values.specs.declared.value.Value.{Value}
use Rattle.sdf_values.specs.declared.value.Value.TheOpen.{Value-F}
use Rattle.sdf_values.specs.declared.value.Value.TheVariants as value
use Rattle.sdf_values.proofs.Values.{Each, by_cases}
use Rattle.value_texts.specs.Readable.{depth, depth_step, depth_item, deepest}
use Rattle.sdf_values.proofs.Values as fold
use Rattle.value_texts.proofs.Leaves.{no_array}

abbrev Test : Type 0
Test = TypeName → Bool

-- how many levels an element has
abbrev rank : ElementType → ℕ
rank (element.Ints w) = 1
rank (element.Reals p w) = 1
rank (element.Role r p) = 1
rank (element.Matrix m) = 2
rank e = 0

abbrev levels : Bool → ℕ
levels true = 1
levels false = 0

abbrev Shallow : Value → Type 0
Shallow v = (t : TypeName) → holds v t ≡ true → depth v ≤ levels t.array + rank t.element

flat : (v : Value) (d : Value-F ℕ ℕ) → depth v ≡ depth_step d → depth_step d ≡ 0 → Shallow v
flat v d is none t h = subst (λ n. n ≤ levels t.array + rank t.element) (sym (is ∙ none)) (omega arith)

all_shallow : (vs : List Value) → Each Shallow vs → (t : TypeName) → all_hold (map holds vs) t ≡ true → deepest (map depth vs) ≤ levels t.array + rank t.element
all_shallow [] each t h = omega arith
all_shallow (v ∷ vs) each t h =
    let p = and_parts (holds v t) (all_hold (map holds vs) t) h in
    omega (arith, each.0 t p.0, all_shallow vs each.1 t p.1)

-- the members of a tuple have a level less
lower : (e : ElementType) (cs : List Test) → are_members (members_of e) cs ≡ true → (f : ElementType) × (all_hold cs (one f) ≡ true) × (suc (rank f) ≤ rank e)
lower (element.Ints w) cs h = (element.Int, (and_parts _ _ h).1, omega arith)
lower (element.Reals p w) cs h = (element.Real p, (and_parts _ _ h).1, omega arith)
lower (element.Role r p) cs h = (element.Real p, (and_parts _ _ h).1, omega arith)
lower (element.Matrix m) cs h = (element.Reals Double (matrix_width m), (and_parts _ _ h).1, omega arith)
lower _ cs h = absurd cc

shallow_tuple : (vs : List Value) → Each Shallow vs → Shallow (value.Tuple vs)
shallow_tuple vs each t h =
    let is : holds_step (Value-F.Tuple (map holds vs)) t ≡ true = sym (ap (λ f. f t) (fold.of_tuple Test Test holds_step item_step vs)) ∙ h in
    let p = no_array t.array (are_members (members_of t.element) (map holds vs)) is in
    let q = lower t.element (map holds vs) p.1 in
    subst (λ n. n ≤ levels t.array + rank t.element) (sym (fold.of_tuple ℕ ℕ depth_step depth_item vs)) (omega (arith, q.2, all_shallow vs each (one q.0) q.1))

array_level : (b : Bool) → b ≡ true → levels b ≡ 1
array_level true h = refl
array_level false h = absurd cc

shallow_array : (vs : List Value) → Each Shallow vs → Shallow (value.Array vs)
shallow_array vs each t h =
    let is : holds_step (Value-F.Array (map holds vs)) t ≡ true = sym (ap (λ f. f t) (fold.of_array Test Test holds_step item_step vs)) ∙ h in
    let p = and_parts t.array (all_hold (map holds vs) (one t.element)) is in
    subst (λ n. n ≤ levels t.array + rank t.element) (sym (fold.of_array ℕ ℕ depth_step depth_item vs)) (omega (arith, array_level t.array p.0, all_shallow vs each (one t.element) p.1))

no_dict : (a : Bool) (e : ElementType) (cs : List Test) → (not a && is_element (Value-F.Dict cs) e) ≡ true → ⊥
no_dict true e cs h = cc
no_dict false _ cs h = cc

shallow_dict : (items : List DictItem) → Shallow (value.Dict items)
shallow_dict items t h =
    absurd (no_dict t.array t.element (map (fold-DictItem Test Test holds_step item_step) items) (sym (ap (λ f. f t) (fold.of_dict Test Test holds_step item_step items)) ∙ h))

shallow : (v : Value) → Shallow v
shallow = by_cases Shallow (λ i. Unit {0}) (record {
  bool = λ b. flat (value.Bool b) (Value-F.Bool b) (fold.of_bool ℕ ℕ depth_step depth_item b) refl;
  whole = λ n. flat (value.Whole n) (Value-F.Whole n) (fold.of_whole ℕ ℕ depth_step depth_item n) refl;
  number = λ x. flat (value.Number x) (Value-F.Number x) (fold.of_number ℕ ℕ depth_step depth_item x) refl;
  time = λ t. flat (value.Time t) (Value-F.Time t) (fold.of_time ℕ ℕ depth_step depth_item t) refl;
  text = λ t. flat (value.Text t) (Value-F.Text t) (fold.of_text ℕ ℕ depth_step depth_item t) refl;
  asset = λ t. flat (value.Asset t) (Value-F.Asset t) (fold.of_asset ℕ ℕ depth_step depth_item t) refl;
  path = λ t. flat (value.PathText t) (Value-F.PathText t) (fold.of_path ℕ ℕ depth_step depth_item t) refl;
  word = λ t. flat (value.Word t) (Value-F.Word t) (fold.of_word ℕ ℕ depth_step depth_item t) refl;
  block = flat value.Block Value-F.Block (fold.of_block ℕ ℕ depth_step depth_item) refl;
  tuple = shallow_tuple;
  array = shallow_array;
  dict = λ items each. shallow_dict items;
  item = λ k t v h. tt;
})

-- the block has no level
abbrev FlatBlock : Value → Type 0
FlatBlock v = is_block v ≡ true → depth v ≤ 0

not_block : (v : Value) (b : Value-F Bool Bool) → is_block v ≡ is_block_step b → is_block_step b ≡ false → FlatBlock v
not_block v b is none h = absurd (let bad : false ≡ true = sym none ∙ sym is ∙ h in cc)

flat_block : (v : Value) → FlatBlock v
flat_block = by_cases FlatBlock (λ i. Unit {0}) (record {
  bool = λ b. not_block (value.Bool b) (Value-F.Bool b) (fold.of_bool Bool Bool is_block_step is_block_item b) refl;
  whole = λ n. not_block (value.Whole n) (Value-F.Whole n) (fold.of_whole Bool Bool is_block_step is_block_item n) refl;
  number = λ x. not_block (value.Number x) (Value-F.Number x) (fold.of_number Bool Bool is_block_step is_block_item x) refl;
  time = λ t. not_block (value.Time t) (Value-F.Time t) (fold.of_time Bool Bool is_block_step is_block_item t) refl;
  text = λ t. not_block (value.Text t) (Value-F.Text t) (fold.of_text Bool Bool is_block_step is_block_item t) refl;
  asset = λ t. not_block (value.Asset t) (Value-F.Asset t) (fold.of_asset Bool Bool is_block_step is_block_item t) refl;
  path = λ t. not_block (value.PathText t) (Value-F.PathText t) (fold.of_path Bool Bool is_block_step is_block_item t) refl;
  word = λ t. not_block (value.Word t) (Value-F.Word t) (fold.of_word Bool Bool is_block_step is_block_item t) refl;
  block = λ h. subst (λ n. n ≤ 0) (sym (fold.of_block ℕ ℕ depth_step depth_item)) (omega arith);
  tuple = λ vs each. not_block (value.Tuple vs) (Value-F.Tuple (map is_block vs)) (fold.of_tuple Bool Bool is_block_step is_block_item vs) refl;
  array = λ vs each. not_block (value.Array vs) (Value-F.Array (map is_block vs)) (fold.of_array Bool Bool is_block_step is_block_item vs) refl;
  dict = λ items each. not_block (value.Dict items) (Value-F.Dict (map (fold-DictItem Bool Bool is_block_step is_block_item) items)) (fold.of_dict Bool Bool is_block_step is_block_item items) refl;
  item = λ k t v h. tt;
})

rank_low : (e : ElementType) → rank e ≤ 2
rank_low (element.Ints w) = omega arith
rank_low (element.Reals p w) = omega arith
rank_low (element.Role r p) = omega arith
rank_low (element.Matrix m) = omega arith
rank_low _ = omega arith

levels_low : (b : Bool) → levels b ≤ 1
levels_low true = omega arith
levels_low false = omega arith

pub typed_depth : (v : Value) (t : TypeName) → conforms v t ≡ true → depth v ≤ 3
typed_depth v t h = cases (is_block v) refl h
  where
    cases : (b : Bool) → is_block v ≡ b → (b || holds v t) ≡ true → depth v ≤ 3
    cases true e k = omega (arith, flat_block v e)
    cases false e k = omega (arith, shallow v t k, rank_low t.element, levels_low t.array)
