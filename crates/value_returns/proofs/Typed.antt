-- A value that is read where a type is expected has few levels, and no paths but those from the root down.
use Rattle.std.proofs.Common.{◌≡◌, ◌∙◌, ℕ, ◌&&◌, not, Bool, true, false, List, [], ◌∷◌, map, ap, sym, refl}
use Rattle.std.proofs.lemmas.Bool.{and_parts, or_right}
use Rattle.sdf_values.specs.Conforms.{all_hold, are_members, members_of, one, is_element}
use Rattle.sdf_values.specs.Proper.{all_true}
use Rattle.sdf_values.specs.declared.type_name.ElementType.{ElementType}
use Rattle.sdf_values.specs.declared.type_name.TypeName.{TypeName}
use Rattle.sdf_values.specs.declared.value.DictItem.{DictItem}
use Rattle.sdf_values.specs.declared.value.Value.{Value}
use Rattle.sdf_values.specs.declared.value.Value.TheOpen.{Value-F}
use Rattle.sdf_values.specs.declared.value.Value.TheVariants as value
use Rattle.sdf_values.proofs.Values.{Each, by_cases}
use Rattle.usda_values.specs.declared.shape.Shape.TheVariants.{Typed}
use Rattle.value_texts.specs.Readable.{Reading, is_read_as, is_read_entry, reading_step, reading_item, typed, typed_step, is_block_level}
use Rattle.value_texts.proofs.Leaves.{typed_part, no_array}
use Rattle.value_texts.proofs.ReadingSteps.{reads_tuple, reads_array, reads_dict, reads_path}
use Rattle.value_texts.proofs.TypedDepth.{typed_depth}
use Rattle.value_texts.proofs.TypesRead.{types_read}
use Rattle.sdf_values.proofs.Values as fold
use Rattle.value_returns.specs.FullPaths.{has_full_paths, full_step, full_item}
use Rattle.value_returns.specs.Laws.{TypedValuesAreShallow, TypedValuesHaveFullPaths}
use Rattle.value_returns.proofs.Members.{of_one_type}

-- ---- a member of a type is read directly behind a `=` too

abbrev IsReadThere : Value → Type 0
IsReadThere v = (t : TypeName) → is_read_as v (Typed t) false ≡ true → is_read_as v (Typed t) true ≡ true

there : (v : Value) (l : Value-F Reading (List ℕ × Bool)) → is_read_as v ≡ reading_step l → IsReadThere v
there v l is t h = ap (λ f. f (Typed t) true) is ∙ or_right (is_block_level l) (typed_step l t) (sym (ap (λ f. f (Typed t) false) is) ∙ h)

read_there : (v : Value) → IsReadThere v
read_there = by_cases IsReadThere (λ i. Unit {0}) (record {
  bool = λ b. there (value.Bool b) (Value-F.Bool b) (fold.of_bool Reading (List ℕ × Bool) reading_step reading_item b);
  whole = λ n. there (value.Whole n) (Value-F.Whole n) (fold.of_whole Reading (List ℕ × Bool) reading_step reading_item n);
  number = λ x. there (value.Number x) (Value-F.Number x) (fold.of_number Reading (List ℕ × Bool) reading_step reading_item x);
  time = λ t. there (value.Time t) (Value-F.Time t) (fold.of_time Reading (List ℕ × Bool) reading_step reading_item t);
  text = λ t. there (value.Text t) (Value-F.Text t) (fold.of_text Reading (List ℕ × Bool) reading_step reading_item t);
  asset = λ t. there (value.Asset t) (Value-F.Asset t) (fold.of_asset Reading (List ℕ × Bool) reading_step reading_item t);
  path = λ t. there (value.PathText t) (Value-F.PathText t) (fold.of_path Reading (List ℕ × Bool) reading_step reading_item t);
  word = λ t. there (value.Word t) (Value-F.Word t) (fold.of_word Reading (List ℕ × Bool) reading_step reading_item t);
  block = there value.Block Value-F.Block (fold.of_block Reading (List ℕ × Bool) reading_step reading_item);
  tuple = λ vs each. there (value.Tuple vs) (Value-F.Tuple (map is_read_as vs)) (fold.of_tuple Reading (List ℕ × Bool) reading_step reading_item vs);
  array = λ vs each. there (value.Array vs) (Value-F.Array (map is_read_as vs)) (fold.of_array Reading (List ℕ × Bool) reading_step reading_item vs);
  dict = λ items each. there (value.Dict items) (Value-F.Dict (map is_read_entry items)) (fold.of_dict Reading (List ℕ × Bool) reading_step reading_item items);
  item = λ k t v h. tt;
})

pub shallow : TypedValuesAreShallow
shallow v t s h = typed_depth v t (sym (types_read v t) ∙ by s h)
  where
    by : (s : Bool) → is_read_as v (Typed t) s ≡ true → is_read_as v (Typed t) true ≡ true
    by true k = k
    by false k = read_there v t k

-- ---- no path is a value of a type

abbrev HasFullPaths : Value → Type 0
HasFullPaths v = (t : TypeName) (s : Bool) → is_read_as v (Typed t) s ≡ true → has_full_paths v ≡ true

all_full : (vs : List Value) → Each HasFullPaths vs → (t : TypeName) → all_hold (map typed (map is_read_as vs)) t ≡ true → all_true (map has_full_paths vs) ≡ true
all_full [] each t h = refl
all_full (v ∷ vs) each t h =
    let p = and_parts (is_read_as v (Typed t) false) (all_hold (map typed (map is_read_as vs)) t) h in
    ap (λ b. b && all_true (map has_full_paths vs)) (each.0 t false p.0) ∙ all_full vs each.1 t p.1

tuple_full : (vs : List Value) → Each HasFullPaths vs → HasFullPaths (value.Tuple vs)
tuple_full vs each t s h =
    let members = map typed (map is_read_as vs) in
    let k = no_array t.array (are_members (members_of t.element) members) (typed_part s _ (sym (reads_tuple vs (Typed t) s) ∙ h)) in
    let p = of_one_type (members_of t.element) members k.1 in
    fold.of_tuple Bool Bool full_step full_item vs ∙ all_full vs each p.0 p.1

array_full : (vs : List Value) → Each HasFullPaths vs → HasFullPaths (value.Array vs)
array_full vs each t s h =
    let k = and_parts t.array (all_hold (map typed (map is_read_as vs)) (one t.element)) (typed_part s _ (sym (reads_array vs (Typed t) s) ∙ h)) in
    fold.of_array Bool Bool full_step full_item vs ∙ all_full vs each (one t.element) k.1

no_path : (a : Bool) (e : ElementType) (x : List ℕ) → (not a && is_element (Value-F.PathText x) e) ≡ true → ⊥
no_path true e x h = cc
no_path false _ x h = cc

path_full : (x : List ℕ) → HasFullPaths (value.PathText x)
path_full x t s h = absurd (no_path t.array t.element x (typed_part s _ (sym (reads_path x (Typed t) s) ∙ h)))

dict_full : (items : List DictItem) → HasFullPaths (value.Dict items)
dict_full items t s h = absurd (let no : false ≡ true = typed_part s false (sym (reads_dict items (Typed t) s) ∙ h) in cc)

pub typed_full : TypedValuesHaveFullPaths
typed_full = by_cases HasFullPaths (λ i. Unit {0}) (record {
  bool = λ b t s h. fold.of_bool Bool Bool full_step full_item b;
  whole = λ n t s h. fold.of_whole Bool Bool full_step full_item n;
  number = λ x t s h. fold.of_number Bool Bool full_step full_item x;
  time = λ x t s h. fold.of_time Bool Bool full_step full_item x;
  text = λ x t s h. fold.of_text Bool Bool full_step full_item x;
  asset = λ x t s h. fold.of_asset Bool Bool full_step full_item x;
  path = path_full;
  word = λ x t s h. fold.of_word Bool Bool full_step full_item x;
  block = λ t s h. fold.of_block Bool Bool full_step full_item;
  tuple = tuple_full;
  array = array_full;
  dict = λ items each. dict_full items;
  item = λ k t v h. tt;
})
