-- The tuples of a value that is read have members.
use Rattle.std.proofs.Common.{◌≡◌, ◌∙◌, ℕ, ◌&&◌, ◌==◌, Bool, true, false, List, [], ◌∷◌, map, Option, Some, None, ap, sym, refl}
use Rattle.std.proofs.lemmas.Bool.{and_parts}
use Rattle.sdf_values.specs.Conforms.{all_hold, are_members, members_of, one, count_of, role_width, matrix_width}
use Rattle.sdf_values.specs.Proper.{all_true, all_proper, are_keys_in_order, keys_of}
use Rattle.sdf_values.specs.declared.type_name.ElementType.{ElementType}
use Rattle.sdf_values.specs.declared.type_name.ElementType.TheVariants as element
use Rattle.sdf_values.specs.declared.type_name.TypeName.{TypeName}
use Rattle.sdf_values.specs.declared.type_name.Width.{Width}
use Rattle.sdf_values.specs.declared.type_name.Width.TheVariants as width
use Rattle.sdf_values.specs.declared.value.DictItem.{DictItem}
use Rattle.sdf_values.specs.declared.value.DictType.{DictType}
use Rattle.sdf_values.specs.declared.value.Value.{Value}
use Rattle.sdf_values.specs.declared.value.Value.TheOpen.{Value-F}
use Rattle.sdf_values.specs.declared.value.Value.TheVariants as value
use Rattle.sdf_values.proofs.Values.{Each, by_cases}
use Rattle.usda_values.specs.Shapes.{entry_shape}
use Rattle.usda_values.specs.declared.shape.Shape.{Shape}
use Rattle.usda_values.specs.declared.shape.Shape.TheVariants.{Untyped, Metadata, Typed, Dictionary}
use Rattle.value_texts.specs.Readable.{Reading, is_read_as, is_read_entry, reading_step, reading_item, typed, all_read, is_some_list}
use Rattle.value_texts.proofs.Leaves.{typed_part, no_array}
use Rattle.value_texts.proofs.ReadingSteps.{reads_tuple, reads_array, reads_dict}
use Rattle.sdf_values.proofs.Values as fold
use Rattle.layer_reads.specs.Membered.{is_membered, is_membered_item, membered_step, membered_item, are_some}
use Rattle.value_returns.specs.Laws.{ReadValuesHaveMembers}

-- what is to be shown of a value, and of an entry of a dictionary
abbrev IsRead : Value → Type 0
IsRead v = (shape : Shape) (s : Bool) → is_read_as v shape s ≡ true → is_membered v ≡ true

abbrev IsReadItem : DictItem → Type 0
IsReadItem i = (is_read_entry i).1 ≡ true → is_membered_item i ≡ true

-- ---- lists of values

untyped_members : (vs : List Value) → Each IsRead vs → (shape : Shape) → all_read (map is_read_as vs) shape ≡ true → all_true (map is_membered vs) ≡ true
untyped_members [] each shape h = refl
untyped_members (v ∷ vs) each shape h =
    let p = and_parts (is_read_as v shape false) (all_read (map is_read_as vs) shape) h in
    ap (λ b. b && all_true (map is_membered vs)) (each.0 shape false p.0) ∙ untyped_members vs each.1 shape p.1

typed_members : (vs : List Value) → Each IsRead vs → (t : TypeName) → all_hold (map typed (map is_read_as vs)) t ≡ true → all_true (map is_membered vs) ≡ true
typed_members [] each t h = refl
typed_members (v ∷ vs) each t h =
    let p = and_parts (is_read_as v (Typed t) false) (all_hold (map typed (map is_read_as vs)) t) h in
    ap (λ b. b && all_true (map is_membered vs)) (each.0 (Typed t) false p.0) ∙ typed_members vs each.1 t p.1

some_members : (vs : List Value) → is_some_list (map is_read_as vs) ≡ true → are_some (map is_membered vs) ≡ true
some_members [] h = absurd cc
some_members (v ∷ vs) h = refl

-- ---- tuples of a type

-- the members of a tuple of a type are of a type
pub of_one_type : (o : Option (ElementType × ℕ)) (cs : List (TypeName → Bool)) → are_members o cs ≡ true → (t : TypeName) × (all_hold cs t ≡ true)
of_one_type None cs h = absurd cc
of_one_type (Some m) cs h = (one m.0, (and_parts _ (all_hold cs (one m.0)) h).1)

not_none : (w : Width) → ((0 == count_of w) && true) ≡ false
not_none width.Two = refl
not_none width.Three = refl
not_none width.Four = refl

no_empty : (e : ElementType) → are_members (members_of e) [] ≡ false
no_empty (element.Ints w) = not_none w
no_empty (element.Reals p w) = not_none w
no_empty (element.Role r p) = not_none (role_width r)
no_empty (element.Matrix m) = not_none (matrix_width m)
no_empty _ = refl

-- ---- level by level

all_some : (vs : List Value) → are_some (map is_membered vs) ≡ true → all_true (map is_membered vs) ≡ true → is_membered (value.Tuple vs) ≡ true
all_some vs some all =
    fold.of_tuple Bool Bool membered_step membered_item vs
    ∙ ap (λ b. b && all_true (map is_membered vs)) some ∙ all

of_type : (vs : List Value) → Each IsRead vs → (e : ElementType) → are_members (members_of e) (map typed (map is_read_as vs)) ≡ true → is_membered (value.Tuple vs) ≡ true
of_type [] each e h = absurd (let no : false ≡ true = sym (no_empty e) ∙ h in cc)
of_type (v ∷ vs) each e h =
    let p = of_one_type (members_of e) (map typed (map is_read_as (v ∷ vs))) h in
    all_some (v ∷ vs) refl (typed_members (v ∷ vs) each p.0 p.1)

tuple_membered : (vs : List Value) → Each IsRead vs → IsRead (value.Tuple vs)
tuple_membered vs each shape s h = by shape (sym (reads_tuple vs shape s) ∙ h)
  where
    plainly : (shape : Shape) → (is_some_list (map is_read_as vs) && all_read (map is_read_as vs) shape) ≡ true → is_membered (value.Tuple vs) ≡ true
    plainly shape k =
        let p = and_parts (is_some_list (map is_read_as vs)) (all_read (map is_read_as vs) shape) k in
        all_some vs (some_members vs p.0) (untyped_members vs each shape p.1)

    by : (shape : Shape) → reading_step (Value-F.Tuple (map is_read_as vs)) shape s ≡ true → is_membered (value.Tuple vs) ≡ true
    by Untyped k = plainly Untyped k
    by Metadata k = plainly Metadata k
    by (Typed t) k =
        let members = are_members (members_of t.element) (map typed (map is_read_as vs)) in
        of_type vs each t.element (no_array t.array members (typed_part s _ k)).1
    by Dictionary k = absurd cc

array_membered : (vs : List Value) → Each IsRead vs → IsRead (value.Array vs)
array_membered vs each shape s h = fold.of_array Bool Bool membered_step membered_item vs ∙ by shape (sym (reads_array vs shape s) ∙ h)
  where
    by : (shape : Shape) → reading_step (Value-F.Array (map is_read_as vs)) shape s ≡ true → all_true (map is_membered vs) ≡ true
    by Untyped k = untyped_members vs each Untyped k
    by Metadata k = untyped_members vs each Metadata k
    by (Typed t) k = typed_members vs each (one t.element) (and_parts t.array _ (typed_part s _ k)).1
    by Dictionary k = absurd cc

entries_membered : (items : List DictItem) → Each IsReadItem items → all_proper (map is_read_entry items) ≡ true → all_true (map is_membered_item items) ≡ true
entries_membered [] each h = refl
entries_membered (i ∷ is) each h =
    let p = and_parts (is_read_entry i).1 (all_proper (map is_read_entry is)) h in
    ap (λ b. b && all_true (map is_membered_item is)) (each.0 p.0) ∙ entries_membered is each.1 p.1

dict_membered : (items : List DictItem) → Each IsReadItem items → IsRead (value.Dict items)
dict_membered items each shape s h = fold.of_dict Bool Bool membered_step membered_item items ∙ by shape (sym (reads_dict items shape s) ∙ h)
  where
    in_order : (are_keys_in_order (keys_of (map is_read_entry items)) && all_proper (map is_read_entry items)) ≡ true → all_true (map is_membered_item items) ≡ true
    in_order k = entries_membered items each (and_parts (are_keys_in_order (keys_of (map is_read_entry items))) (all_proper (map is_read_entry items)) k).1

    by : (shape : Shape) → reading_step (Value-F.Dict (map is_read_entry items)) shape s ≡ true → all_true (map is_membered_item items) ≡ true
    by Untyped k = in_order k
    by Metadata k = in_order k
    by (Typed t) k = absurd (let no : false ≡ true = typed_part s false k in cc)
    by Dictionary k = in_order k

item_membered : (k : List ℕ) (t : DictType) (v : Value) → IsRead v → IsReadItem (record { key = k; ty = t; value = v })
item_membered k t v read h =
    let i : DictItem = record { key = k; ty = t; value = v } in
    fold.of_item Bool Bool membered_step membered_item i
    ∙ read (entry_shape t) false (sym (ap (λ (e : List ℕ × Bool). e.1) (fold.of_item Reading (List ℕ × Bool) reading_step reading_item i)) ∙ h)

pub members_had : ReadValuesHaveMembers
members_had = by_cases IsRead IsReadItem (record {
  bool = λ b shape s h. fold.of_bool Bool Bool membered_step membered_item b;
  whole = λ n shape s h. fold.of_whole Bool Bool membered_step membered_item n;
  number = λ x shape s h. fold.of_number Bool Bool membered_step membered_item x;
  time = λ t shape s h. fold.of_time Bool Bool membered_step membered_item t;
  text = λ t shape s h. fold.of_text Bool Bool membered_step membered_item t;
  asset = λ t shape s h. fold.of_asset Bool Bool membered_step membered_item t;
  path = λ t shape s h. fold.of_path Bool Bool membered_step membered_item t;
  word = λ t shape s h. fold.of_word Bool Bool membered_step membered_item t;
  block = λ shape s h. fold.of_block Bool Bool membered_step membered_item;
  tuple = tuple_membered;
  array = array_membered;
  dict = dict_membered;
  item = item_membered;
})
