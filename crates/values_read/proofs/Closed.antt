-- A tuple, an array or a dictionary of sound parts is sound where it is expected.
use Rattle.std.proofs.Common.{◌≡◌, ◌∙◌, ℕ, suc, ◌+◌, ◌<◌, ◌≤◌, ◌&&◌, ◌||◌, ◌==◌, not, Bool, true, false, List, [], ◌∷◌, length, map, Option, Some, None, ap, sym, refl, subst, arith, eq-eqb}
use Rattle.std.specs.Prelude.{if◌then◌else◌}
use Rattle.std.specs.Str.{is_utf8}
use Rattle.std.proofs.lemmas.Bool.{and_from}
use Rattle.sdf_values.specs.Conforms.{all_hold, are_members, members_of, one}
use Rattle.sdf_values.specs.Proper.{all_true, all_proper, are_keys_in_order, keys_of}
use Rattle.sdf_values.specs.declared.type_name.ElementType.{ElementType}
use Rattle.sdf_values.specs.declared.type_name.TypeName.{TypeName}
use Rattle.sdf_values.specs.declared.value.DictType.{DictType}
use Rattle.sdf_values.specs.declared.value.DictType.TheVariants as dict
use Rattle.sdf_values.specs.declared.value.Value.{Value}
use Rattle.sdf_values.specs.declared.value.Value.TheVariants as value
use Rattle.usda_values.specs.Drafts.{is_lacking}
use Rattle.usda_values.specs.Entries.{Table, items_of}
use Rattle.usda_values.specs.Shapes.{entry_shape, counted_members, tuple_members, array_members, takes_dictionary}
use Rattle.usda_values.specs.declared.level.Level.{Level}
use Rattle.usda_values.specs.declared.shape.Shape.{Shape}
use Rattle.usda_values.specs.declared.shape.Shape.TheVariants.{Untyped, Metadata, Typed, Dictionary}
use Rattle.value_texts.specs.Readable.{is_read_as, is_read_entry, reading_step, reading_item, Reading, typed, all_read, is_some_list, depth, item_depth, depth_step, depth_item, deepest}
use Rattle.value_texts.specs.Writable.{is_writable, is_writable_item, writable_step, writable_item}
use Rattle.sdf_values.proofs.Values as fold
use Rattle.value_texts.proofs.ReadingSteps.{reads_tuple, reads_array, reads_dict}
use Rattle.text_checks.specs.Utf8.{is_utf8_value, is_utf8_entry, utf8_step, utf8_item}
use Rattle.value_returns.specs.FullPaths.{has_full_paths, has_full_paths_item, full_step, full_item}
use Rattle.value_shapes.proofs.TypedLevels.{none_left}
use Rattle.values_read.specs.Sound.{is_kept_as, IsSound, AreSound, AreSoundEntries, keys_in, AreCounted, IsTuple, IsArray, IsDict, HasMember}

-- ---- members

all_writable : (n : ℕ) (shape : Shape) (vs : List Value) → AreSound n shape vs → all_true (map is_writable vs) ≡ true
all_writable n shape [] each = refl
all_writable n shape (v ∷ vs) each = and_from (is_writable v) (all_true (map is_writable vs)) each.0.writable (all_writable n shape vs each.1)

all_utf8 : (n : ℕ) (shape : Shape) (vs : List Value) → AreSound n shape vs → all_true (map is_utf8_value vs) ≡ true
all_utf8 n shape [] each = refl
all_utf8 n shape (v ∷ vs) each = and_from (is_utf8_value v) (all_true (map is_utf8_value vs)) each.0.utf8 (all_utf8 n shape vs each.1)

all_full : (n : ℕ) (shape : Shape) (vs : List Value) → AreSound n shape vs → all_true (map has_full_paths vs) ≡ true
all_full n shape [] each = refl
all_full n shape (v ∷ vs) each = and_from (has_full_paths v) (all_true (map has_full_paths vs)) each.0.full (all_full n shape vs each.1)

all_deep : (n : ℕ) (shape : Shape) (vs : List Value) → n ≤ 64 → AreSound n shape vs → deepest (map depth vs) + n ≤ 64
all_deep n shape [] few each = omega (arith, few)
all_deep n shape (v ∷ vs) few each = omega (arith, each.0.deep, all_deep n shape vs few each.1)

all_metadata : (n : ℕ) (vs : List Value) → AreSound n Metadata vs → all_read (map is_read_as vs) Metadata ≡ true
all_metadata n [] each = refl
all_metadata n (v ∷ vs) each = and_from (is_read_as v Metadata false) (all_read (map is_read_as vs) Metadata) each.0.kept (all_metadata n vs each.1)

all_typed : (n : ℕ) (t : TypeName) (vs : List Value) → AreSound n (Typed t) vs → all_hold (map typed (map is_read_as vs)) t ≡ true
all_typed n t [] each = refl
all_typed n t (v ∷ vs) each = and_from (is_read_as v (Typed t) false) (all_hold (map typed (map is_read_as vs)) t) each.0.kept (all_typed n t vs each.1)

as_many : (vs : List Value) → length (map typed (map is_read_as vs)) ≡ length vs
as_many [] = refl
as_many (v ∷ vs) = ap suc (as_many vs)

some_read : (vs : List Value) → HasMember vs → is_some_list (map is_read_as vs) ≡ true
some_read [] has = absurd has
some_read (v ∷ vs) has = refl

pub no_block : (s b : Bool) → b ≡ true → ((s && false) || b) ≡ true
no_block true b h = h
no_block false b h = h

-- ---- tuples

-- a tuple of a type, by its element
tuple_typed : (n : ℕ) (vs : List Value) (item : Shape) (all room : Option ℕ) (a : Bool) (o : Option (ElementType × ℕ)) → AreSound n item vs → AreCounted all (length vs) room → is_lacking room ≡ false
    → (if a then None else counted_members o) ≡ Some (item, all) → (not a && are_members o (map typed (map is_read_as vs))) ≡ true
tuple_typed n vs item all room true o each counted lacking h = absurd cc
tuple_typed n vs item all room false None each counted lacking h = absurd cc
tuple_typed n vs item all room false (Some m) each counted lacking h =
    let same : (Typed (one m.0), Some m.1) ≡ (item, all) = cc h in
    let shape : item ≡ Typed (one m.0) = ap (λ (x : Shape × Option ℕ). x.0) (sym same) in
    let number : all ≡ Some m.1 = ap (λ (x : Shape × Option ℕ). x.1) (sym same) in
    let count : AreCounted (Some m.1) (length vs) room = subst (λ x. AreCounted x (length vs) room) number counted in
    let none : count.0 ≡ 0 = none_left count.0 (sym (ap is_lacking count.1) ∙ lacking) in
    let many : length vs ≡ m.1 = (let c = count.2 in omega (arith, c, none)) in
    and_from (length (map typed (map is_read_as vs)) == m.1) (all_hold (map typed (map is_read_as vs)) (one m.0)) (eq-eqb (length (map typed (map is_read_as vs))) m.1 (as_many vs ∙ many))
    (all_typed n (one m.0) vs (subst (λ x. AreSound n x vs) shape each))

tuple_kept : (n : ℕ) (vs : List Value) (item : Shape) (all room : Option ℕ) (expected : Shape) (s : Bool) → AreSound n item vs → HasMember vs → AreCounted all (length vs) room → is_lacking room ≡ false
    → tuple_members expected ≡ Some (item, all) → is_kept_as (value.Tuple vs) expected s ≡ true
tuple_kept n vs item all room Untyped s each has counted lacking h = refl
tuple_kept n vs item all room Metadata s each has counted lacking h =
    let same : (Metadata, None) ≡ (item, all) = cc h in
    let shape : item ≡ Metadata = ap (λ (x : Shape × Option ℕ). x.0) (sym same) in
    reads_tuple vs Metadata s ∙ and_from (is_some_list (map is_read_as vs)) (all_read (map is_read_as vs) Metadata) (some_read vs has) (all_metadata n vs (subst (λ x. AreSound n x vs) shape each))
tuple_kept n vs item all room (Typed t) s each has counted lacking h =
    reads_tuple vs (Typed t) s ∙ no_block s (not t.array && are_members (members_of t.element) (map typed (map is_read_as vs))) (tuple_typed n vs item all room t.array (members_of t.element) each counted lacking h)
tuple_kept n vs item all room Dictionary s each has counted lacking h = absurd cc

pub tuple_sound : (n : ℕ) (expected : Shape) (l : Level) (s : Bool) → n < 64 → IsTuple (suc n) expected l → HasMember l.values → is_lacking l.room ≡ false → IsSound n expected s (value.Tuple l.values)
tuple_sound n expected l s few t has lacking = record {
  kept = tuple_kept (suc n) l.values l.item t.all l.room expected s t.each has t.counted lacking t.members;
  writable = fold.of_tuple Bool Bool writable_step writable_item l.values ∙ all_writable (suc n) l.item l.values t.each;
  utf8 = fold.of_tuple Bool Bool utf8_step utf8_item l.values ∙ all_utf8 (suc n) l.item l.values t.each;
  full = fold.of_tuple Bool Bool full_step full_item l.values ∙ all_full (suc n) l.item l.values t.each;
  deep = subst (λ k. k + n ≤ 64) (sym (fold.of_tuple ℕ ℕ depth_step depth_item l.values)) (let d = all_deep (suc n) l.item l.values (omega (arith, few)) t.each in omega (arith, d));
}

-- ---- arrays

array_typed : (n : ℕ) (vs : List Value) (item : Shape) (a : Bool) (e : ElementType) → AreSound n item vs → array_members (Typed (record { element = e; array = a })) ≡ Some (item, None)
    → (a && all_hold (map typed (map is_read_as vs)) (one e)) ≡ true
array_typed n vs item false e each h = absurd cc
array_typed n vs item true e each h =
    let same : (Typed (one e), None) ≡ (item, None) = cc h in
    let shape : item ≡ Typed (one e) = ap (λ (x : Shape × Option ℕ). x.0) (sym same) in
    all_typed n (one e) vs (subst (λ x. AreSound n x vs) shape each)

array_kept : (n : ℕ) (vs : List Value) (item : Shape) (expected : Shape) (s : Bool) → AreSound n item vs → array_members expected ≡ Some (item, None) → is_kept_as (value.Array vs) expected s ≡ true
array_kept n vs item Untyped s each h = refl
array_kept n vs item Metadata s each h =
    let same : (Metadata, None) ≡ (item, None) = cc h in
    let shape : item ≡ Metadata = ap (λ (x : Shape × Option ℕ). x.0) (sym same) in
    reads_array vs Metadata s ∙ all_metadata n vs (subst (λ x. AreSound n x vs) shape each)
array_kept n vs item (Typed t) s each h =
    reads_array vs (Typed t) s ∙ no_block s (t.array && all_hold (map typed (map is_read_as vs)) (one t.element)) (array_typed n vs item t.array t.element each h)
array_kept n vs item Dictionary s each h = absurd cc

pub array_sound : (n : ℕ) (expected : Shape) (l : Level) (s : Bool) → n < 64 → IsArray (suc n) expected l → IsSound n expected s (value.Array l.values)
array_sound n expected l s few a = record {
  kept = array_kept (suc n) l.values l.item expected s a.each a.members;
  writable = fold.of_array Bool Bool writable_step writable_item l.values ∙ all_writable (suc n) l.item l.values a.each;
  utf8 = fold.of_array Bool Bool utf8_step utf8_item l.values ∙ all_utf8 (suc n) l.item l.values a.each;
  full = fold.of_array Bool Bool full_step full_item l.values ∙ all_full (suc n) l.item l.values a.each;
  deep = subst (λ k. k + n ≤ 64) (sym (fold.of_array ℕ ℕ depth_step depth_item l.values)) (let d = all_deep (suc n) l.item l.values (omega (arith, few)) a.each in omega (arith, d));
}

-- ---- dictionaries

keys_same : (n : ℕ) (es : Table) → AreSoundEntries n es → keys_of (map is_read_entry (items_of es)) ≡ keys_in es
keys_same n [] each = refl
keys_same n (e ∷ es) each =
    ap (λ x. x ∷ keys_of (map is_read_entry (items_of es))) (ap (λ (x : List ℕ × Bool). x.0) (fold.of_item Reading (List ℕ × Bool) reading_step reading_item e.1) ∙ each.0.key)
    ∙ ap (λ x. e.0 ∷ x) (keys_same n es each.1)

entry_kept : (v : Value) (t : DictType) → is_kept_as v (entry_shape t) false ≡ true → is_read_as v (entry_shape t) false ≡ true
entry_kept v (dict.Plain t) h = h
entry_kept v dict.Dictionary h = h

entries_proper : (n : ℕ) (es : Table) → AreSoundEntries n es → all_proper (map is_read_entry (items_of es)) ≡ true
entries_proper n [] each = refl
entries_proper n (e ∷ es) each =
    and_from (is_read_entry e.1).1 (all_proper (map is_read_entry (items_of es)))
    (ap (λ (x : List ℕ × Bool). x.1) (fold.of_item Reading (List ℕ × Bool) reading_step reading_item e.1) ∙ entry_kept e.1.value e.1.ty each.0.value.kept)
    (entries_proper n es each.1)

entries_writable : (n : ℕ) (es : Table) → AreSoundEntries n es → all_true (map is_writable_item (items_of es)) ≡ true
entries_writable n [] each = refl
entries_writable n (e ∷ es) each =
    and_from (is_writable_item e.1) (all_true (map is_writable_item (items_of es)))
    (fold.of_item Bool Bool writable_step writable_item e.1 ∙ and_from (is_utf8 e.1.key) (is_writable e.1.value) (ap is_utf8 each.0.key ∙ each.0.utf8) each.0.value.writable)
    (entries_writable n es each.1)

entries_utf8 : (n : ℕ) (es : Table) → AreSoundEntries n es → all_true (map is_utf8_entry (items_of es)) ≡ true
entries_utf8 n [] each = refl
entries_utf8 n (e ∷ es) each =
    and_from (is_utf8_entry e.1) (all_true (map is_utf8_entry (items_of es))) (fold.of_item Bool Bool utf8_step utf8_item e.1 ∙ each.0.value.utf8) (entries_utf8 n es each.1)

entries_full : (n : ℕ) (es : Table) → AreSoundEntries n es → all_true (map has_full_paths_item (items_of es)) ≡ true
entries_full n [] each = refl
entries_full n (e ∷ es) each =
    and_from (has_full_paths_item e.1) (all_true (map has_full_paths_item (items_of es))) (fold.of_item Bool Bool full_step full_item e.1 ∙ each.0.value.full) (entries_full n es each.1)

entries_deep : (n : ℕ) (es : Table) → n ≤ 64 → AreSoundEntries n es → deepest (map item_depth (items_of es)) + n ≤ 64
entries_deep n [] few each = omega (arith, few)
entries_deep n (e ∷ es) few each =
    let one : item_depth e.1 + n ≤ 64 = subst (λ k. k + n ≤ 64) (sym (fold.of_item ℕ ℕ depth_step depth_item e.1)) each.0.value.deep in
    let more = entries_deep n es few each.1 in
    omega (arith, one, more)

dict_reads : (n : ℕ) (es : Table) → are_keys_in_order (keys_in es) ≡ true → AreSoundEntries n es → (are_keys_in_order (keys_of (map is_read_entry (items_of es))) && all_proper (map is_read_entry (items_of es))) ≡ true
dict_reads n es ordered each =
    and_from (are_keys_in_order (keys_of (map is_read_entry (items_of es)))) (all_proper (map is_read_entry (items_of es))) (ap are_keys_in_order (keys_same n es each) ∙ ordered) (entries_proper n es each)

dict_kept : (n : ℕ) (es : Table) (expected : Shape) (s : Bool) → takes_dictionary expected ≡ true → are_keys_in_order (keys_in es) ≡ true → AreSoundEntries n es → is_kept_as (value.Dict (items_of es)) expected s ≡ true
dict_kept n es Untyped s may ordered each = refl
dict_kept n es Metadata s may ordered each = reads_dict (items_of es) Metadata s ∙ dict_reads n es ordered each
dict_kept n es (Typed t) s may ordered each = absurd cc
dict_kept n es Dictionary s may ordered each = reads_dict (items_of es) Dictionary s ∙ dict_reads n es ordered each

pub dict_sound : (n : ℕ) (expected : Shape) (l : Level) (s : Bool) → n < 64 → IsDict (suc n) expected l → IsSound n expected s (value.Dict (items_of l.entries))
dict_sound n expected l s few d = record {
  kept = dict_kept (suc n) l.entries expected s d.may d.ordered d.each;
  writable = fold.of_dict Bool Bool writable_step writable_item (items_of l.entries) ∙ entries_writable (suc n) l.entries d.each;
  utf8 = fold.of_dict Bool Bool utf8_step utf8_item (items_of l.entries) ∙ entries_utf8 (suc n) l.entries d.each;
  full = fold.of_dict Bool Bool full_step full_item (items_of l.entries) ∙ entries_full (suc n) l.entries d.each;
  deep = subst (λ k. k + n ≤ 64) (sym (fold.of_dict ℕ ℕ depth_step depth_item (items_of l.entries))) (let k = entries_deep (suc n) l.entries (omega (arith, few)) d.each in omega (arith, k));
}
