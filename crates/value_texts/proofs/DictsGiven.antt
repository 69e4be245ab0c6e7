-- Dictionaries that are given to a draft.
use Rattle.std.proofs.Common.{◌≡◌, ◌∙◌, ℕ, suc, ◌+◌, ◌<◌, ◌≤◌, ◌&&◌, nat_le, Bool, true, false, List, [], ◌∷◌, ◌++◌, append_assoc, append-nil, length, length-append, map, Some, None, Ok, Err, ap, sym, refl, subst, arith}
use Rattle.std.specs.Prelude.{if◌then◌else◌, codes}
use Rattle.std.specs.Str.{is_utf8}
use Rattle.std.proofs.lemmas.Bool.Decides.{nat_tests}
use Rattle.std.proofs.lemmas.Bool.{and_parts}
use Rattle.sdf_values.proofs.Elements.{type_is_found}
use Rattle.sdf_values.specs.Proper.{is_below, all_true, are_keys_behind, are_keys_in_order, all_proper, keys_of}
use Rattle.sdf_values.specs.TypeNames.{element_name, find_element}
use Rattle.sdf_values.specs.Print.{quoted, is_plain_key}
use Rattle.sdf_values.specs.declared.refusal.RefusalKind.TheVariants.{ValueShape, TooDeep, DuplicateSpec}
use Rattle.sdf_values.specs.declared.type_name.ElementType.{ElementType}
use Rattle.sdf_values.specs.declared.type_name.TheConstants.{ELEMENTS}
use Rattle.sdf_values.specs.declared.value.DictType.{DictType}
use Rattle.sdf_values.specs.declared.value.DictType.TheVariants as dict
use Rattle.sdf_values.specs.declared.value.DictItem.{DictItem}
use Rattle.sdf_values.specs.declared.value.Value.{Value}
use Rattle.sdf_values.specs.declared.value.Value.TheOpen.{Value-F}
use Rattle.sdf_values.specs.declared.value.Value.TheVariants as value
use Rattle.sdf_values.proofs.Values.{Each}
use Rattle.usda_lexer.specs.declared.token.TokenKind.TheVariants as kind
use Rattle.usda_values.specs.declared.shape.Shape.{Shape}
use Rattle.usda_values.specs.declared.shape.Shape.TheVariants.{Untyped, Metadata, Typed, Dictionary}
use Rattle.usda_values.specs.declared.level.Bracket.{Bracket}
use Rattle.usda_values.specs.declared.level.Bracket.TheVariants as bracket
use Rattle.usda_values.specs.declared.level.Place.{Place}
use Rattle.usda_values.specs.declared.level.Place.TheVariants as place
use Rattle.usda_values.specs.declared.level.Level.{Level}
use Rattle.usda_values.specs.declared.draft.ValueDraft.{ValueDraft}
use Rattle.usda_values.specs.Entries.{Table, has_key, with_entry, items_of}
use Rattle.usda_values.specs.Shapes.{entry_shape, takes_dictionary}
use Rattle.usda_values.specs.Drafts.{new_level, give_act, close_act, closes, value_act, act_at, key_act, typed_entry, type_act, deeper, open_dict, is_full, is_statement}
use Rattle.value_texts.specs.Cuts.{Said}
use Rattle.value_texts.specs.Acts.{acts}
use Rattle.value_texts.specs.Writable.{is_writable, is_writable_item, writable_step, writable_item}
use Rattle.value_texts.specs.ValueWords.{words_of_value, words_of_item, said_step, said_item, entries_said, type_said, dict_type_said, key_said, name_said, string_said, equals, open_brace, close_brace, open_bracket, close_bracket}
use Rattle.value_texts.specs.Readable.{Reading, is_read_as, is_read_entry, reading_step, reading_item, depth, item_depth, depth_step, depth_item, deepest}
use Rattle.value_texts.proofs.StringTokens.{string_means}
use Rattle.value_texts.proofs.TypeTexts.{type_is_no_dictionary}
use Rattle.sdf_values.proofs.Values as fold
use Rattle.value_texts.proofs.Given.{acts_one, acts_then, first_token, went_out, closed, IsGiven}
use Rattle.value_texts.proofs.KeysInOrder.{table_of, items_back, AllBelow, no_key, put_last, table_more, all_below_next}

-- a draft within a dictionary
abbrev pub in_dict : Place → Shape → List ℕ → DictType → Table → List Level → ValueDraft
in_dict p item key ty entries outer =
    record { place = p; level = record { bracket = bracket.Dict; item = item; room = None; values = []; entries = entries; key = key; ty = ty }; outer = outer }

-- the type of an entry may come
abbrev types : Place → Bool
types place.EntryType = true
types place.BehindEntry = true
types p = false

-- a key may come
abbrev keys : Place → Bool
keys place.BehindType = true
keys place.Key = true
keys p = false

type_token : (p : Place) (text : List ℕ) (d : ValueDraft) → types p ≡ true → act_at p kind.Name text d ≡ type_act text d
type_token place.EntryType text d h = refl
type_token place.BehindEntry text d h = refl
type_token _ text d h = absurd cc

abbrev element_type : ElementType → Bool → DictType
element_type e array = dict.Plain (record { element = e; array = array })

module _ (item : Shape) (key : List ℕ) (ty : DictType) (entries : Table) (outer : List Level) where
  element_given : (e : ElementType) (p : Place) → types p ≡ true → value_act kind.Name (element_name e) (in_dict p item key ty entries outer) ≡ Ok (in_dict place.BehindType item key (element_type e false) entries outer)
  unfolding value_act
  element_given e p h =
      let d : ValueDraft = in_dict p item key ty entries outer in
      type_token p (element_name e) d h
      ∙ ap (λ b. if b then Ok (record d { place = place.Key; level = record d.level { ty = dict.Dictionary } }) else typed_entry (find_element ELEMENTS (element_name e)) d) (type_is_no_dictionary e)
      ∙ ap (λ o. typed_entry o d) (type_is_found e)

  type_given : (e : ElementType) (array : Bool) (p : Place) → types p ≡ true
      → (q : Place) × (keys q ≡ true) × (acts (type_said (record { element = e; array = array })) (in_dict p item key ty entries outer) ≡ Ok (in_dict q item key (element_type e array) entries outer))
  unfolding value_act
  type_given e false p h = (place.BehindType, refl, acts_one (name_said (element_name e)) [] (in_dict p item key ty entries outer) (in_dict place.BehindType item key (element_type e false) entries outer) (element_given e p h))
  type_given e true p h =
      (place.Key, refl, acts_one (name_said (element_name e)) (open_bracket ∷ close_bracket ∷ []) (in_dict p item key ty entries outer) (in_dict place.BehindType item key (element_type e false) entries outer) (element_given e p h))

  dict_type_given : (t : DictType) (p : Place) → types p ≡ true
      → (q : Place) × (keys q ≡ true) × (acts (dict_type_said t) (in_dict p item key ty entries outer) ≡ Ok (in_dict q item key t entries outer))
  unfolding value_act
  dict_type_given (dict.Plain t) p h = type_given t.element t.array p h
  dict_type_given dict.Dictionary p h = (
    place.Key,
    refl,
    acts_one (name_said (codes "dictionary")) [] (in_dict p item key ty entries outer) (in_dict place.Key item key dict.Dictionary entries outer)
        (type_token p (codes "dictionary") (in_dict p item key ty entries outer) h),
  )

  key_token : (k : List ℕ) (p : Place) → keys p ≡ true → is_utf8 k ≡ true → value_act (key_said k).kind (key_said k).text (in_dict p item key ty entries outer) ≡ key_act (Some k) (in_dict p item key ty entries outer)
  unfolding value_act
  key_token k p h u = test (is_plain_key k) p h
    where
      test : (b : Bool) (p : Place) → keys p ≡ true
          → act_at p (if b then name_said k else string_said (quoted k)).kind (if b then name_said k else string_said (quoted k)).text (in_dict p item key ty entries outer) ≡ key_act (Some k) (in_dict p item key ty entries outer)
      test true place.BehindType e = refl
      test true place.Key e = refl
      test false place.BehindType e = ap (λ o. key_act o (in_dict place.BehindType item key ty entries outer)) (string_means k u)
      test false place.Key e = ap (λ o. key_act o (in_dict place.Key item key ty entries outer)) (string_means k u)
      test b _ e = absurd cc

  key_given : (k : List ℕ) (p : Place) → keys p ≡ true → is_utf8 k ≡ true → has_key k entries ≡ false
      → value_act (key_said k).kind (key_said k).text (in_dict p item key ty entries outer) ≡ Ok (in_dict place.Equals item k ty entries outer)
  key_given k p h u none =
      key_token k p h u ∙ ap (λ b. if b then Err DuplicateSpec else Ok (in_dict place.Equals item k ty entries outer)) none

-- what is to be shown of an entry
abbrev pub IsGivenItem : DictItem → Type 0
IsGivenItem i =
    (p : Place) (item : Shape) (key : List ℕ) (ty : DictType) (entries : Table) (outer : List Level) → types p ≡ true → is_writable_item i ≡ true → (is_read_entry i).1 ≡ true → has_key i.key entries ≡ false
    → item_depth i + length outer ≤ 64 → acts (words_of_item i) (in_dict p item key ty entries outer) ≡ Ok (in_dict place.BehindEntry (entry_shape i.ty) i.key i.ty (with_entry i.key i entries) outer)

pub item_given : (k : List ℕ) (t : DictType) (v : Value) → IsGiven v → IsGivenItem (record { key = k; ty = t; value = v })
unfolding value_act
item_given k t v given p item key ty entries outer h w r none deep =
    let i : DictItem = record { key = k; ty = t; value = v } in
    let parts = and_parts (is_utf8 k) (is_writable v) (sym (fold.of_item Bool Bool writable_step writable_item i) ∙ w) in
    let read : is_read_as v (entry_shape t) false ≡ true = sym (ap (λ e. e.1) (fold.of_item Reading (List ℕ × Bool) reading_step reading_item i)) ∙ r in
    let low : depth v + length outer ≤ 64 = subst (λ n. n + length outer ≤ 64) (fold.of_item ℕ ℕ depth_step depth_item i) deep in
    let typed = dict_type_given item key ty entries outer t p h in
    ap (λ x. acts x (in_dict p item key ty entries outer)) (fold.of_item (List Said) (List Said) said_step said_item i)
    ∙ acts_then (dict_type_said t) (key_said k ∷ equals ∷ words_of_value v) (in_dict p item key ty entries outer) (in_dict typed.0 item key t entries outer) typed.2
    ∙ acts_one (key_said k) (equals ∷ words_of_value v) (in_dict typed.0 item key t entries outer) (in_dict place.Equals item k t entries outer) (key_given item key t entries outer k typed.0 typed.1 parts.0 none)
    ∙ acts_one equals (words_of_value v) (in_dict place.Equals item k t entries outer) (in_dict place.Value (entry_shape t) k t entries outer) refl
    ∙ given (in_dict place.Value (entry_shape t) k t entries outer) refl refl parts.1 read low

-- the entries that are left, behind those that are given
abbrev InOrder : List DictItem → List DictItem → Type 0
InOrder done [] = Unit {0}
InOrder done (i ∷ is) = AllBelow done i.key × (are_keys_behind i.key (map (λ (j : DictItem). j.key) is) ≡ true)

next_in_order : (done : List DictItem) (i : DictItem) (is : List DictItem) → InOrder done (i ∷ is) → InOrder (done ++ i ∷ []) is
next_in_order done i [] h = tt
next_in_order done i (j ∷ js) h =
    let p = and_parts (is_below i.key j.key) (are_keys_behind j.key (map (λ (j : DictItem). j.key) js)) h.1 in
    (all_below_next done i j.key h.0 p.0, p.1)

closes_dict : (p : Place) (d : ValueDraft) → types p ≡ true → act_at p close_brace.kind close_brace.text d ≡ close_act d
closes_dict place.EntryType d h = refl
closes_dict place.BehindEntry d h = refl
closes_dict _ d h = absurd cc

entries_given : (l : Level) (outer : List Level) (items done : List DictItem) (p : Place) (item : Shape) (key : List ℕ) (ty : DictType) → types p ≡ true → Each IsGivenItem items
    → all_true (map is_writable_item items) ≡ true → all_proper (map is_read_entry items) ≡ true → InOrder done items → deepest (map item_depth items) + suc (length outer) ≤ 64
    → acts (entries_said (map words_of_item items) ++ close_brace ∷ []) (in_dict p item key ty (table_of done) (outer ++ l ∷ [])) ≡ Ok (closed l outer (value.Dict (done ++ items)))
unfolding value_act
entries_given l outer [] done p item key ty h each w r order deep =
    let d : ValueDraft = in_dict p item key ty (table_of done) (outer ++ l ∷ []) in
    acts_one close_brace [] d (closed l outer (value.Dict (items_of (table_of done)))) (closes_dict p d h ∙ went_out l outer d refl refl)
    ∙ ap (λ x. Ok (closed l outer (value.Dict x))) (items_back done ∙ sym (append-nil done))
entries_given l outer (i ∷ is) done p item key ty h each w r order deep =
    let x = and_parts (is_writable_item i) (all_true (map is_writable_item is)) w in
    let y = and_parts (is_read_entry i).1 (all_proper (map is_read_entry is)) r in
    let d : ValueDraft = in_dict p item key ty (table_of done) (outer ++ l ∷ []) in
    let rest : List Said = entries_said (map words_of_item is) ++ close_brace ∷ [] in
    ap (λ t. acts t d) (append_assoc (words_of_item i) (entries_said (map words_of_item is)) (close_brace ∷ []))
    ∙ acts_then (words_of_item i) rest d (in_dict place.BehindEntry (entry_shape i.ty) i.key i.ty (with_entry i.key i (table_of done)) (outer ++ l ∷ []))
    (each.0 p item key ty (table_of done) (outer ++ l ∷ []) h x.0 y.0 (no_key done i.key order.0) (omega (arith, deep, length-append outer (l ∷ []))))
    ∙ ap (λ t. acts rest (in_dict place.BehindEntry (entry_shape i.ty) i.key i.ty t (outer ++ l ∷ []))) (put_last done i.key i order.0 ∙ table_more done i)
    ∙ entries_given l outer is (done ++ i ∷ []) place.BehindEntry (entry_shape i.ty) i.key i.ty refl each.1 x.1 y.1 (next_in_order done i is order) (omega (arith, deep))
    ∙ ap (λ x. Ok (closed l outer (value.Dict x))) (append_assoc done (i ∷ []) is)

-- the keys of entries that are read
read_key : (i : DictItem) → (is_read_entry i).0 ≡ i.key
read_key i = ap (λ e. e.0) (fold.of_item Reading (List ℕ × Bool) reading_step reading_item i)

read_keys : (items : List DictItem) → keys_of (map is_read_entry items) ≡ map (λ (j : DictItem). j.key) items
read_keys [] = refl
read_keys (i ∷ is) = ap (λ k. k ∷ keys_of (map is_read_entry is)) (read_key i) ∙ ap (λ l. i.key ∷ l) (read_keys is)

from_start : (items : List DictItem) → are_keys_in_order (map (λ (j : DictItem). j.key) items) ≡ true → InOrder [] items
from_start [] h = tt
from_start (i ∷ is) h = (tt, h)

-- what a dictionary has to be wherever it is read
reads_dict : (es : List (List ℕ × Bool)) (shape : Shape) (s : Bool) → reading_step (Value-F.Dict es) shape s ≡ true → (takes_dictionary shape ≡ true) × ((are_keys_in_order (keys_of es) && all_proper es) ≡ true)
reads_dict es Untyped s h = (refl, h)
reads_dict es Metadata s h = (refl, h)
reads_dict es (Typed t) true h = absurd cc
reads_dict es (Typed t) false h = absurd cc
reads_dict es Dictionary s h = (refl, h)

opens_dict : (b : Bracket) → closes b open_brace.kind ≡ false
opens_dict bracket.Statement = refl
opens_dict bracket.Tuple = refl
opens_dict bracket.Array = refl
opens_dict bracket.Dict = refl

dict_opened : (d : ValueDraft) → is_full d.level.room ≡ false → takes_dictionary d.level.item ≡ true → length d.outer < 64
    → open_dict d ≡ Ok (in_dict place.EntryType Untyped [] dict.Dictionary [] (d.outer ++ d.level ∷ []))
dict_opened d room takes few =
    let test : nat_le 64 (length d.outer) ≡ false = grind (arith, nat_tests) in
    ap (λ t. if t then Err ValueShape else if takes_dictionary d.level.item then deeper place.EntryType (new_level bracket.Dict Untyped None) d else Err ValueShape) room
    ∙ ap (λ t. if t then deeper place.EntryType (new_level bracket.Dict Untyped None) d else Err ValueShape) takes
    ∙ ap (λ t. if t then Err TooDeep else Ok (in_dict place.EntryType Untyped [] dict.Dictionary [] (d.outer ++ d.level ∷ []))) test

-- a dictionary whose first token makes of the draft what it makes where a value has to come
pub dict_from : (items : List DictItem) → Each IsGivenItem items → (d : ValueDraft) → value_act open_brace.kind open_brace.text d ≡ open_dict d → is_full d.level.room ≡ false
    → is_writable (value.Dict items) ≡ true → is_read_as (value.Dict items) d.level.item (is_statement d.level.bracket) ≡ true → depth (value.Dict items) + length d.outer ≤ 64
    → acts (words_of_value (value.Dict items)) d ≡ Ok (give_act (value.Dict items) d)
dict_from items each d first room w r deep =
    let s : Bool = is_statement d.level.bracket in
    let read = reads_dict (map is_read_entry items) d.level.item s (sym (ap (λ f. f d.level.item s) (fold.of_dict Reading (List ℕ × Bool) reading_step reading_item items)) ∙ r) in
    let parts = and_parts (are_keys_in_order (keys_of (map is_read_entry items))) (all_proper (map is_read_entry items)) read.1 in
    let order : are_keys_in_order (map (λ (j : DictItem). j.key) items) ≡ true = sym (ap are_keys_in_order (read_keys items)) ∙ parts.0 in
    let level : suc (deepest (map item_depth items)) + length d.outer ≤ 64 = subst (λ n. n + length d.outer ≤ 64) (fold.of_dict ℕ ℕ depth_step depth_item items) deep in
    let inner : ValueDraft = in_dict place.EntryType Untyped [] dict.Dictionary [] (d.outer ++ d.level ∷ []) in
    ap (λ x. acts x d) (fold.of_dict (List Said) (List Said) said_step said_item items)
    ∙ acts_one open_brace (entries_said (map words_of_item items) ++ close_brace ∷ []) d inner (first ∙ dict_opened d room read.0 (omega (arith, level)))
    ∙ entries_given d.level d.outer items [] place.EntryType Untyped [] dict.Dictionary refl each (sym (fold.of_dict Bool Bool writable_step writable_item items) ∙ w) parts.1 (from_start items order) (omega (arith, level))

pub dict_given : (items : List DictItem) → Each IsGivenItem items → IsGiven (value.Dict items)
dict_given items each d h room w r deep = dict_from items each d (first_token open_brace.kind open_brace.text d h opens_dict) room w r deep
