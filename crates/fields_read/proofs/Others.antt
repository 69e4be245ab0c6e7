-- Selected variants, and the orders of names.
use Rattle.std.proofs.Common.{◌≡◌, ◌∙◌, ℕ, Bool, true, false, List, [], ◌∷◌, ◌++◌, map, Option, Some, None, Result, Ok, Err, sym, refl, subst}
use Rattle.std.specs.Prelude.{if◌then◌else◌}
use Rattle.std.specs.Str.{is_utf8}
use Rattle.std.proofs.lemmas.Bool.{and_parts}
use Rattle.std.proofs.lemmas.Cmp.{nat_list_cmp_total}
use Rattle.std.proofs.lemmas.Map.Lookups.{exact_bytes}
use Rattle.sdf_paths.specs.Order.{text_cmp}
use Rattle.sdf_values.specs.Proper.{all_true}
use Rattle.sdf_values.specs.declared.refusal.RefusalKind.{RefusalKind}
use Rattle.sdf_values.specs.declared.refusal.RefusalKind.TheVariants.{DuplicateSpec}
use Rattle.sdf_values.specs.declared.value.DictItem.{DictItem, fold-DictItem}
use Rattle.sdf_values.specs.declared.value.DictType.{DictType}
use Rattle.sdf_values.specs.declared.value.Value.{Value}
use Rattle.sdf_values.specs.declared.value.Value.TheVariants as value
use Rattle.sdf_values.proofs.Values.{Cases, Each, by_cases}
use Rattle.spec_properties.specs.Entries.{SelectionEntries}
use Rattle.usda_fields.specs.Names.{text_of}
use Rattle.usda_fields.specs.Owners.{order_act, ordered_act, push_ordered}
use Rattle.usda_fields.specs.Variants.{Said, said, said_step, said_item, with_selection, with_selections, variants_act, selections_act}
use Rattle.usda_fields.specs.declared.owner.OrderWord.{OrderWord}
use Rattle.usda_fields.specs.declared.owner.OrderWord.TheVariants.{NameChildren, PropertyNames}
use Rattle.usda_fields.specs.declared.owner.OwnerDraft.{OwnerDraft}
use Rattle.usda_grammar.specs.declared.kinds.Keyword.{Keyword}
use Rattle.usda_lists.specs.Acts.{and_then}
use Rattle.value_texts.specs.Writable.{is_writable, is_writable_item, writable_step, writable_item}
use Rattle.value_texts.specs.Each.{AreAll}
use Rattle.value_texts.proofs.EachOf.{all_push}
use Rattle.sdf_values.proofs.Values as fold
use Rattle.layer_reads.specs.Selections.{AreSelectionsKept, IsSelectionKept}
use Rattle.layer_reads.proofs.Selections.{none_selected}
use Rattle.value_returns.specs.Fields.{IsText}
use Rattle.value_returns.proofs.Tables.{all_with}
use Rattle.fields_read.specs.Laws.{SelectionsAndOrdersAreRead}
use Rattle.fields_read.specs.Sound.{IsSaid, IsSoundSaid}
use Rattle.fields_read.proofs.Beside.{beside_of, IsProperBeside, said_beside}
use Rattle.fields_read.proofs.FieldActs.{text_such}
use Rattle.shared_tables.proofs.Order.{table_with}

-- ---- what a dictionary says of variants

-- no text, or one
abbrev IsTextOrAbsent : Option (List ℕ) → Type 0
IsTextOrAbsent None = Unit {0}
IsTextOrAbsent (Some t) = IsText t

-- a set and a variant, where one is said
abbrev IsEntrySaid : List ℕ × Option (List ℕ) → Type 0
IsEntrySaid e = IsText e.0 × IsTextOrAbsent e.1

-- what a value says of variants, and what an entry does
abbrev said_entry : DictItem → List ℕ × Option (List ℕ)
said_entry = fold-DictItem Said (List ℕ × Option (List ℕ)) said_step said_item

-- it is UTF-8
abbrev SaysTexts : Said → Type 0
SaysTexts s = IsTextOrAbsent s.text × AreAll IsEntrySaid s.entries

-- of a value that can be written
abbrev IsSaidSo : Value → Type 0
IsSaidSo v = is_writable v ≡ true → SaysTexts (said v)

abbrev IsEntrySo : DictItem → Type 0
IsEntrySo item = is_writable_item item ≡ true → IsEntrySaid (said_entry item)

says_none : (v : Value) → said v ≡ record { text = None; entries = [] } → IsSaidSo v
says_none v e h = subst SaysTexts (sym e) (tt, tt)

text_so : (t : List ℕ) → IsSaidSo (value.Text t)
text_so t h =
    let utf8 : IsText t = sym (fold.of_text Bool Bool writable_step writable_item t) ∙ h in
    subst SaysTexts (sym (fold.of_text Said (List ℕ × Option (List ℕ)) said_step said_item t)) (utf8, tt)

items_so : (items : List DictItem) → Each IsEntrySo items → all_true (map is_writable_item items) ≡ true → AreAll IsEntrySaid (map said_entry items)
items_so [] each h = tt
items_so (item ∷ items) each h =
    let p = and_parts (is_writable_item item) (all_true (map is_writable_item items)) h in
    (each.0 p.0, items_so items each.1 p.1)

dict_so : (items : List DictItem) → Each IsEntrySo items → IsSaidSo (value.Dict items)
dict_so items each h =
    let entries : AreAll IsEntrySaid (map said_entry items) = items_so items each (sym (fold.of_dict Bool Bool writable_step writable_item items) ∙ h) in
    subst SaysTexts (sym (fold.of_dict Said (List ℕ × Option (List ℕ)) said_step said_item items)) (tt, entries)

item_so : (k : List ℕ) (t : DictType) (v : Value) → IsSaidSo v → IsEntrySo (record { key = k; ty = t; value = v })
item_so k t v so h =
    let item : DictItem = record { key = k; ty = t; value = v } in
    let q = and_parts (is_utf8 k) (is_writable v) (sym (fold.of_item Bool Bool writable_step writable_item item) ∙ h) in
    let here : IsEntrySaid (k, (said v).text) = (q.0, (so q.1).0) in
    subst IsEntrySaid (sym (fold.of_item Said (List ℕ × Option (List ℕ)) said_step said_item item)) here

said_cases : Cases IsSaidSo IsEntrySo
said_cases = record {
  bool = λ b. says_none (value.Bool b) (fold.of_bool Said (List ℕ × Option (List ℕ)) said_step said_item b);
  whole = λ n. says_none (value.Whole n) (fold.of_whole Said (List ℕ × Option (List ℕ)) said_step said_item n);
  number = λ x. says_none (value.Number x) (fold.of_number Said (List ℕ × Option (List ℕ)) said_step said_item x);
  time = λ t. says_none (value.Time t) (fold.of_time Said (List ℕ × Option (List ℕ)) said_step said_item t);
  text = text_so;
  asset = λ t. says_none (value.Asset t) (fold.of_asset Said (List ℕ × Option (List ℕ)) said_step said_item t);
  path = λ t. says_none (value.PathText t) (fold.of_path Said (List ℕ × Option (List ℕ)) said_step said_item t);
  word = λ t. says_none (value.Word t) (fold.of_word Said (List ℕ × Option (List ℕ)) said_step said_item t);
  block = says_none value.Block (fold.of_block Said (List ℕ × Option (List ℕ)) said_step said_item);
  tuple = λ vs each. says_none (value.Tuple vs) (fold.of_tuple Said (List ℕ × Option (List ℕ)) said_step said_item vs);
  array = λ vs each. says_none (value.Array vs) (fold.of_array Said (List ℕ × Option (List ℕ)) said_step said_item vs);
  dict = dict_so;
  item = item_so;
}

-- the sets and variants of a value that can be written are UTF-8
entries_said : (v : Value) → is_writable v ≡ true → AreAll IsEntrySaid (said v).entries
entries_said v h = (by_cases IsSaidSo IsEntrySo said_cases v h).1

-- ---- the variants that are selected

selection_kept : (set : List ℕ) (o : Option (List ℕ)) (selections : SelectionEntries) → IsText set → IsTextOrAbsent o → AreSelectionsKept selections → AreSelectionsKept (with_selection set o selections)
selection_kept set None selections s v kept = kept
selection_kept set (Some variant) selections s v kept = record {
  ordered = table_with nat_list_cmp_total set variant selections kept.ordered;
  each = all_with text_cmp exact_bytes IsSelectionKept set variant selections (s, v) kept.each;
}

selections_kept : (entries : List (List ℕ × Option (List ℕ))) (selections : SelectionEntries) → AreAll IsEntrySaid entries → AreSelectionsKept selections → AreSelectionsKept (with_selections entries selections)
selections_kept [] selections all kept = kept
selections_kept (e ∷ entries) selections all kept = selections_kept entries (with_selection e.0 e.1 selections) all.1 (selection_kept e.0 e.1 selections all.0.0 all.0.1 kept)

module _ (is_name : Keyword → Bool) where
  -- what is marked does not matter
  stays : {a b c : Bool} (d : OwnerDraft) → IsSaid is_name d → IsProperBeside is_name (record (beside_of d) { has_variants = a; has_child_order = b; has_property_order = c })
  stays d sound = record { keys = sound.keys; selections = sound.selections; child_order = sound.child_order; property_order = sound.property_order }

  variants_begun : (d next : OwnerDraft) → IsSoundSaid is_name None d → variants_act d ≡ Ok next → IsSoundSaid is_name None next
  variants_begun d next sound h = by d.given.variants h
    where
      by : (b : Bool) → (if b then Err DuplicateSpec else Ok (record d { given = record d.given { variants = true } })) ≡ Ok next → IsSaid is_name next
      by true g = absurd cc
      by false g =
          let so : record d { given = record d.given { variants = true } } ≡ next = cc in
          subst (IsSaid is_name) so (said_beside is_name (record (beside_of d) { has_variants = true }) d sound (stays d sound))

  selections_said : (v : Value) (d : OwnerDraft) → IsSoundSaid is_name None d → is_writable v ≡ true → IsSoundSaid is_name None (selections_act v d)
  selections_said v d sound h =
      let kept : AreSelectionsKept (with_selections (said v).entries []) = selections_kept (said v).entries [] (entries_said v h) none_selected in
      said_beside is_name (record (beside_of d) { selections = with_selections (said v).entries [] }) d sound
      (record { keys = sound.keys; selections = kept; child_order = sound.child_order; property_order = sound.property_order })

  -- ---- orders

  order_begun : (word : OrderWord) (d next : OwnerDraft) → IsSoundSaid is_name None d → order_act word d ≡ Ok next → IsSoundSaid is_name None next
  order_begun NameChildren d next sound h = by d.given.child_order h
    where
      by : (b : Bool) → (if b then Err DuplicateSpec else Ok (record d { given = record d.given { child_order = true } })) ≡ Ok next → IsSaid is_name next
      by true g = absurd cc
      by false g =
          let so : record d { given = record d.given { child_order = true } } ≡ next = cc in
          subst (IsSaid is_name) so (said_beside is_name (record (beside_of d) { has_child_order = true }) d sound (stays d sound))
  order_begun PropertyNames d next sound h = by d.given.property_order h
    where
      by : (b : Bool) → (if b then Err DuplicateSpec else Ok (record d { given = record d.given { property_order = true } })) ≡ Ok next → IsSaid is_name next
      by true g = absurd cc
      by false g =
          let so : record d { given = record d.given { property_order = true } } ≡ next = cc in
          subst (IsSaid is_name) so (said_beside is_name (record (beside_of d) { has_property_order = true }) d sound (stays d sound))

  name_pushed : (word : OrderWord) (name : List ℕ) (d : OwnerDraft) → IsSaid is_name d → IsText name → IsSaid is_name (push_ordered word name d)
  name_pushed NameChildren name d sound utf8 =
      said_beside is_name (record (beside_of d) { child_order = d.spec.body.child_order ++ name ∷ [] }) d sound
      (record { keys = sound.keys; selections = sound.selections; child_order = all_push IsText d.spec.body.child_order name sound.child_order utf8; property_order = sound.property_order })
  name_pushed PropertyNames name d sound utf8 =
      said_beside is_name (record (beside_of d) { property_order = d.spec.body.property_order ++ name ∷ [] }) d sound
      (record { keys = sound.keys; selections = sound.selections; child_order = sound.child_order; property_order = all_push IsText d.spec.body.property_order name sound.property_order utf8 })

  name_ordered : (word : OrderWord) (token : List ℕ) (d next : OwnerDraft) → IsSoundSaid is_name None d → ordered_act word token d ≡ Ok next → IsSoundSaid is_name None next
  name_ordered word token d next sound h = by (text_of token) refl h
    where
      by : (t : Result (List ℕ) RefusalKind) → text_of token ≡ t → and_then t (λ name. Ok (push_ordered word name d)) ≡ Ok next → IsSaid is_name next
      by (Ok name) e g =
          let so : push_ordered word name d ≡ next = cc in
          subst (IsSaid is_name) so (name_pushed word name d sound (text_such token name e))
      by (Err k) e g = absurd cc

  pub others_read : SelectionsAndOrdersAreRead is_name
  others_read = record { variants = variants_begun; selections = selections_said; order = order_begun; ordered = name_ordered }
