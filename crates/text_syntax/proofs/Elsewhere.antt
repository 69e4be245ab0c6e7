-- A word that is no value's is refused as `Syntax` only for a rule that it breaks.
use Rattle.std.proofs.Common.{◌≡◌, ℕ, Bool, true, false, List, [], ◌∷◌, Option, Some, None, Result, Ok, Err, refl}
use Rattle.std.specs.Prelude.{if◌then◌else◌}
use Rattle.plain_data.specs.Ends.{last, front}
use Rattle.sdf_values.specs.TypeNames.{find_element}
use Rattle.sdf_values.specs.declared.refusal.RefusalKind.{RefusalKind}
use Rattle.sdf_values.specs.declared.refusal.RefusalKind.TheVariants.{DuplicateSpec, TooDeep}
use Rattle.std.specs.Prelude.{◌++◌, ◌||◌, ◌&&◌, ◌⊎◌, not, nat_lt, ◌==◌, nat_le, int_le, unsigned_abs, ℤ, pos, codes, is_some}
use Rattle.std.specs.Cmp.Lexicographic.{pointwise}
use Rattle.std.proofs.Common.{sym, subst, ap, ◌∙◌, inl, inr}
use Rattle.sdf_paths.specs.Order.{text_cmp}
use Rattle.sdf_values.specs.declared.decimal.Num.{Num}
use Rattle.sdf_values.specs.Scales.{Offset}
use Rattle.sdf_values.specs.declared.refusal.RefusalKind.TheVariants.{Syntax, NumberTooLong, OffsetRange, ReferenceData, TooLong}
use Rattle.sdf_values.specs.declared.type_name.ElementType.{ElementType}
use Rattle.sdf_values.specs.declared.type_name.TheConstants.{ELEMENTS}
use Rattle.sdf_values.specs.declared.value.Value.TheVariants as value
use Rattle.spec_parts.specs.declared.items.SubLayer.{SubLayer}
use Rattle.spec_properties.specs.Entries.{MetaEntries}
use Rattle.spec_properties.specs.Properties.{property_at}
use Rattle.spec_properties.specs.declared.property.Property.{Property}
use Rattle.spec_properties.specs.declared.property.Property.TheVariants.{Attr, Rel}
use Rattle.spec_tables.specs.Tables.{with_key}
use Rattle.usda_drafts.specs.Owners.{marks_at}
use Rattle.usda_drafts.specs.Values.{in_range, finite_time}
use Rattle.usda_drafts.specs.declared.fault.Refused.{Refused}
use Rattle.usda_fields.specs.Keys as keys
use Rattle.usda_fields.specs.Keys.{has_key, unless_taken, key_rule, comment_key}
use Rattle.usda_fields.specs.Names.{if_utf8, if_named, identifier_of, variant_of, prim_path, variant_path, is_long, has_variants}
use Rattle.usd_names.specs.Names.{is_identifier, is_variant}
use Rattle.std.specs.Option.{option_map}
use Rattle.sdf_paths.specs.Paths.{is_property, depth, plain}
use Rattle.sdf_paths.specs.declared.element.Element.{Element}
use Rattle.sdf_paths.specs.declared.element.Element.TheVariants.{Prim, Selection}
use Rattle.usda_drafts.specs.Closed.{is_closed}
use Rattle.usda_drafts.specs.Places.{prim_place, variant_place}
use Rattle.usda_fields.specs.declared.field.ListField.{ListField}
use Rattle.usda_fields.specs.declared.field.PathField.{PathField}
use Rattle.usda_lists.specs.Edits.{clashes, is_given, with_given, give}
use Rattle.usda_lists.specs.declared.edit.GivenLists.{GivenLists}
use Rattle.usda_lists.specs.Paths.{path_from}
use Rattle.spec_parts.specs.declared.items.RefItem.{RefItem}
use Rattle.usda_lists.specs.Offsets.{identity}
use Rattle.usda_fields.specs.declared.field.ReferenceField.{ReferenceField}
use Rattle.usda_fields.specs.declared.keys.KeyRule.TheVariants.{Relocates}
use Rattle.usda_fields.specs.declared.owner.OrderWord.TheVariants.{PropertyNames}
use Rattle.usda_lexer.specs.Meanings.{string_text, path_text}
use Rattle.usda_lists.specs.Lists.{amended, amend_list, list_at, with_list, push_item, open_list as with_opened}
use Rattle.usda_lists.specs.Offsets.{with_part, with_number, whole_number}
use Rattle.usda_lists.specs.References.{with_number_of, path_or_none, some_path, path_item, with_path as with_item_path}
use Rattle.usda_lists.specs.declared.offset.OffsetKey.{OffsetKey}
use Rattle.usda_lists.specs.declared.offset.OffsetKey.TheVariants as key
use Rattle.usda_statements.specs.Headings.{of_element}
use Rattle.usda_statements.specs.PropertyDrafts.{joined, joined_to, is_attribute_of, with_meta, list_act, path_act, with_path as with_target}
use Rattle.usda_statements.specs.declared.heading.Heading.{Heading}
use Rattle.usda_statements.specs.declared.property.PropertyMarks.{PropertyMarks}
use Rattle.text_syntax.proofs.Tokens.{act_is}
use Rattle.usda_drafts.specs.Acts.{layers_act, prims_act, bodies_act}
use Rattle.usda_drafts.specs.Bodies.{headed, type_act, after_variability_act, after_custom_act, after_edit_act, after_reorder_act, statement_act, body_act, brackets_act, with_name, name_act, default_begun, samples_begun, list_begun, tail_act, dot_act, sample_act}
use Rattle.usda_drafts.specs.Lists.{string_act, list_path_act, asset_act, lone_path_act, item_path_act, end_act, in_list_act, in_references_act, sublayer_act, offset_key_act, number_act}
use Rattle.usda_drafts.specs.Metadata.{field_act, in_field, said_act, comment_act, key_act, variants_act, string_field_act, path_field_act, reference_field_act, edit_act, edited_act, prim_item_act, sublayers_act, head_item_act, root_act, in_order, ordered_by, order_act, root_order_act, order_name_act, property_rule, property_key_act, property_item_act}
use Rattle.usda_drafts.specs.Owners.{property_for, has_set, with_set}
use Rattle.usda_drafts.specs.Prims.{with_prim, entered_prim, named_prim, begun_set, with_variant_at, entered_variant, named_variant, specifier_act, prim_type_act, prim_name_act, open_act, set_name_act, variant_name_act, with_statement_over, body_end_act}
use Rattle.usda_drafts.specs.Refusals.{refused, placed, then_with}
use Rattle.usda_drafts.specs.Values.{aimed, aimed_at_key, aimed_at_default, aimed_at_sample, time_of_number, time_act, with_said, with_property}
use Rattle.usda_drafts.specs.declared.aim.Goal.TheVariants as goal
use Rattle.usda_drafts.specs.declared.draft.Draft.{Draft}
use Rattle.usda_drafts.specs.declared.draft.OpenList.{OpenList}
use Rattle.usda_drafts.specs.declared.draft.OpenList.TheVariants as open_list
use Rattle.usda_drafts.specs.declared.owner.Owner.{Owner}
use Rattle.usda_fields.specs.Fields as fields
use Rattle.usda_fields.specs.Owners as owner
use Rattle.usda_fields.specs.Variants as variants
use Rattle.usda_fields.specs.declared.field.ListField.TheVariants.{Paths, References, Texts}
use Rattle.usda_fields.specs.declared.owner.OrderWord.{OrderWord}
use Rattle.usda_fields.specs.declared.owner.OwnerDraft.{OwnerDraft}
use Rattle.usda_fields.specs.declared.keys.KeyRule.{KeyRule}
use Rattle.usda_grammar.specs.declared.kinds.WordKind.{WordKind}
use Rattle.usda_grammar.specs.declared.kinds.WordKind.TheVariants as token
use Rattle.usda_grammar.specs.declared.kinds.Keyword.TheVariants as word
use Rattle.usda_grammar.specs.declared.symbols.Symbol.{Symbol}
use Rattle.usda_grammar.specs.declared.symbols.Symbol.TheVariants as symbol
use Rattle.usda_lists.specs.Acts.{and_then}
use Rattle.usda_lists.specs.declared.edit.ListEdit.{ListEdit}
use Rattle.usda_lists.specs.declared.edit.ListEdit.TheVariants.{Explicit}
use Rattle.usda_lexer.specs.Meanings.{number_of}
use Rattle.usda_lists.specs.Lists.{amend_last}
use Rattle.usda_lists.specs.Offsets.{offset_key}
use Rattle.usda_lists.specs.References.{sublayer_number}
use Rattle.usda_statements.specs.Headings.{begun, with_type}
use Rattle.usda_statements.specs.PropertyDrafts.{default_act, samples_act, meta_comment_act}
use Rattle.usda_fields.specs.declared.owner.OrderWord.TheVariants.{NameChildren}
use Rattle.usda_values.specs.declared.shape.Shape.TheVariants.{Dictionary}
use Rattle.usda_statements.specs.declared.property.PropertyDraft.{PropertyDraft}
use Rattle.usda_words.specs.Words.{Word}
use Rattle.text_syntax.specs.Open.{begins_value}
use Rattle.text_syntax.specs.Elsewhere.{IsNoPathOfList, IsClash, IsPropertyClash, IsConnectClash, BreaksRule, OtherWordsHaveRules}
use Rattle.text_syntax.proofs.Tokens.{IsPlain, kept_plain}

-- a refusal as `Syntax` is for this
abbrev Ruled : Type 0 → Result Draft Refused → Type 0
Ruled P (Ok d) = Unit {0}
Ruled P (Err r) = r.kind ≡ Syntax → P

then_clean : {A : Type 0} (at : ℕ) (r : Result A RefusalKind) (make : A → Draft) → IsPlain r → Ruled ⊥ (then_with at r make)
then_clean at (Ok a) make h = tt
then_clean at (Err k) make h = h

if_clean : (b : Bool) (r : Refused) (d : Draft) → (r.kind ≡ Syntax → ⊥) → Ruled ⊥ (if b then Err r else Ok d)
if_clean true r d h = h
if_clean false r d h = tt

-- the same of a part of an act
abbrev PartRuled : {A : Type 0} → Type 0 → Result A RefusalKind → Type 0
PartRuled P (Ok a) = Unit {0}
PartRuled P (Err k) = k ≡ Syntax → P

then_ruled : {A : Type 0} (P : Type 0) (at : ℕ) (r : Result A RefusalKind) (make : A → Draft) → PartRuled P r → Ruled P (then_with at r make)
then_ruled P at (Ok a) make h = tt
then_ruled P at (Err k) make h = h

placed_ruled : (P : Type 0) (at : ℕ) (r : Result Draft RefusalKind) → PartRuled P r → Ruled P (placed at r)
placed_ruled P at (Ok d) h = tt
placed_ruled P at (Err k) h = h

kept_ruled : {A B : Type 0} (P : Type 0) (r : Result A RefusalKind) (more : A → B) → PartRuled P r → PartRuled P (and_then r (λ a. Ok (more a)))
kept_ruled P (Ok a) more h = tt
kept_ruled P (Err k) more h = h

and_ruled : {A B : Type 0} (P : Type 0) (r : Result A RefusalKind) (more : A → Result B RefusalKind) → PartRuled P r → ((a : A) → PartRuled P (more a)) → PartRuled P (and_then r more)
and_ruled P (Ok a) more h p = p a
and_ruled P (Err k) more h p = h

if_ruled : {A : Type 0} (P : Type 0) (b : Bool) (k : RefusalKind) (r : Result A RefusalKind) → (k ≡ Syntax → P) → PartRuled P r → PartRuled P (if b then Err k else r)
if_ruled P true k r h p = h
if_ruled P false k r h p = p

-- ---- names

ok_is : (x y : List ℕ) (r : Result (List ℕ) RefusalKind) → r ≡ Ok x → r ≡ Ok y → x ≡ y
ok_is x y r e f = cc

named : (p : List ℕ → Bool) (o : Option (List ℕ)) (name : List ℕ) → if_named p o ≡ Ok name → p name ≡ true
named p None name h = absurd cc
named p (Some x) name h = cases (p x) refl h
  where
    cases : (b : Bool) → p x ≡ b → (if b then Ok x else Err Syntax) ≡ Ok name → p name ≡ true
    cases true e f = ap p (sym (ok_is x name (Ok x) refl f)) ∙ e
    cases false e f = absurd cc

prim_path_ruled : (P : Type 0) (path : List Element) (name : List ℕ) → PartRuled P (prim_path path name)
prim_path_ruled P path name = cases (is_long (path ++ Prim name ∷ [])) (nat_lt (depth path) 64)
  where
    cases : (a b : Bool) → PartRuled P (if a then Err TooLong else if b then Ok (Some (path ++ Prim name ∷ [])) else Ok None)
    cases true b = λ e. absurd cc
    cases false true = tt
    cases false false = tt

entered_prim_ruled : (P : Type 0) (name : List ℕ) (path : Option (List Element)) (d : Draft) → PartRuled P (entered_prim name path d)
unfolding entered_prim
entered_prim_ruled P name None d = tt
entered_prim_ruled P name (Some path) d = if_ruled P (is_closed path d.specs) DuplicateSpec (Ok (with_prim name path d)) (λ e. absurd cc) tt

named_prim_ruled : (P : Type 0) (name : List ℕ) (d : Draft) → (is_property d.owner.said.path ≡ true → P) → is_identifier name ≡ true → PartRuled P (named_prim name d)
unfolding named_prim prim_place
named_prim_ruled P name d reason id = cases (is_property d.owner.said.path) refl (is_identifier name) id
  where
    cases : (a : Bool) → is_property d.owner.said.path ≡ a → (b : Bool) → b ≡ true
        → PartRuled P (and_then (if a || not b then Err Syntax else prim_path d.owner.said.path name) (λ path. entered_prim name path d))
    cases true e b h = λ s. reason e
    cases false e true h = and_ruled P (prim_path d.owner.said.path name) (λ path. entered_prim name path d) (prim_path_ruled P d.owner.said.path name) (λ path. entered_prim_ruled P name path d)
    cases false e false h = absurd cc

prim_name_ruled : (t : List ℕ) (d : Draft) → PartRuled ((identifier_of t ≡ Err Syntax) ⊎ (is_property d.owner.said.path ≡ true)) (prim_name_act t d)
unfolding prim_name_act
prim_name_ruled t d = cases (identifier_of t) refl
  where
    Reason : Type 0
    Reason = (identifier_of t ≡ Err Syntax) ⊎ (is_property d.owner.said.path ≡ true)

    cases : (r : Result (List ℕ) RefusalKind) → identifier_of t ≡ r → PartRuled Reason (and_then r (λ name. named_prim name d))
    cases (Ok name) e = named_prim_ruled Reason name d (λ p. inr p) (named is_identifier (string_text t) name e)
    cases (Err k) e = λ s. inl (e ∙ ap Err s)

begun_set_ruled : (P : Type 0) (name : List ℕ) (d : Draft) → PartRuled P (begun_set name d)
unfolding begun_set
begun_set_ruled P name d = if_ruled P (has_set name d.owner) DuplicateSpec (Ok (record d { owner = with_set name d.owner })) (λ e. absurd cc) tt

set_name_ruled : (t : List ℕ) (d : Draft) → PartRuled (identifier_of t ≡ Err Syntax) (set_name_act t d)
unfolding set_name_act
set_name_ruled t d = cases (identifier_of t) refl
  where
    cases : (r : Result (List ℕ) RefusalKind) → identifier_of t ≡ r → PartRuled (identifier_of t ≡ Err Syntax) (and_then r (λ name. begun_set name d))
    cases (Ok name) e = begun_set_ruled (identifier_of t ≡ Err Syntax) name d
    cases (Err k) e = λ s. e ∙ ap Err s

variant_path_ruled : (P : Type 0) (path : List Element) (set name : List ℕ) → PartRuled P (variant_path path set name)
variant_path_ruled P path set name = if_ruled P (is_long (path ++ Selection set name ∷ [])) TooLong (Ok (path ++ Selection set name ∷ [])) (λ e. absurd cc) tt

entered_variant_ruled : (P : Type 0) (name : List ℕ) (path : List Element) (d : Draft) → PartRuled P (entered_variant name path d)
unfolding entered_variant
entered_variant_ruled P name path d = if_ruled P (is_closed path d.specs) DuplicateSpec (Ok (with_variant_at name path d)) (λ e. absurd cc) tt

named_variant_ruled : (P : Type 0) (name : List ℕ) (d : Draft) → ((has_variants d.owner.said.path && is_identifier d.owner.set) ≡ false → P) → is_variant name ≡ true → PartRuled P (named_variant name d)
unfolding named_variant variant_place
named_variant_ruled P name d reason is = cases (has_variants d.owner.said.path) refl (is_identifier d.owner.set) refl (is_variant name) is
  where
    cases : (a : Bool) → has_variants d.owner.said.path ≡ a → (b : Bool) → is_identifier d.owner.set ≡ b → (c : Bool) → c ≡ true
        → PartRuled P (and_then (if a && (b && c) then variant_path d.owner.said.path d.owner.set name else Err Syntax) (λ path. entered_variant name path d))
    cases false e b f c h = λ s. reason (ap (λ x. x && is_identifier d.owner.set) e)
    cases true e false f c h = λ s. reason (ap (λ x. x && is_identifier d.owner.set) e ∙ f)
    cases true e true f true h =
        and_ruled P (variant_path d.owner.said.path d.owner.set name) (λ path. entered_variant name path d) (variant_path_ruled P d.owner.said.path d.owner.set name) (λ path. entered_variant_ruled P name path d)
    cases true e true f false h = absurd cc

variant_name_ruled : (t : List ℕ) (d : Draft) → PartRuled ((variant_of t ≡ Err Syntax) ⊎ ((has_variants d.owner.said.path && is_identifier d.owner.set) ≡ false)) (variant_name_act t d)
unfolding variant_name_act
variant_name_ruled t d = cases (variant_of t) refl
  where
    Reason : Type 0
    Reason = (variant_of t ≡ Err Syntax) ⊎ ((has_variants d.owner.said.path && is_identifier d.owner.set) ≡ false)

    cases : (r : Result (List ℕ) RefusalKind) → variant_of t ≡ r → PartRuled Reason (and_then r (λ name. named_variant name d))
    cases (Ok name) e = named_variant_ruled Reason name d (λ p. inr p) (named is_variant (string_text t) name e)
    cases (Err k) e = λ s. inl (e ∙ ap Err s)

-- ---- lists that do not go together

give_ruled : (edit : ListEdit) (g : GivenLists) → PartRuled (clashes edit g ≡ true) (give edit g)
give_ruled edit g = cases (clashes edit g) refl (is_given edit g)
  where
    cases : (a : Bool) → clashes edit g ≡ a → (b : Bool) → PartRuled (clashes edit g ≡ true) (if a then Err Syntax else if b then Err DuplicateSpec else Ok (with_given edit g))
    cases true e b = λ s. e
    cases false e true = λ s. absurd cc
    cases false e false = tt

field_ruled : (field : ListField) (edit : ListEdit) (at : ℕ) (d : Draft) → Ruled (clashes edit (fields.given_at field d.owner.said.given) ≡ true) (field_act field edit at d)
unfolding field_act
field_ruled field edit at d =
    then_ruled (clashes edit (fields.given_at field d.owner.said.given) ≡ true) at (fields.field_act field edit d.owner.said) (in_field field edit d)
    (kept_ruled (clashes edit (fields.given_at field d.owner.said.given) ≡ true) (give edit (fields.given_at field d.owner.said.given))
    (λ g. fields.open_field field edit (record d.owner.said { given = fields.with_given_at field g d.owner.said.given })) (give_ruled edit (fields.given_at field d.owner.said.given)))

string_field_ruled : (edit : ListEdit) (w : Word) (d : Draft) → Ruled (clashes edit (fields.given_at (Texts (fields.text_field w.text)) d.owner.said.given) ≡ true) (string_field_act edit w d)
unfolding string_field_act
string_field_ruled edit w d = field_ruled (Texts (fields.text_field w.text)) edit w.start d

path_field_ruled : (edit : ListEdit) (w : Word) (d : Draft) → Ruled (clashes edit (fields.given_at (Paths (fields.path_field w.text)) d.owner.said.given) ≡ true) (path_field_act edit w d)
unfolding path_field_act
path_field_ruled edit w d = field_ruled (Paths (fields.path_field w.text)) edit w.start d

reference_field_ruled : (edit : ListEdit) (w : Word) (d : Draft) → Ruled (clashes edit (fields.given_at (References (fields.reference_field w.text)) d.owner.said.given) ≡ true) (reference_field_act edit w d)
unfolding reference_field_act
reference_field_ruled edit w d = field_ruled (References (fields.reference_field w.text)) edit w.start d

list_ruled : (d : Draft) → Ruled (IsPropertyClash d) (list_begun d)
unfolding list_begun
list_ruled d =
    then_ruled (IsPropertyClash d) d.name_at (list_act d.property) (λ p. record (with_property d p) { list = open_list.Property })
    (kept_ruled (IsPropertyClash d) (give d.property.edit d.property.marks.lists)
    (λ lists. record d.property { paths = with_opened d.property.edit d.property.paths; marks = record d.property.marks { lists = lists } }) (give_ruled d.property.edit d.property.marks.lists))

-- ---- paths of lists

path_ruled : (field : PathField) (edit : ListEdit) (token : List ℕ) (d : OwnerDraft) → PartRuled (path_from d.base (path_text token) ≡ None) (fields.path_act field edit token d)
path_ruled field edit token d = cases (path_from d.base (path_text token)) refl
  where
    cases : (o : Option (List Element)) → path_from d.base (path_text token) ≡ o → PartRuled (path_from d.base (path_text token) ≡ None) (fields.push_path field edit o d)
    cases None e = λ s. e
    cases (Some path) e = tt

target_ruled : (base : List Element) (token : List ℕ) (p : PropertyDraft) → PartRuled (path_from base (path_text token) ≡ None) (path_act base token p)
target_ruled base token p = cases (path_from base (path_text token)) refl
  where
    cases : (o : Option (List Element)) → path_from base (path_text token) ≡ o → PartRuled (path_from base (path_text token) ≡ None) (with_target (option_map plain o) p)
    cases None e = λ s. e
    cases (Some path) e = tt

or_none_ruled : (base : List Element) (text : List ℕ) → PartRuled (path_from base text ≡ None) (path_or_none base text)
or_none_ruled base [] = tt
or_none_ruled base (c ∷ cs) = cases (path_from base (c ∷ cs)) refl
  where
    cases : (o : Option (List Element)) → path_from base (c ∷ cs) ≡ o → PartRuled (path_from base (c ∷ cs) ≡ None) (some_path o)
    cases None e = λ s. e
    cases (Some path) e = tt

list_path_ruled : (l : OpenList) (w : Word) (d : Draft) → Ruled (path_from d.owner.said.base (path_text w.text) ≡ None) (list_path_act l w d)
unfolding list_path_act
list_path_ruled (open_list.Field (Paths field)) w d =
    then_ruled (path_from d.owner.said.base (path_text w.text) ≡ None) w.start (fields.path_act field d.edit w.text d.owner.said) (with_said d) (path_ruled field d.edit w.text d.owner.said)
list_path_ruled open_list.Property w d =
    then_ruled (path_from d.owner.said.base (path_text w.text) ≡ None) w.start (path_act d.owner.said.base w.text d.property) (with_property d) (target_ruled d.owner.said.base w.text d.property)
list_path_ruled l w d = tt

lone_path_ruled : (l : OpenList) (w : Word) (d : Draft) → Ruled (path_from d.owner.said.base (path_text w.text) ≡ None) (lone_path_act l w d)
unfolding lone_path_act
lone_path_ruled (open_list.Field (References field)) w d =
    then_ruled (path_from d.owner.said.base (path_text w.text) ≡ None) w.start (fields.lone_path_act field d.edit w.text d.owner.said) (with_said d)
    (kept_ruled (path_from d.owner.said.base (path_text w.text) ≡ None) (path_item d.owner.said.base w.text) (λ item. fields.with_items field (push_item d.edit item (fields.items_at field d.owner.said)) d.owner.said)
    (kept_ruled (path_from d.owner.said.base (path_text w.text) ≡ None) (path_or_none d.owner.said.base (path_text w.text)) (λ path. record { asset = None; path = path; offset = identity }) (or_none_ruled d.owner.said.base (path_text w.text))))
lone_path_ruled l w d = tt

amended_ruled : {T : Type 0} (P : Type 0) (change : T → Result T RefusalKind) (last : Option T) (items : List T) → ((t : T) → PartRuled P (change t)) → PartRuled P (amended change last items)
amended_ruled P change None items h = tt
amended_ruled P change (Some item) items h = kept_ruled P (change item) (λ new. front items ++ new ∷ []) (h item)

item_path_ruled : (l : OpenList) (w : Word) (d : Draft) → Ruled (path_from d.owner.said.base (path_text w.text) ≡ None) (item_path_act l w d)
unfolding item_path_act
item_path_ruled (open_list.Field (References field)) w d =
    then_ruled None' w.start (fields.item_path_act field d.edit w.text d.owner.said) (with_said d)
    (kept_ruled None' (amend_list d.edit (amend_last change) (fields.items_at field d.owner.said)) (λ op. fields.with_items field op d.owner.said)
    (kept_ruled None' (amend_last change (list_at d.edit (fields.items_at field d.owner.said))) (λ items. with_list d.edit items (fields.items_at field d.owner.said))
    (amended_ruled None' change (last (list_at d.edit (fields.items_at field d.owner.said))) (list_at d.edit (fields.items_at field d.owner.said))
    (λ item. kept_ruled None' (path_or_none d.owner.said.base (path_text w.text)) (λ path. record item { path = path }) (or_none_ruled d.owner.said.base (path_text w.text))))))
  where
    None' : Type 0
    None' = path_from d.owner.said.base (path_text w.text) ≡ None

    change : RefItem → Result RefItem RefusalKind
    change = with_item_path d.owner.said.base w.text
item_path_ruled l w d = tt

-- ---- parts of acts

if_plain : {A : Type 0} (b : Bool) (k : RefusalKind) (a : A) → (k ≡ Syntax → ⊥) → IsPlain (if b then Err k else Ok a)
if_plain true k a h = h
if_plain false k a h = tt

and_plain : {A B : Type 0} (r : Result A RefusalKind) (more : A → Result B RefusalKind) → IsPlain r → ((a : A) → IsPlain (more a)) → IsPlain (and_then r more)
and_plain (Ok a) more h p = p a
and_plain (Err k) more h p = h

utf8_plain : (t : Option (List ℕ)) → IsPlain (if_utf8 t)
utf8_plain None = λ e. absurd cc
utf8_plain (Some text) = tt

unless_taken_plain : (b : Bool) (rule : KeyRule) → IsPlain (unless_taken b rule)
unless_taken_plain b Relocates = λ e. absurd cc
unless_taken_plain true rule = λ e. absurd cc
unless_taken_plain false rule = tt

comment_plain : (token : List ℕ) (meta : MetaEntries) → IsPlain (keys.comment_act token meta)
comment_plain token meta =
    and_plain (if_utf8 (string_text token)) (λ text. if has_key comment_key meta then Err DuplicateSpec else Ok (with_key text_cmp comment_key (value.Text text) meta)) (utf8_plain (string_text token))
    (λ text. if_plain (has_key comment_key meta) DuplicateSpec (with_key text_cmp comment_key (value.Text text) meta) (λ e. absurd cc))

order_plain : (o : OrderWord) (d : OwnerDraft) → IsPlain (owner.order_act o d)
order_plain NameChildren d = if_plain d.given.child_order DuplicateSpec (record d { given = record d.given { child_order = true } }) (λ e. absurd cc)
order_plain PropertyNames d = if_plain d.given.property_order DuplicateSpec (record d { given = record d.given { property_order = true } }) (λ e. absurd cc)

joined_to_plain : (h : Heading) (marks : PropertyMarks) (p : Property) → IsPlain (joined_to h marks p)
joined_to_plain h marks (Attr name ty custom uniform default samples connections meta) = cases (is_attribute_of ty h.ty)
  where
    made : PropertyDraft
    made = record { name = name; edit = h.edit; ty = Some ty; custom = custom || h.custom; uniform = uniform || h.uniform; default = default; samples = samples; paths = connections; meta = meta; marks = marks }

    cases : (b : Bool) → IsPlain (if b then Ok made else Err DuplicateSpec)
    cases true = tt
    cases false = λ e. absurd cc
joined_to_plain h marks (Rel name custom targets meta) =
    if_plain (is_some h.ty) DuplicateSpec (record { name = name; edit = h.edit; ty = None; custom = custom || h.custom; uniform = false; default = None; samples = []; paths = targets; meta = meta; marks = marks }) (λ e. absurd cc)

joined_plain : (h : Heading) (name : List ℕ) (marks : PropertyMarks) (p : Option Property) → IsPlain (joined h name marks p)
joined_plain h name marks None = tt
joined_plain h name marks (Some p) = joined_to_plain h marks p

property_plain : (h : Heading) (name : List ℕ) (o : Owner) → IsPlain (property_for h name o)
unfolding property_for
property_plain h name o = joined_plain h name (marks_at name o) (property_at name o.properties)

element_plain : (e : Option ElementType) (h : Heading) → IsPlain (of_element e h)
element_plain None h = λ e. absurd cc
element_plain (Some x) h = tt

offset_key_plain : (a b : Bool) → IsPlain (if a then Ok key.Offset else if b then Ok key.Scale else Err ReferenceData)
offset_key_plain true b = tt
offset_key_plain false true = tt
offset_key_plain false false = λ e. absurd cc

within_plain : (b : Bool) (o : Offset) → IsPlain (if b then Ok o else Err OffsetRange)
within_plain true o = tt
within_plain false o = λ e. absurd cc

part_plain : (k : OffsetKey) (n : Option ℤ) (o : Offset) → IsPlain (with_part k n o)
part_plain k None o = λ e. absurd cc
part_plain key.Offset (Some n) o = within_plain (nat_le (unsigned_abs n) 1000000000) (record o { offset = n })
part_plain key.Scale (Some n) o = within_plain (int_le (pos 1) n && int_le n (pos 1000000)) (record o { scale = n })

number_plain : (k : OffsetKey) (x : Option Num) (o : Offset) → IsPlain (with_number k x o)
number_plain k None o = λ e. absurd cc
number_plain k (Some x) o = part_plain k (whole_number x) o

amended_plain : {T : Type 0} (change : T → Result T RefusalKind) (last : Option T) (items : List T) → ((t : T) → IsPlain (change t)) → IsPlain (amended change last items)
amended_plain change None items h = tt
amended_plain change (Some item) items h = kept_plain (change item) (λ new. front items ++ new ∷ []) (h item)

item_number_plain : (field : ReferenceField) (edit : ListEdit) (k : OffsetKey) (token : List ℕ) (d : OwnerDraft) → IsPlain (fields.item_number_act field edit k token d)
item_number_plain field edit k token d =
    kept_plain (amend_list edit (amend_last (with_number_of k token)) (fields.items_at field d)) (λ op. fields.with_items field op d)
    (kept_plain (amend_last (with_number_of k token) (list_at edit (fields.items_at field d))) (λ items. with_list edit items (fields.items_at field d))
    (amended_plain (with_number_of k token) (last (list_at edit (fields.items_at field d))) (list_at edit (fields.items_at field d))
    (λ item. kept_plain (with_number k (number_of token) item.offset) (λ offset. record item { offset = offset }) (number_plain k (number_of token) item.offset))))

sublayer_number_plain : (k : OffsetKey) (token : List ℕ) (items : List SubLayer) → IsPlain (amend_last (sublayer_number k token) items)
sublayer_number_plain k token items =
    amended_plain (sublayer_number k token) (last items) items (λ item. kept_plain (with_number k (number_of token) item.offset) (λ offset. record item { offset = offset }) (number_plain k (number_of token) item.offset))

in_range_plain : (t : Option ℤ) → IsPlain (in_range t)
in_range_plain None = λ e. absurd cc
in_range_plain (Some t) = tt

time_plain : (x : Option Num) → IsPlain (time_of_number x)
unfolding time_of_number
time_plain None = λ e. absurd cc
time_plain (Some x) = in_range_plain (finite_time x)

rule_plain : (k : List ℕ) (p : PropertyDraft) → IsPlain (property_rule k p)
unfolding property_rule
rule_plain k p = unless_taken_plain (has_key k p.meta) (key_rule k)

-- ---- prims

open_clean : (at : ℕ) (d : Draft) → Ruled ⊥ (open_act at d)
unfolding open_act
open_clean at d = if_clean d.opening.is_too_deep (refused TooDeep at) d (λ e. absurd cc)

-- ---- metadata

said_clean : (at : ℕ) (r : Result OwnerDraft RefusalKind) (d : Draft) → IsPlain r → Ruled ⊥ (said_act at r d)
said_clean at r d h = then_clean at r (with_said d) h

comment_clean : (w : Word) (d : Draft) → Ruled ⊥ (comment_act w d)
unfolding comment_act
comment_clean w d = said_clean w.start (owner.comment_act w.text d.owner.said) d (kept_plain (keys.comment_act w.text d.owner.said.spec.body.meta) (λ meta. owner.with_meta meta d.owner.said) (comment_plain w.text d.owner.said.spec.body.meta))

key_clean : (k : List ℕ) (at : ℕ) (d : Draft) → Ruled ⊥ (key_act k at d)
unfolding key_act
key_clean k at d = then_clean at (owner.key_act k d.owner.said) (λ rule. aimed_at_key goal.OwnerKey k rule d) (unless_taken_plain (has_key k d.owner.said.spec.body.meta) (key_rule k))

variants_clean : (w : Word) (d : Draft) → Ruled ⊥ (variants_act w d)
unfolding variants_act
variants_clean w d =
    then_clean w.start (variants.variants_act d.owner.said) (λ said. aimed goal.Variants Dictionary (with_said d said))
    (if_plain d.owner.said.given.variants DuplicateSpec (record d.owner.said { given = record d.owner.said.given { variants = true } }) (λ e. absurd cc))

edited_ruled : (k : WordKind) (w : Word) (d : Draft) → Ruled (IsClash d.edit k w d) (edited_act k w d)
unfolding edited_act
edited_ruled token.Equals w d = key_clean d.word d.word_at d
edited_ruled (token.Word word.StringField) w d = string_field_ruled d.edit w d
edited_ruled (token.Word word.PathField) w d = path_field_ruled d.edit w d
edited_ruled (token.Word word.ReferenceField) w d = reference_field_ruled d.edit w d
edited_ruled k w d = tt

edit_clean : (w : Word) (d : Draft) → Ruled ⊥ (edit_act w d)
unfolding edit_act
edit_clean w d = tt

prim_item_ruled : (k : WordKind) (w : Word) (d : Draft) → Ruled (IsClash Explicit k w d) (prim_item_act k w d)
unfolding prim_item_act
prim_item_ruled token.Quoted w d = comment_clean w d
prim_item_ruled (token.Word word.Edit) w d = edit_clean w d
prim_item_ruled (token.Word word.Reorder) w d = edit_clean w d
prim_item_ruled (token.Word word.Variants) w d = variants_clean w d
prim_item_ruled (token.Word word.StringField) w d = string_field_ruled Explicit w d
prim_item_ruled (token.Word word.PathField) w d = path_field_ruled Explicit w d
prim_item_ruled (token.Word word.ReferenceField) w d = reference_field_ruled Explicit w d
prim_item_ruled k w d = key_clean w.text w.start d

sublayers_clean : (at : ℕ) (d : Draft) → Ruled ⊥ (sublayers_act at d)
unfolding sublayers_act
sublayers_clean at d = if_clean d.has_sublayers (refused DuplicateSpec at) (record d { has_sublayers = true; list = open_list.SubLayers }) (λ e. absurd cc)

head_item_clean : (k : WordKind) (w : Word) (d : Draft) → Ruled ⊥ (head_item_act k w d)
unfolding head_item_act
head_item_clean token.Quoted w d = comment_clean w d
head_item_clean (token.Word word.SubLayers) w d = sublayers_clean w.start d
head_item_clean k w d = key_clean w.text w.start d

specifier_clean : (t : List ℕ) (d : Draft) → Ruled ⊥ (specifier_act t d)
unfolding specifier_act
specifier_clean t d = tt

root_clean : (k : WordKind) (w : Word) (d : Draft) → Ruled ⊥ (root_act k w d)
unfolding root_act
root_clean (token.Word word.Specifier) w d = specifier_clean w.text d
root_clean k w d = tt

ordered_clean : (o : OrderWord) (at : ℕ) (d : Draft) → Ruled ⊥ (ordered_by o at d)
unfolding ordered_by
ordered_clean o at d = then_clean at (owner.order_act o d.owner.said) (in_order o d) (order_plain o d.owner.said)

order_clean : (w : Word) (d : Draft) → Ruled ⊥ (order_act w d)
unfolding order_act
order_clean w d = ordered_clean (owner.order_word w.text) w.start d

root_order_clean : (w : Word) (d : Draft) → Ruled ⊥ (root_order_act w d)
unfolding root_order_act
root_order_clean w d = ordered_clean NameChildren w.start d

order_name_clean : (k : WordKind) (w : Word) (d : Draft) → Ruled ⊥ (order_name_act k w d)
unfolding order_name_act
order_name_clean token.Quoted w d =
    said_clean w.start (owner.ordered_act d.order w.text d.owner.said) d (kept_plain (if_utf8 (string_text w.text)) (λ name. owner.push_ordered d.order name d.owner.said) (utf8_plain (string_text w.text)))
order_name_clean k w d = tt

property_key_clean : (w : Word) (d : Draft) → Ruled ⊥ (property_key_act w d)
unfolding property_key_act
property_key_clean w d = then_clean w.start (property_rule w.text d.property) (λ rule. aimed_at_key goal.PropertyKey w.text rule d) (rule_plain w.text d.property)

property_item_clean : (k : WordKind) (w : Word) (d : Draft) → Ruled ⊥ (property_item_act k w d)
unfolding property_item_act
property_item_clean token.Quoted w d =
    then_clean w.start (meta_comment_act w.text d.property) (with_property d) (kept_plain (keys.comment_act w.text d.property.meta) (λ meta. with_meta meta d.property) (comment_plain w.text d.property.meta))
property_item_clean k w d = property_key_clean w d

-- ---- lists

string_clean : (l : OpenList) (w : Word) (d : Draft) → Ruled ⊥ (string_act l w d)
unfolding string_act
string_clean (open_list.Field (Texts field)) w d =
    said_clean w.start (fields.text_act field d.edit w.text d.owner.said) d
    (kept_plain (if_utf8 (string_text w.text)) (λ text. fields.with_texts field (push_item d.edit text (fields.texts_at field d.owner.said)) d.owner.said) (utf8_plain (string_text w.text)))
string_clean l w d = tt

asset_clean : (l : OpenList) (w : Word) (d : Draft) → Ruled ⊥ (asset_act l w d)
unfolding asset_act
asset_clean (open_list.Field (References field)) w d = tt
asset_clean l w d = tt

end_clean : (l : OpenList) (d : Draft) → Ruled ⊥ (end_act l d)
unfolding end_act
end_clean (open_list.Field field) d = tt
end_clean open_list.Property d = tt
end_clean l d = tt

in_list_ruled : (k : WordKind) (w : Word) (d : Draft) → Ruled (IsNoPathOfList k w d) (in_list_act k w d)
unfolding in_list_act
in_list_ruled token.Quoted w d = string_clean d.list w d
in_list_ruled token.Path w d = list_path_ruled d.list w d
in_list_ruled token.CloseBracket w d = end_clean d.list d
in_list_ruled k w d = tt

in_references_ruled : (k : WordKind) (w : Word) (d : Draft) → Ruled (IsNoPathOfList k w d) (in_references_act k w d)
unfolding in_references_act
in_references_ruled token.Asset w d = asset_clean d.list w d
in_references_ruled token.Path w d = lone_path_ruled d.list w d
in_references_ruled token.CloseBracket w d = end_clean d.list d
in_references_ruled k w d = tt

sublayer_clean : (k : WordKind) (w : Word) (d : Draft) → Ruled ⊥ (sublayer_act k w d)
unfolding sublayer_act
sublayer_clean token.Asset w d = tt
sublayer_clean k w d = tt

offset_key_clean : (w : Word) (d : Draft) → Ruled ⊥ (offset_key_act w d)
unfolding offset_key_act
offset_key_clean w d = then_clean w.start (offset_key w.text) (λ k. record d { offset_key = k }) (offset_key_plain (pointwise ◌==◌ w.text (codes "offset")) (pointwise ◌==◌ w.text (codes "scale")))

number_clean : (l : OpenList) (w : Word) (d : Draft) → Ruled ⊥ (number_act l w d)
unfolding number_act
number_clean (open_list.Field (References field)) w d = said_clean w.start (fields.item_number_act field d.edit d.offset_key w.text d.owner.said) d (item_number_plain field d.edit d.offset_key w.text d.owner.said)
number_clean open_list.SubLayers w d =
    then_clean w.start (amend_last (sublayer_number d.offset_key w.text) d.sublayers) (λ sublayers. record d { sublayers = sublayers }) (sublayer_number_plain d.offset_key w.text d.sublayers)
number_clean l w d = tt

-- ---- statements of a prim

type_clean : (w : Word) (d : Draft) → Ruled ⊥ (type_act w d)
unfolding type_act
type_clean w d = then_clean w.start (with_type w.text d.heading) (λ h. headed h d) (element_plain (find_element ELEMENTS w.text) d.heading)

after_variability_clean : (k : WordKind) (w : Word) (d : Draft) → Ruled ⊥ (after_variability_act k w d)
unfolding after_variability_act
after_variability_clean (token.Word word.Rel) w d = tt
after_variability_clean k w d = type_clean w d

after_custom_clean : (k : WordKind) (w : Word) (d : Draft) → Ruled ⊥ (after_custom_act k w d)
unfolding after_custom_act
after_custom_clean (token.Word word.Variability) w d = tt
after_custom_clean k w d = after_variability_clean k w d

after_edit_clean : (k : WordKind) (w : Word) (d : Draft) → Ruled ⊥ (after_edit_act k w d)
unfolding after_edit_act
after_edit_clean (token.Word word.Custom) w d = tt
after_edit_clean k w d = after_custom_clean k w d

after_reorder_clean : (k : WordKind) (w : Word) (d : Draft) → Ruled ⊥ (after_reorder_act k w d)
unfolding after_reorder_act
after_reorder_clean (token.Word word.OrderedField) w d = order_clean w d
after_reorder_clean k w d = after_edit_clean k w d

statement_clean : (k : WordKind) (w : Word) (d : Draft) → Ruled ⊥ (statement_act k w d)
unfolding statement_act
statement_clean (token.Word word.Specifier) w d = specifier_clean w.text d
statement_clean (token.Word word.VariantSet) w d = tt
statement_clean (token.Word word.Edit) w d = tt
statement_clean (token.Word word.Reorder) w d = tt
statement_clean k w d = after_edit_clean k w (headed (begun Explicit) d)

body_clean : (w : Word) (d : Draft) → Ruled ⊥ (body_act w d)
unfolding body_act
body_clean w d = statement_clean w.kind w (with_statement_over d)

brackets_clean : (d : Draft) → Ruled ⊥ (brackets_act d)
unfolding brackets_act
brackets_clean d = tt

name_clean : (w : Word) (d : Draft) → Ruled ⊥ (name_act w d)
unfolding name_act
name_clean w d = then_clean w.start (property_for d.heading w.text d.owner) (with_name w.text w.start d) (property_plain d.heading w.text d.owner)

default_clean : (d : Draft) → Ruled ⊥ (default_begun d)
unfolding default_begun
default_clean d = then_clean d.name_at (default_act d.property) (λ p. aimed_at_default (with_property d p)) (if_plain (is_some d.property.default) DuplicateSpec d.property (λ e. absurd cc))

samples_clean : (d : Draft) → Ruled ⊥ (samples_begun d)
unfolding samples_begun
samples_clean d = then_clean d.name_at (samples_act d.property) (with_property d) (if_plain d.property.marks.sampled DuplicateSpec (record d.property { marks = record d.property.marks { sampled = true } }) (λ e. absurd cc))

tail_clean : (k : WordKind) (d : Draft) → Ruled ⊥ (tail_act k d)
unfolding tail_act
tail_clean token.Equals d = default_clean d
tail_clean k d = tt

dot_ruled : (k : WordKind) (at : ℕ) (d : Draft) → Ruled (IsConnectClash k d) (dot_act k at d)
unfolding dot_act
dot_ruled (token.Word word.TimeSamples) at d = samples_clean d
dot_ruled (token.Word word.Connect) at d = list_ruled d
dot_ruled k at d = λ e. absurd cc

time_clean : (t : List ℕ) (at : ℕ) (d : Draft) → Ruled ⊥ (time_act t at d)
unfolding time_act
time_clean t at d = then_clean at (time_of_number (number_of t)) (λ time. aimed_at_sample time d) (time_plain (number_of t))

sample_clean : (k : WordKind) (w : Word) (d : Draft) → Ruled ⊥ (sample_act k w d)
unfolding sample_act
sample_clean token.Number w d = time_clean w.text w.start d
sample_clean k w d = tt

prim_type_clean : (t : List ℕ) (d : Draft) → Ruled ⊥ (prim_type_act t d)
unfolding prim_type_act
prim_type_clean t d = tt

body_end_clean : (d : Draft) → Ruled ⊥ (body_end_act d)
unfolding body_end_act
body_end_clean d = tt

-- ---- all symbols but those at which a value begins

layers_ruled : (s : Symbol) (w : Word) (d : Draft) → Ruled (BreaksRule s w.kind w d) (layers_act s w d)
unfolding layers_act
layers_ruled symbol.HeadItems w d = head_item_clean w.kind w d
layers_ruled symbol.SubLayersOrEnd w d = sublayer_clean w.kind w d
layers_ruled symbol.OffsetItems w d = offset_key_clean w d
layers_ruled symbol.OffsetNumber w d = number_clean d.list w d
layers_ruled symbol.RootStatements w d = root_clean w.kind w d
layers_ruled symbol.RootPrims w d = root_order_clean w d
layers_ruled symbol.OpenBrace w d = open_clean w.start d
layers_ruled symbol.BodyEnd w d = body_end_clean d
layers_ruled symbol.PrimName w d = placed_ruled ((identifier_of w.text ≡ Err Syntax) ⊎ (is_property d.owner.said.path ≡ true)) w.start (prim_name_act w.text d) (prim_name_ruled w.text d)
layers_ruled symbol.SetName w d = placed_ruled (identifier_of w.text ≡ Err Syntax) w.start (set_name_act w.text d) (set_name_ruled w.text d)
layers_ruled s w d = tt

prims_ruled : (s : Symbol) (w : Word) (d : Draft) → Ruled (BreaksRule s w.kind w d) (prims_act s w d)
unfolding prims_act
prims_ruled symbol.MaybeTypeName w d = prim_type_clean w.text d
prims_ruled symbol.MaybePrimMetadata w d = open_clean w.start d
prims_ruled symbol.PrimMetadata w d = prim_item_ruled w.kind w d
prims_ruled symbol.EditedField w d = edited_ruled w.kind w d
prims_ruled symbol.StringList w d = in_list_ruled w.kind w d
prims_ruled symbol.StringsOrEnd w d = in_list_ruled w.kind w d
prims_ruled symbol.MoreStrings w d = in_list_ruled w.kind w d
prims_ruled symbol.PathList w d = in_list_ruled w.kind w d
prims_ruled symbol.PathsOrEnd w d = in_list_ruled w.kind w d
prims_ruled symbol.MorePaths w d = in_list_ruled w.kind w d
prims_ruled symbol.ReferenceList w d = in_references_ruled w.kind w d
prims_ruled symbol.ReferencesOrEnd w d = in_references_ruled w.kind w d
prims_ruled symbol.MoreReferences w d = in_references_ruled w.kind w d
prims_ruled symbol.MaybePath w d = item_path_ruled d.list w d
prims_ruled symbol.VariantList w d = placed_ruled ((variant_of w.text ≡ Err Syntax) ⊎ ((has_variants d.owner.said.path && is_identifier d.owner.set) ≡ false)) w.start (variant_name_act w.text d) (variant_name_ruled w.text d)
prims_ruled s w d = layers_ruled s w d

bodies_ruled : (s : Symbol) (w : Word) (d : Draft) → begins_value s ≡ false → Ruled (BreaksRule s w.kind w d) (bodies_act s w d)
unfolding bodies_act
bodies_ruled symbol.PrimBody w d h = body_clean w d
bodies_ruled symbol.AfterCustom w d h = after_custom_clean w.kind w d
bodies_ruled symbol.AfterVariability w d h = after_variability_clean w.kind w d
bodies_ruled symbol.AfterEdit w d h = after_edit_clean w.kind w d
bodies_ruled symbol.AfterReorder w d h = after_reorder_clean w.kind w d
bodies_ruled symbol.AfterEditedCustom w d h = after_custom_clean w.kind w d
bodies_ruled symbol.AfterEditedVariability w d h = after_variability_clean w.kind w d
bodies_ruled symbol.MaybeBrackets w d h = brackets_clean d
bodies_ruled symbol.PropertyName w d h = name_clean w d
bodies_ruled symbol.MaybeAttributeTail w d h = tail_clean w.kind d
bodies_ruled symbol.AfterDot w d h = dot_ruled w.kind w.start d
bodies_ruled symbol.ConnectWord w d h = dot_ruled w.kind w.start d
bodies_ruled symbol.SamplesOrEnd w d h = sample_clean w.kind w d
bodies_ruled symbol.MaybeTargets w d h = list_ruled d
bodies_ruled symbol.PropertyMetadata w d h = property_item_clean w.kind w d
bodies_ruled symbol.Value w d h = absurd cc
bodies_ruled symbol.Dictionary w d h = absurd cc
bodies_ruled symbol.NamesOrEnd w d h = order_name_clean w.kind w d
bodies_ruled s w d h = prims_ruled s w d

pub other_words : OtherWordsHaveRules
other_words s w d r shut begins acted = subst (Ruled (BreaksRule s w.kind w d)) acted (subst (Ruled (BreaksRule s w.kind w d)) (sym (act_is s w d false shut)) (cases w.too_long))
  where
    cases : (b : Bool) → Ruled (BreaksRule s w.kind w d) (if b then Err (refused NumberTooLong w.start) else bodies_act s w d)
    cases true = λ e. absurd cc
    cases false = bodies_ruled s w d begins
