-- Words that begin statements, and words that are of no property.
use Rattle.std.proofs.Common.{◌≡◌, refl, subst, ℕ, Bool, true, false, List, [], ◌∷◌, Option, Some, None, Ok, Err}
use Rattle.std.specs.Prelude.{Result, if◌then◌else◌, ◌++◌}
use Rattle.sdf_paths.specs.declared.element.Element.{Element}
use Rattle.sdf_values.specs.declared.refusal.RefusalKind.{RefusalKind}
use Rattle.sdf_values.specs.declared.refusal.RefusalKind.TheVariants.{DuplicateSpec, TooDeep, NumberTooLong}
use Rattle.usda_fields.specs.Fields as fields
use Rattle.usda_fields.specs.Names.{identifier_of, variant_of}
use Rattle.usda_fields.specs.Owners as owner
use Rattle.usda_fields.specs.Variants as variants
use Rattle.usda_fields.specs.declared.field.ListField.{ListField}
use Rattle.usda_fields.specs.declared.field.ListField.TheVariants.{Paths, References, Texts}
use Rattle.usda_fields.specs.declared.owner.OrderWord.{OrderWord}
use Rattle.usda_fields.specs.declared.owner.OrderWord.TheVariants.{NameChildren}
use Rattle.usda_grammar.specs.declared.kinds.Keyword.TheVariants as word
use Rattle.usda_grammar.specs.declared.kinds.WordKind.{WordKind}
use Rattle.usda_grammar.specs.declared.kinds.WordKind.TheVariants as token
use Rattle.usda_grammar.specs.declared.symbols.Symbol.{Symbol}
use Rattle.usda_grammar.specs.declared.symbols.Symbol.TheVariants as symbol
use Rattle.usda_lexer.specs.Meanings.{number_of}
use Rattle.usda_lists.specs.Edits.{edit_of}
use Rattle.usda_lists.specs.Lists.{amend_last}
use Rattle.usda_lists.specs.Offsets.{offset_key}
use Rattle.usda_lists.specs.References.{sublayer_of, sublayer_number}
use Rattle.usda_lists.specs.declared.edit.ListEdit.{ListEdit}
use Rattle.usda_lists.specs.declared.edit.ListEdit.TheVariants.{Explicit}
use Rattle.usda_statements.specs.Headings.{begun as begun_heading, with_custom, with_variability, as_relationship, with_type, with_brackets}
use Rattle.usda_statements.specs.OpenValues.{is_open}
use Rattle.usda_statements.specs.PropertyDrafts.{meta_comment_act}
use Rattle.usda_statements.specs.declared.heading.Heading.{Heading}
use Rattle.usda_words.specs.Words.{Word}
use Rattle.usda_drafts.specs.Acts.{layers_act, prims_act, bodies_act, act}
use Rattle.usda_drafts.specs.Bodies.{headed, type_act, after_variability_act, after_custom_act, after_edit_act, after_reorder_act, statement_act, body_act, brackets_act, sample_act}
use Rattle.usda_drafts.specs.Closed.{is_closed}
use Rattle.usda_drafts.specs.Lists.{sublayer_act, offset_key_act, number_act}
use Rattle.usda_drafts.specs.Metadata.{comment_act, key_act, variants_act, in_field, field_act, string_field_act, path_field_act, reference_field_act, edit_act, edited_act, prim_item_act, sublayers_act, head_item_act, root_act, in_order, ordered_by, order_act, root_order_act, order_name_act, property_rule, property_key_act, property_item_act}
use Rattle.usda_drafts.specs.Owners.{owner_of, with_child, has_set, with_set, with_variant}
use Rattle.usda_drafts.specs.Places.{prim_place, variant_place}
use Rattle.usda_drafts.specs.Prims.{specifier_of, specifier_act, prim_type_act, prim_at, with_prim, entered_prim, named_prim, prim_name_act, open_act, begun_set, set_name_act, with_variant_at, entered_variant, named_variant, variant_name_act, with_statement_over}
use Rattle.usda_drafts.specs.Refusals.{Acted, refused, placed}
use Rattle.usda_drafts.specs.Values.{aimed_at_key, aimed_at_sample, time_of_number, time_act, with_property, token_act}
use Rattle.usda_drafts.specs.declared.aim.Goal.TheVariants as goal
use Rattle.usda_drafts.specs.declared.draft.Draft.{Draft}
use Rattle.usda_drafts.specs.declared.draft.OpenList.{OpenList}
use Rattle.usda_drafts.specs.declared.draft.OpenList.TheVariants as open_list
use Rattle.usda_drafts.specs.declared.fault.Refused.{Refused}
use Rattle.text_syntax.specs.Open.{begins_value}
use Rattle.properties_read.specs.DraftLaws.{DraftsAreRead}
use Rattle.properties_read.specs.Drafts.{HasSoundProperties, takes_lists, takes_turns}
use Rattle.properties_read.specs.Targets.{Reading, closed}
use Rattle.properties_read.proofs.DraftLists.{item_path_so, other_list_sound, references_sound, started_sound, part_sound}
use Rattle.properties_read.proofs.Drafts.{then_made, Keeps, itself, changed, made_so, kept, hand_is, said_so, blank_sound, token_sound, first_sound, name_sound, tail_sound, dot_sound, targets_sound, entered_sound, over_sound, ended_sound}
use Rattle.properties_read.proofs.Hands.{comment_hand}
use Rattle.properties_read.proofs.Keys.{then_ok}
use Rattle.properties_read.proofs.Owners.{none_read}

-- the parts of a draft that properties are not in
same_parts : (d : Draft) → Keeps d d
same_parts d = record { property = refl; properties = refl; marks = refl; outer = refl; specs = refl; value = refl }

-- ---- the words before a property's name

pub headed_so : (h : Heading) (d next : Draft) → ◌≡◌ {A = Acted} (Ok (headed h d)) (Ok next) → Keeps d next
headed_so h d next e = changed d (headed h d) next (record { property = refl; properties = refl; marks = refl; outer = refl; specs = refl; value = refl }) e

pub type_so : (w : Word) (d next : Draft) → type_act w d ≡ Ok next → Keeps d next
unfolding type_act
type_so w d next e = made_so d w.start (with_type w.text d.heading) (λ h. headed h d) next (λ h. record { property = refl; properties = refl; marks = refl; outer = refl; specs = refl; value = refl }) e

pub after_variability_so : (k : WordKind) (w : Word) (d next : Draft) → after_variability_act k w d ≡ Ok next → Keeps d next
unfolding after_variability_act
after_variability_so (token.Word word.Rel) w d next e = headed_so (as_relationship d.heading) d next e
after_variability_so k w d next e = type_so w d next e

pub after_custom_so : (k : WordKind) (w : Word) (d next : Draft) → after_custom_act k w d ≡ Ok next → Keeps d next
unfolding after_custom_act
after_custom_so (token.Word word.Variability) w d next e = headed_so (with_variability w.text d.heading) d next e
after_custom_so k w d next e = after_variability_so k w d next e

pub after_edit_so : (k : WordKind) (w : Word) (d next : Draft) → after_edit_act k w d ≡ Ok next → Keeps d next
unfolding after_edit_act
after_edit_so (token.Word word.Custom) w d next e = headed_so (with_custom d.heading) d next e
after_edit_so k w d next e = after_custom_so k w d next e

-- ---- orders of names

pub ordered_so : (o : OrderWord) (at : ℕ) (d next : Draft) → ordered_by o at d ≡ Ok next → Keeps d next
unfolding ordered_by
ordered_so o at d next e = made_so d at (owner.order_act o d.owner.said) (in_order o d) next (λ said. record { property = refl; properties = refl; marks = refl; outer = refl; specs = refl; value = refl }) e

pub order_so : (w : Word) (d next : Draft) → order_act w d ≡ Ok next → Keeps d next
unfolding order_act
order_so w d next e = ordered_so (owner.order_word w.text) w.start d next e

pub root_order_so : (w : Word) (d next : Draft) → root_order_act w d ≡ Ok next → Keeps d next
unfolding root_order_act
root_order_so w d next e = ordered_so NameChildren w.start d next e

pub order_name_so : (k : WordKind) (w : Word) (d next : Draft) → order_name_act k w d ≡ Ok next → Keeps d next
unfolding order_name_act
order_name_so token.Quoted w d next e = said_so d w.start (owner.ordered_act d.order w.text d.owner.said) next e
order_name_so k w d next e = itself d next e

pub after_reorder_so : (k : WordKind) (w : Word) (d next : Draft) → after_reorder_act k w d ≡ Ok next → Keeps d next
unfolding after_reorder_act
after_reorder_so (token.Word word.OrderedField) w d next e = order_so w d next e
after_reorder_so k w d next e = after_edit_so k w d next e

-- ---- the first word of a statement

pub specifier_so : (w : List ℕ) (d next : Draft) → specifier_act w d ≡ Ok next → Keeps d next
unfolding specifier_act
specifier_so w d next e = changed d (record d { opening = record { specifier = specifier_of w; type_name = None; is_too_deep = false } }) next (record { property = refl; properties = refl; marks = refl; outer = refl; specs = refl; value = refl }) e

-- the heading says nothing of the draft's properties
again : (h : Heading) (d next : Draft) → Keeps (headed h d) next → Keeps d next
again h d next k = record { property = k.property; properties = k.properties; marks = k.marks; outer = k.outer; specs = k.specs; value = k.value }

pub statement_so : (k : WordKind) (w : Word) (d next : Draft) → statement_act k w d ≡ Ok next → Keeps d next
unfolding statement_act
statement_so (token.Word word.Specifier) w d next e = specifier_so w.text d next e
statement_so (token.Word word.VariantSet) w d next e = itself d next e
statement_so (token.Word word.Edit) w d next e = headed_so (begun_heading (edit_of w.text)) d next e
statement_so (token.Word word.Reorder) w d next e = headed_so (begun_heading (edit_of w.text)) d next e
statement_so k w d next e = again (begun_heading Explicit) d next (after_edit_so k w (headed (begun_heading Explicit) d) next e)

pub statement_sound : (w : Word) (d next : Draft) → HasSoundProperties closed d → body_act w d ≡ Ok next → HasSoundProperties closed next
unfolding body_act
statement_sound w d next s e = kept closed (with_statement_over d) next (statement_so w.kind w (with_statement_over d) next e) (over_sound d s)

pub brackets_so : (d next : Draft) → brackets_act d ≡ Ok next → Keeps d next
unfolding brackets_act
brackets_so d next e = headed_so (with_brackets d.heading) d next e

-- ---- samples, and metadata of properties

pub sample_so : (k : WordKind) (w : Word) (d next : Draft) → sample_act k w d ≡ Ok next → Keeps d next
unfolding sample_act time_act
sample_so token.Number w d next e = made_so d w.start (time_of_number (number_of w.text)) (λ time. aimed_at_sample time d) next (λ time. record { property = refl; properties = refl; marks = refl; outer = refl; specs = refl; value = refl }) e
sample_so k w d next e = itself d next e

pub property_key_so : (w : Word) (d next : Draft) → property_key_act w d ≡ Ok next → Keeps d next
unfolding property_key_act aimed_at_key
property_key_so w d next e = made_so d w.start (property_rule w.text d.property) (λ rule. aimed_at_key goal.PropertyKey w.text rule d) next (λ rule. record { property = refl; properties = refl; marks = refl; outer = refl; specs = refl; value = refl }) e

property_item_sound : (r : Reading) (k : WordKind) (w : Word) (d next : Draft) → HasSoundProperties r d → property_item_act k w d ≡ Ok next → HasSoundProperties r next
unfolding property_item_act
property_item_sound r token.Quoted w d next s e =
    let m = then_made w.start (meta_comment_act w.text d.property) (with_property d) next e in
    subst (HasSoundProperties r) {x = with_property d m.0} m.1.1 (hand_is r r d m.0 (comment_hand r w.text d.property m.0 m.1.0 s.in_hand) s)
property_item_sound r k w d next s e = kept r d next (property_key_so w d next e) s

-- ---- metadata of owners

pub comment_so : (w : Word) (d next : Draft) → comment_act w d ≡ Ok next → Keeps d next
unfolding comment_act
comment_so w d next e = said_so d w.start (owner.comment_act w.text d.owner.said) next e

pub key_so : (key : List ℕ) (at : ℕ) (d next : Draft) → key_act key at d ≡ Ok next → Keeps d next
unfolding key_act aimed_at_key
key_so key at d next e = made_so d at (owner.key_act key d.owner.said) (λ rule. aimed_at_key goal.OwnerKey key rule d) next (λ rule. record { property = refl; properties = refl; marks = refl; outer = refl; specs = refl; value = refl }) e

pub variants_so : (w : Word) (d next : Draft) → variants_act w d ≡ Ok next → Keeps d next
unfolding variants_act
variants_so w d next e = made_so d w.start (variants.variants_act d.owner.said) _ next (λ said. record { property = refl; properties = refl; marks = refl; outer = refl; specs = refl; value = refl }) e

pub field_so : (field : ListField) (edit : ListEdit) (at : ℕ) (d next : Draft) → field_act field edit at d ≡ Ok next → Keeps d next
unfolding field_act
field_so field edit at d next e = made_so d at (fields.field_act field edit d.owner.said) (in_field field edit d) next (λ said. record { property = refl; properties = refl; marks = refl; outer = refl; specs = refl; value = refl }) e

pub string_field_so : (edit : ListEdit) (w : Word) (d next : Draft) → string_field_act edit w d ≡ Ok next → Keeps d next
unfolding string_field_act
string_field_so edit w d next e = field_so (Texts (fields.text_field w.text)) edit w.start d next e

pub path_field_so : (edit : ListEdit) (w : Word) (d next : Draft) → path_field_act edit w d ≡ Ok next → Keeps d next
unfolding path_field_act
path_field_so edit w d next e = field_so (Paths (fields.path_field w.text)) edit w.start d next e

pub reference_field_so : (edit : ListEdit) (w : Word) (d next : Draft) → reference_field_act edit w d ≡ Ok next → Keeps d next
unfolding reference_field_act
reference_field_so edit w d next e = field_so (References (fields.reference_field w.text)) edit w.start d next e

pub edit_so : (w : Word) (d next : Draft) → edit_act w d ≡ Ok next → Keeps d next
unfolding edit_act
edit_so w d next e = changed d (record d { edit = edit_of w.text; word = w.text; word_at = w.start }) next (record { property = refl; properties = refl; marks = refl; outer = refl; specs = refl; value = refl }) e

pub edited_so : (k : WordKind) (w : Word) (d next : Draft) → edited_act k w d ≡ Ok next → Keeps d next
unfolding edited_act
edited_so token.Equals w d next e = key_so d.word d.word_at d next e
edited_so (token.Word word.StringField) w d next e = string_field_so d.edit w d next e
edited_so (token.Word word.PathField) w d next e = path_field_so d.edit w d next e
edited_so (token.Word word.ReferenceField) w d next e = reference_field_so d.edit w d next e
edited_so k w d next e = itself d next e

pub prim_item_so : (k : WordKind) (w : Word) (d next : Draft) → prim_item_act k w d ≡ Ok next → Keeps d next
unfolding prim_item_act
prim_item_so token.Quoted w d next e = comment_so w d next e
prim_item_so (token.Word word.Edit) w d next e = edit_so w d next e
prim_item_so (token.Word word.Reorder) w d next e = edit_so w d next e
prim_item_so (token.Word word.Variants) w d next e = variants_so w d next e
prim_item_so (token.Word word.StringField) w d next e = string_field_so Explicit w d next e
prim_item_so (token.Word word.PathField) w d next e = path_field_so Explicit w d next e
prim_item_so (token.Word word.ReferenceField) w d next e = reference_field_so Explicit w d next e
prim_item_so k w d next e = key_so w.text w.start d next e

-- ---- the layer

pub unless_so : (b : Bool) (f : Refused) (d made next : Draft) → Keeps d made → (if b then Err f else Ok made) ≡ Ok next → Keeps d next
unless_so true f d made next k e = absurd cc
unless_so false f d made next k e = changed d made next k e

pub sublayers_so : (at : ℕ) (d next : Draft) → sublayers_act at d ≡ Ok next → Keeps d next
unfolding sublayers_act
sublayers_so at d next e =
    unless_so d.has_sublayers (refused DuplicateSpec at) d (record d { has_sublayers = true; list = open_list.SubLayers }) next (record { property = refl; properties = refl; marks = refl; outer = refl; specs = refl; value = refl }) e

pub head_item_so : (k : WordKind) (w : Word) (d next : Draft) → head_item_act k w d ≡ Ok next → Keeps d next
unfolding head_item_act
head_item_so token.Quoted w d next e = comment_so w d next e
head_item_so (token.Word word.SubLayers) w d next e = sublayers_so w.start d next e
head_item_so k w d next e = key_so w.text w.start d next e

pub root_so : (k : WordKind) (w : Word) (d next : Draft) → root_act k w d ≡ Ok next → Keeps d next
unfolding root_act
root_so (token.Word word.Specifier) w d next e = specifier_so w.text d next e
root_so k w d next e = itself d next e

pub sublayer_so : (k : WordKind) (w : Word) (d next : Draft) → sublayer_act k w d ≡ Ok next → Keeps d next
unfolding sublayer_act
sublayer_so token.Asset w d next e = changed d (record d { sublayers = d.sublayers ++ sublayer_of w.text ∷ [] }) next (record { property = refl; properties = refl; marks = refl; outer = refl; specs = refl; value = refl }) e
sublayer_so k w d next e = itself d next e

pub offset_key_so : (w : Word) (d next : Draft) → offset_key_act w d ≡ Ok next → Keeps d next
unfolding offset_key_act
offset_key_so w d next e = made_so d w.start (offset_key w.text) (λ k. record d { offset_key = k }) next (λ k. record { property = refl; properties = refl; marks = refl; outer = refl; specs = refl; value = refl }) e

pub number_so : (l : OpenList) (w : Word) (d next : Draft) → number_act l w d ≡ Ok next → Keeps d next
unfolding number_act
number_so (open_list.Field (References field)) w d next e = said_so d w.start (fields.item_number_act field d.edit d.offset_key w.text d.owner.said) next e
number_so open_list.SubLayers w d next e =
    made_so d w.start (amend_last (sublayer_number d.offset_key w.text) d.sublayers) (λ sublayers. record d { sublayers = sublayers }) next (λ sublayers. record { property = refl; properties = refl; marks = refl; outer = refl; specs = refl; value = refl }) e
number_so l w d next e = itself d next e

-- ---- prims and variants

pub open_so : (at : ℕ) (d next : Draft) → open_act at d ≡ Ok next → Keeps d next
unfolding open_act
open_so at d next e = unless_so d.opening.is_too_deep (refused TooDeep at) d d next (same_parts d) e

pub prim_type_so : (w : List ℕ) (d next : Draft) → prim_type_act w d ≡ Ok next → Keeps d next
unfolding prim_type_act
prim_type_so w d next e = changed d (record d { opening = record d.opening { type_name = Some w } }) next (record { property = refl; properties = refl; marks = refl; outer = refl; specs = refl; value = refl }) e

-- what an act that may be refused makes
made_sound : (r : Reading) (b : Bool) (k : RefusalKind) (made next : Draft) → HasSoundProperties r made → ◌≡◌ {A = Result Draft RefusalKind} (if b then Err k else Ok made) (Ok next) → HasSoundProperties r next
made_sound r true k made next s e = absurd cc
made_sound r false k made next s e = let same : made ≡ next = cc e in subst (HasSoundProperties r) same s

pub placed_ok : (at : ℕ) (a : Result Draft RefusalKind) (next : Draft) → placed at a ≡ Ok next → a ≡ Ok next
placed_ok at (Ok d) next e = cc
placed_ok at (Err k) next e = absurd cc

with_prim_sound : (r : Reading) (name : List ℕ) (path : List Element) (d : Draft) → HasSoundProperties r d → HasSoundProperties r (with_prim name path d)
unfolding with_prim with_child prim_at owner_of
with_prim_sound r name path d s =
    entered_sound r (prim_at path d.opening) (record d { owner = with_child name d.owner }) none_read (record { in_hand = s.in_hand; owner = s.owner; outer = s.outer; specs = s.specs })

entered_prim_sound : (r : Reading) (name : List ℕ) (o : Option (List Element)) (d next : Draft) → HasSoundProperties r d → entered_prim name o d ≡ Ok next → HasSoundProperties r next
unfolding entered_prim
entered_prim_sound r name None d next s e =
    let same : ◌≡◌ {A = Draft} (record d { opening = record d.opening { is_too_deep = true } }) next = cc e in
    subst (HasSoundProperties r) {x = record d { opening = record d.opening { is_too_deep = true } }} same (record { in_hand = s.in_hand; owner = s.owner; outer = s.outer; specs = s.specs })
entered_prim_sound r name (Some path) d next s e = made_sound r (is_closed path d.specs) DuplicateSpec (with_prim name path d) next (with_prim_sound r name path d s) e

prim_name_sound : (r : Reading) (w : List ℕ) (d next : Draft) → HasSoundProperties r d → prim_name_act w d ≡ Ok next → HasSoundProperties r next
unfolding prim_name_act named_prim
prim_name_sound r w d next s e =
    let name = then_ok (identifier_of w) (λ name. named_prim name d) next e in
    let path = then_ok (prim_place d.owner.said.path name.0) (λ path. entered_prim name.0 path d) next name.1.1 in
    entered_prim_sound r name.0 path.0 d next s path.1.1

begun_set_sound : (r : Reading) (name : List ℕ) (d next : Draft) → HasSoundProperties r d → begun_set name d ≡ Ok next → HasSoundProperties r next
unfolding begun_set with_set
begun_set_sound r name d next s e =
    made_sound r (has_set name d.owner) DuplicateSpec (record d { owner = with_set name d.owner }) next (record { in_hand = s.in_hand; owner = s.owner; outer = s.outer; specs = s.specs }) e

set_name_sound : (r : Reading) (w : List ℕ) (d next : Draft) → HasSoundProperties r d → set_name_act w d ≡ Ok next → HasSoundProperties r next
unfolding set_name_act
set_name_sound r w d next s e =
    let name = then_ok (identifier_of w) (λ name. begun_set name d) next e in
    begun_set_sound r name.0 d next s name.1.1

with_variant_sound : (r : Reading) (name : List ℕ) (path : List Element) (d : Draft) → HasSoundProperties r d → HasSoundProperties r (with_variant_at name path d)
unfolding with_variant_at with_variant owner_of
with_variant_sound r name path d s =
    entered_sound r (owner_of path _ None) (record d { owner = with_variant name d.owner }) none_read (record { in_hand = s.in_hand; owner = s.owner; outer = s.outer; specs = s.specs })

entered_variant_sound : (r : Reading) (name : List ℕ) (path : List Element) (d next : Draft) → HasSoundProperties r d → entered_variant name path d ≡ Ok next → HasSoundProperties r next
unfolding entered_variant
entered_variant_sound r name path d next s e = made_sound r (is_closed path d.specs) DuplicateSpec (with_variant_at name path d) next (with_variant_sound r name path d s) e

variant_name_sound : (r : Reading) (w : List ℕ) (d next : Draft) → HasSoundProperties r d → variant_name_act w d ≡ Ok next → HasSoundProperties r next
unfolding variant_name_act named_variant
variant_name_sound r w d next s e =
    let name = then_ok (variant_of w) (λ name. named_variant name d) next e in
    let path = then_ok (variant_place d.owner.said.path d.owner.set name.0) (λ path. entered_variant name.0 path d) next name.1.1 in
    entered_variant_sound r name.0 path.0 d next s path.1.1

-- ---- all symbols

layers_sound : (r : Reading) (s : Symbol) (w : Word) (d next : Draft) → takes_turns s ≡ false → HasSoundProperties r d → layers_act s w d ≡ Ok next → HasSoundProperties r next
unfolding layers_act
layers_sound r symbol.HeadItems w d next t h e = kept r d next (head_item_so w.kind w d next e) h
layers_sound r symbol.SubLayersOrEnd w d next t h e = kept r d next (sublayer_so w.kind w d next e) h
layers_sound r symbol.OffsetItems w d next t h e = kept r d next (offset_key_so w d next e) h
layers_sound r symbol.OffsetNumber w d next t h e = kept r d next (number_so d.list w d next e) h
layers_sound r symbol.RootStatements w d next t h e = kept r d next (root_so w.kind w d next e) h
layers_sound r symbol.RootPrims w d next t h e = kept r d next (root_order_so w d next e) h
layers_sound r symbol.OpenBrace w d next t h e = kept r d next (open_so w.start d next e) h
layers_sound r symbol.BodyEnd w d next t h e = absurd cc
layers_sound r symbol.PrimName w d next t h e = prim_name_sound r w.text d next h (placed_ok w.start (prim_name_act w.text d) next e)
layers_sound r symbol.SetName w d next t h e = set_name_sound r w.text d next h (placed_ok w.start (set_name_act w.text d) next e)
layers_sound r s w d next t h e = kept r d next (itself d next e) h

pub prims_sound : (r : Reading) (s : Symbol) (w : Word) (d next : Draft) → takes_lists s ≡ false → takes_turns s ≡ false → HasSoundProperties r d → prims_act s w d ≡ Ok next → HasSoundProperties r next
unfolding prims_act
prims_sound r symbol.MaybeTypeName w d next l t h e = kept r d next (prim_type_so w.text d next e) h
prims_sound r symbol.MaybePrimMetadata w d next l t h e = kept r d next (open_so w.start d next e) h
prims_sound r symbol.PrimMetadata w d next l t h e = kept r d next (prim_item_so w.kind w d next e) h
prims_sound r symbol.EditedField w d next l t h e = kept r d next (edited_so w.kind w d next e) h
prims_sound r symbol.StringList w d next l t h e = absurd cc
prims_sound r symbol.StringsOrEnd w d next l t h e = absurd cc
prims_sound r symbol.MoreStrings w d next l t h e = absurd cc
prims_sound r symbol.PathList w d next l t h e = absurd cc
prims_sound r symbol.PathsOrEnd w d next l t h e = absurd cc
prims_sound r symbol.MorePaths w d next l t h e = absurd cc
prims_sound r symbol.ReferenceList w d next l t h e = absurd cc
prims_sound r symbol.ReferencesOrEnd w d next l t h e = absurd cc
prims_sound r symbol.MoreReferences w d next l t h e = absurd cc
prims_sound r symbol.MaybePath w d next l t h e = kept r d next (item_path_so d.list w d next e) h
prims_sound r symbol.VariantList w d next l t h e = variant_name_sound r w.text d next h (placed_ok w.start (variant_name_act w.text d) next e)
prims_sound r s w d next l t h e = layers_sound r s w d next t h e

pub bodies_sound : (r : Reading) (s : Symbol) (w : Word) (d next : Draft)
    → takes_lists s ≡ false → takes_turns s ≡ false → begins_value s ≡ false → HasSoundProperties r d → bodies_act s w d ≡ Ok next → HasSoundProperties r next
unfolding bodies_act
bodies_sound r symbol.PrimBody w d next l t v h e = absurd cc
bodies_sound r symbol.AfterCustom w d next l t v h e = kept r d next (after_custom_so w.kind w d next e) h
bodies_sound r symbol.AfterVariability w d next l t v h e = kept r d next (after_variability_so w.kind w d next e) h
bodies_sound r symbol.AfterEdit w d next l t v h e = kept r d next (after_edit_so w.kind w d next e) h
bodies_sound r symbol.AfterReorder w d next l t v h e = kept r d next (after_reorder_so w.kind w d next e) h
bodies_sound r symbol.AfterEditedCustom w d next l t v h e = kept r d next (after_custom_so w.kind w d next e) h
bodies_sound r symbol.AfterEditedVariability w d next l t v h e = kept r d next (after_variability_so w.kind w d next e) h
bodies_sound r symbol.MaybeBrackets w d next l t v h e = kept r d next (brackets_so d next e) h
bodies_sound r symbol.PropertyName w d next l t v h e = absurd cc
bodies_sound r symbol.MaybeAttributeTail w d next l t v h e = tail_sound r w.kind d next h e
bodies_sound r symbol.AfterDot w d next l t v h e = absurd cc
bodies_sound r symbol.ConnectWord w d next l t v h e = absurd cc
bodies_sound r symbol.SamplesOrEnd w d next l t v h e = kept r d next (sample_so w.kind w d next e) h
bodies_sound r symbol.MaybeTargets w d next l t v h e = absurd cc
bodies_sound r symbol.PropertyMetadata w d next l t v h e = property_item_sound r w.kind w d next h e
bodies_sound r symbol.Value w d next l t v h e = absurd cc
bodies_sound r symbol.Dictionary w d next l t v h e = absurd cc
bodies_sound r symbol.NamesOrEnd w d next l t v h e = kept r d next (order_name_so w.kind w d next e) h
bodies_sound r s w d next l t v h e = prims_sound r s w d next l t h e

others_sound : (r : Reading) (s : Symbol) (w : Word) (d next : Draft) → is_open d.value ≡ false → takes_lists s ≡ false → takes_turns s ≡ false → begins_value s ≡ false
    → HasSoundProperties r d → act s w d ≡ Ok next → HasSoundProperties r next
unfolding act
others_sound r s w d next shut l t v h e = by w.too_long (is_open d.value) shut e
  where
    by : (long inside : Bool) → inside ≡ false → (if long then Err (refused NumberTooLong w.start) else if inside then token_act w d else bodies_act s w d) ≡ Ok next → HasSoundProperties r next
    by true inside f e = absurd cc
    by false true f e = absurd cc
    by false false f e = bodies_sound r s w d next l t v h e

pub drafts_read : DraftsAreRead
drafts_read = record {
  blank = blank_sound;
  value = token_sound;
  first = first_sound;
  statement = statement_sound;
  ended = ended_sound;
  named = name_sound;
  dotted = dot_sound;
  targets = targets_sound;
  list_started = started_sound;
  list_part = part_sound;
  other_list = other_list_sound;
  references = references_sound;
  others = others_sound;
}
