-- A word that is no value's leaves the open value as it is.
use Rattle.std.proofs.Common.{◌≡◌, ◌∙◌, ℕ, Bool, true, false, List, Option, Some, None, Result, Ok, Err, refl, subst}
use Rattle.std.specs.Prelude.{if◌then◌else◌}
use Rattle.plain_data.specs.Ends.{last}
use Rattle.sdf_paths.specs.declared.element.Element.{Element}
use Rattle.sdf_values.specs.declared.refusal.RefusalKind.{RefusalKind}
use Rattle.sdf_values.specs.declared.refusal.RefusalKind.TheVariants.{DuplicateSpec, TooDeep}
use Rattle.sdf_values.specs.declared.value.Value.{Value}
use Rattle.usda_drafts.specs.Acts.{layers_act, prims_act, bodies_act}
use Rattle.usda_drafts.specs.Bodies.{headed, type_act, after_variability_act, after_custom_act, after_edit_act, after_reorder_act, statement_act, body_act, brackets_act, with_name, name_act, default_begun, samples_begun, list_begun, tail_act, dot_act, sample_act}
use Rattle.usda_drafts.specs.Closed.{is_closed}
use Rattle.usda_drafts.specs.Lists.{string_act, list_path_act, asset_act, lone_path_act, item_path_act, end_act, in_list_act, in_references_act, sublayer_act, offset_key_act, number_act}
use Rattle.usda_drafts.specs.Metadata.{said_act, comment_act, key_act, variants_act, in_field, field_act, string_field_act, path_field_act, reference_field_act, edit_act, edited_act, prim_item_act, sublayers_act, head_item_act, root_act, in_order, ordered_by, order_act, root_order_act, order_name_act, property_rule, property_key_act, property_item_act}
use Rattle.usda_drafts.specs.Owners.{has_set, with_set, property_for}
use Rattle.usda_drafts.specs.Places.{prim_place, variant_place}
use Rattle.usda_drafts.specs.Prims.{specifier_act, prim_type_act, entered, with_prim, entered_prim, named_prim, prim_name_act, open_act, begun_set, set_name_act, with_variant_at, entered_variant, named_variant, variant_name_act, with_statement_over, left, left_for, body_end_act}
use Rattle.usda_drafts.specs.Refusals.{refused, placed, then_with}
use Rattle.usda_drafts.specs.Values.{aimed, aimed_at_key, aimed_at_default, aimed_at_sample, time_of_number, time_act, with_said, with_property, completed}
use Rattle.usda_drafts.specs.declared.aim.Goal.{Goal}
use Rattle.usda_drafts.specs.declared.aim.Goal.TheVariants as goal
use Rattle.usda_drafts.specs.declared.draft.Draft.{Draft}
use Rattle.usda_drafts.specs.declared.draft.OpenList.{OpenList}
use Rattle.usda_drafts.specs.declared.draft.OpenList.TheVariants as open_list
use Rattle.usda_drafts.specs.declared.owner.Owner.{Owner}
use Rattle.usda_fields.specs.Fields as fields
use Rattle.usda_fields.specs.Names.{identifier_of, variant_of}
use Rattle.usda_fields.specs.Owners as owner
use Rattle.usda_fields.specs.Variants as variants
use Rattle.usda_fields.specs.declared.field.ListField.{ListField}
use Rattle.usda_fields.specs.declared.field.ListField.TheVariants.{Paths, References, Texts}
use Rattle.usda_fields.specs.declared.owner.OrderWord.{OrderWord}
use Rattle.usda_fields.specs.declared.owner.OwnerDraft.{OwnerDraft}
use Rattle.usda_fields.specs.declared.keys.KeyRule.{KeyRule}
use Rattle.usda_grammar.specs.declared.kinds.WordKind.{WordKind}
use Rattle.usda_grammar.specs.declared.kinds.WordKind.TheVariants as token
use Rattle.usda_grammar.specs.declared.kinds.Keyword.TheVariants as word
use Rattle.usda_grammar.specs.declared.symbols.Symbol.{Symbol}
use Rattle.usda_grammar.specs.declared.symbols.Symbol.TheVariants as symbol
use Rattle.usda_lists.specs.Acts.{and_then}
use Rattle.usda_lists.specs.declared.edit.ListEdit.{ListEdit}
use Rattle.usda_lists.specs.declared.edit.ListEdit.TheVariants.{Explicit}
use Rattle.usda_lexer.specs.Meanings.{number_of}
use Rattle.usda_lists.specs.Lists.{amend_last}
use Rattle.usda_lists.specs.Offsets.{offset_key}
use Rattle.usda_lists.specs.References.{sublayer_number}
use Rattle.usda_statements.specs.Headings.{begun, with_type}
use Rattle.usda_statements.specs.PropertyDrafts.{default_act, samples_act, list_act, path_act, meta_comment_act, meta_act}
use Rattle.usda_fields.specs.declared.owner.OrderWord.TheVariants.{NameChildren}
use Rattle.usda_values.specs.declared.shape.Shape.TheVariants.{Dictionary}
use Rattle.usda_statements.specs.declared.open_value.OpenValue.{OpenValue}
use Rattle.usda_words.specs.Words.{Word}
use Rattle.text_syntax.specs.Open.{begins_value}

-- the draft that an act makes has this value
abbrev pub Has : {E : Type 0} → OpenValue → Result Draft E → Type 0
Has v (Ok d) = d.value ≡ v
Has v (Err e) = Unit {0}

then_has : {A : Type 0} (v : OpenValue) (at : ℕ) (r : Result A RefusalKind) (make : A → Draft) → ((a : A) → (make a).value ≡ v) → Has v (then_with at r make)
then_has v at (Ok a) make h = h a
then_has v at (Err k) make h = tt

placed_has : (v : OpenValue) (at : ℕ) (r : Result Draft RefusalKind) → Has v r → Has v (placed at r)
placed_has v at (Ok d) h = h
placed_has v at (Err k) h = tt

and_has : {A : Type 0} (v : OpenValue) (r : Result A RefusalKind) (more : A → Result Draft RefusalKind) → ((a : A) → Has v (more a)) → Has v (and_then r more)
and_has v (Ok a) more h = h a
and_has v (Err k) more h = tt

if_has : {E : Type 0} (v : OpenValue) (b : Bool) (x y : Result Draft E) → Has v x → Has v y → Has v (if b then x else y)
if_has v true x y p q = p
if_has v false x y p q = q

-- ---- prims

specifier_has : (t : List ℕ) (d : Draft) → Has d.value (specifier_act t d)
unfolding specifier_act
specifier_has t d = refl

prim_type_has : (t : List ℕ) (d : Draft) → Has d.value (prim_type_act t d)
unfolding prim_type_act
prim_type_has t d = refl

with_prim_has : (t : List ℕ) (path : List Element) (d : Draft) → (with_prim t path d).value ≡ d.value
unfolding with_prim entered
with_prim_has t path d = refl

entered_prim_has : (t : List ℕ) (path : Option (List Element)) (d : Draft) → Has d.value (entered_prim t path d)
unfolding entered_prim
entered_prim_has t None d = refl
entered_prim_has t (Some path) d = if_has d.value (is_closed path d.specs) (Err DuplicateSpec) (Ok (with_prim t path d)) tt (with_prim_has t path d)

named_prim_has : (t : List ℕ) (d : Draft) → Has d.value (named_prim t d)
unfolding named_prim
named_prim_has t d = and_has d.value (prim_place d.owner.said.path t) (λ path. entered_prim t path d) (λ path. entered_prim_has t path d)

prim_name_has : (t : List ℕ) (d : Draft) → Has d.value (prim_name_act t d)
unfolding prim_name_act
prim_name_has t d = and_has d.value (identifier_of t) (λ name. named_prim name d) (λ name. named_prim_has name d)

open_has : (at : ℕ) (d : Draft) → Has d.value (open_act at d)
unfolding open_act
open_has at d = if_has d.value d.opening.is_too_deep (Err (refused TooDeep at)) (Ok d) tt refl

begun_set_has : (t : List ℕ) (d : Draft) → Has d.value (begun_set t d)
unfolding begun_set
begun_set_has t d = if_has d.value (has_set t d.owner) (Err DuplicateSpec) (Ok (record d { owner = with_set t d.owner })) tt refl

set_name_has : (t : List ℕ) (d : Draft) → Has d.value (set_name_act t d)
unfolding set_name_act
set_name_has t d = and_has d.value (identifier_of t) (λ name. begun_set name d) (λ name. begun_set_has name d)

with_variant_has : (t : List ℕ) (path : List Element) (d : Draft) → (with_variant_at t path d).value ≡ d.value
unfolding with_variant_at entered
with_variant_has t path d = refl

entered_variant_has : (t : List ℕ) (path : List Element) (d : Draft) → Has d.value (entered_variant t path d)
unfolding entered_variant
entered_variant_has t path d = if_has d.value (is_closed path d.specs) (Err DuplicateSpec) (Ok (with_variant_at t path d)) tt (with_variant_has t path d)

named_variant_has : (t : List ℕ) (d : Draft) → Has d.value (named_variant t d)
unfolding named_variant
named_variant_has t d = and_has d.value (variant_place d.owner.said.path d.owner.set t) (λ path. entered_variant t path d) (λ path. entered_variant_has t path d)

variant_name_has : (t : List ℕ) (d : Draft) → Has d.value (variant_name_act t d)
unfolding variant_name_act
variant_name_has t d = and_has d.value (variant_of t) (λ name. named_variant name d) (λ name. named_variant_has name d)

over_has : (d : Draft) → (with_statement_over d).value ≡ d.value
unfolding with_statement_over
over_has d = refl

left_has : (d : Draft) → (left d).value ≡ d.value
unfolding left
left_has d = cases (last d.outer)
  where
    cases : (o : Option Owner) → (left_for o d).value ≡ d.value
    cases None = refl
    cases (Some o) = refl

body_end_has : (d : Draft) → Has d.value (body_end_act d)
unfolding body_end_act
body_end_has d = left_has (with_statement_over d) ∙ over_has d

-- ---- metadata

said_has : (at : ℕ) (r : Result OwnerDraft RefusalKind) (d : Draft) → Has d.value (said_act at r d)
said_has at r d = then_has d.value at r (with_said d) (λ a. refl)

comment_has : (w : Word) (d : Draft) → Has d.value (comment_act w d)
unfolding comment_act
comment_has w d = said_has w.start (owner.comment_act w.text d.owner.said) d

aimed_has : (g : Goal) (key : List ℕ) (rule : KeyRule) (d : Draft) → (aimed_at_key g key rule d).value ≡ d.value
unfolding aimed_at_key
aimed_has g key rule d = refl

key_has : (key : List ℕ) (at : ℕ) (d : Draft) → Has d.value (key_act key at d)
unfolding key_act
key_has key at d = then_has d.value at (owner.key_act key d.owner.said) (λ rule. aimed_at_key goal.OwnerKey key rule d) (λ rule. aimed_has goal.OwnerKey key rule d)

variants_has : (w : Word) (d : Draft) → Has d.value (variants_act w d)
unfolding variants_act
variants_has w d = then_has d.value w.start (variants.variants_act d.owner.said) (λ said. aimed goal.Variants Dictionary (with_said d said)) (λ said. refl)

field_has : (field : ListField) (edit : ListEdit) (at : ℕ) (d : Draft) → Has d.value (field_act field edit at d)
unfolding field_act
field_has field edit at d = then_has d.value at (fields.field_act field edit d.owner.said) (in_field field edit d) (λ said. refl)

string_field_has : (edit : ListEdit) (w : Word) (d : Draft) → Has d.value (string_field_act edit w d)
unfolding string_field_act
string_field_has edit w d = field_has (Texts (fields.text_field w.text)) edit w.start d

path_field_has : (edit : ListEdit) (w : Word) (d : Draft) → Has d.value (path_field_act edit w d)
unfolding path_field_act
path_field_has edit w d = field_has (Paths (fields.path_field w.text)) edit w.start d

reference_field_has : (edit : ListEdit) (w : Word) (d : Draft) → Has d.value (reference_field_act edit w d)
unfolding reference_field_act
reference_field_has edit w d = field_has (References (fields.reference_field w.text)) edit w.start d

edit_has : (w : Word) (d : Draft) → Has d.value (edit_act w d)
unfolding edit_act
edit_has w d = refl

edited_has : (k : WordKind) (w : Word) (d : Draft) → Has d.value (edited_act k w d)
unfolding edited_act
edited_has token.Equals w d = key_has d.word d.word_at d
edited_has (token.Word word.StringField) w d = string_field_has d.edit w d
edited_has (token.Word word.PathField) w d = path_field_has d.edit w d
edited_has (token.Word word.ReferenceField) w d = reference_field_has d.edit w d
edited_has k w d = refl

prim_item_has : (k : WordKind) (w : Word) (d : Draft) → Has d.value (prim_item_act k w d)
unfolding prim_item_act
prim_item_has token.Quoted w d = comment_has w d
prim_item_has (token.Word word.Edit) w d = edit_has w d
prim_item_has (token.Word word.Reorder) w d = edit_has w d
prim_item_has (token.Word word.Variants) w d = variants_has w d
prim_item_has (token.Word word.StringField) w d = string_field_has Explicit w d
prim_item_has (token.Word word.PathField) w d = path_field_has Explicit w d
prim_item_has (token.Word word.ReferenceField) w d = reference_field_has Explicit w d
prim_item_has k w d = key_has w.text w.start d

sublayers_has : (at : ℕ) (d : Draft) → Has d.value (sublayers_act at d)
unfolding sublayers_act
sublayers_has at d = if_has d.value d.has_sublayers (Err (refused DuplicateSpec at)) (Ok (record d { has_sublayers = true; list = open_list.SubLayers })) tt refl

head_item_has : (k : WordKind) (w : Word) (d : Draft) → Has d.value (head_item_act k w d)
unfolding head_item_act
head_item_has token.Quoted w d = comment_has w d
head_item_has (token.Word word.SubLayers) w d = sublayers_has w.start d
head_item_has k w d = key_has w.text w.start d

root_has : (k : WordKind) (w : Word) (d : Draft) → Has d.value (root_act k w d)
unfolding root_act
root_has (token.Word word.Specifier) w d = specifier_has w.text d
root_has k w d = refl

ordered_has : (o : OrderWord) (at : ℕ) (d : Draft) → Has d.value (ordered_by o at d)
unfolding ordered_by
ordered_has o at d = then_has d.value at (owner.order_act o d.owner.said) (in_order o d) (λ said. refl)

order_has : (w : Word) (d : Draft) → Has d.value (order_act w d)
unfolding order_act
order_has w d = ordered_has (owner.order_word w.text) w.start d

root_order_has : (w : Word) (d : Draft) → Has d.value (root_order_act w d)
unfolding root_order_act
root_order_has w d = ordered_has NameChildren w.start d

order_name_has : (k : WordKind) (w : Word) (d : Draft) → Has d.value (order_name_act k w d)
unfolding order_name_act
order_name_has token.Quoted w d = said_has w.start (owner.ordered_act d.order w.text d.owner.said) d
order_name_has k w d = refl

property_key_has : (w : Word) (d : Draft) → Has d.value (property_key_act w d)
unfolding property_key_act
property_key_has w d = then_has d.value w.start (property_rule w.text d.property) (λ rule. aimed_at_key goal.PropertyKey w.text rule d) (λ rule. aimed_has goal.PropertyKey w.text rule d)

property_item_has : (k : WordKind) (w : Word) (d : Draft) → Has d.value (property_item_act k w d)
unfolding property_item_act
property_item_has token.Quoted w d = then_has d.value w.start (meta_comment_act w.text d.property) (with_property d) (λ p. refl)
property_item_has k w d = property_key_has w d

-- ---- lists

string_has : (l : OpenList) (w : Word) (d : Draft) → Has d.value (string_act l w d)
unfolding string_act
string_has (open_list.Field (Texts field)) w d = said_has w.start (fields.text_act field d.edit w.text d.owner.said) d
string_has l w d = refl

list_path_has : (l : OpenList) (w : Word) (d : Draft) → Has d.value (list_path_act l w d)
unfolding list_path_act
list_path_has (open_list.Field (Paths field)) w d = said_has w.start (fields.path_act field d.edit w.text d.owner.said) d
list_path_has open_list.Property w d = then_has d.value w.start (path_act d.owner.said.base w.text d.property) (with_property d) (λ p. refl)
list_path_has l w d = refl

asset_has : (l : OpenList) (w : Word) (d : Draft) → Has d.value (asset_act l w d)
unfolding asset_act
asset_has (open_list.Field (References field)) w d = refl
asset_has l w d = refl

lone_path_has : (l : OpenList) (w : Word) (d : Draft) → Has d.value (lone_path_act l w d)
unfolding lone_path_act
lone_path_has (open_list.Field (References field)) w d = said_has w.start (fields.lone_path_act field d.edit w.text d.owner.said) d
lone_path_has l w d = refl

item_path_has : (l : OpenList) (w : Word) (d : Draft) → Has d.value (item_path_act l w d)
unfolding item_path_act
item_path_has (open_list.Field (References field)) w d = said_has w.start (fields.item_path_act field d.edit w.text d.owner.said) d
item_path_has l w d = refl

end_has : (l : OpenList) (d : Draft) → Has d.value (end_act l d)
unfolding end_act
end_has (open_list.Field field) d = refl
end_has open_list.Property d = refl
end_has l d = refl

in_list_has : (k : WordKind) (w : Word) (d : Draft) → Has d.value (in_list_act k w d)
unfolding in_list_act
in_list_has token.Quoted w d = string_has d.list w d
in_list_has token.Path w d = list_path_has d.list w d
in_list_has token.CloseBracket w d = end_has d.list d
in_list_has k w d = refl

in_references_has : (k : WordKind) (w : Word) (d : Draft) → Has d.value (in_references_act k w d)
unfolding in_references_act
in_references_has token.Asset w d = asset_has d.list w d
in_references_has token.Path w d = lone_path_has d.list w d
in_references_has token.CloseBracket w d = end_has d.list d
in_references_has k w d = refl

sublayer_has : (k : WordKind) (w : Word) (d : Draft) → Has d.value (sublayer_act k w d)
unfolding sublayer_act
sublayer_has token.Asset w d = refl
sublayer_has k w d = refl

offset_key_has : (w : Word) (d : Draft) → Has d.value (offset_key_act w d)
unfolding offset_key_act
offset_key_has w d = then_has d.value w.start (offset_key w.text) (λ k. record d { offset_key = k }) (λ k. refl)

number_has : (l : OpenList) (w : Word) (d : Draft) → Has d.value (number_act l w d)
unfolding number_act
number_has (open_list.Field (References field)) w d = said_has w.start (fields.item_number_act field d.edit d.offset_key w.text d.owner.said) d
number_has open_list.SubLayers w d = then_has d.value w.start (amend_last (sublayer_number d.offset_key w.text) d.sublayers) (λ sublayers. record d { sublayers = sublayers }) (λ sublayers. refl)
number_has l w d = refl

-- ---- statements of a prim

type_has : (w : Word) (d : Draft) → Has d.value (type_act w d)
unfolding type_act
type_has w d = then_has d.value w.start (with_type w.text d.heading) (λ h. headed h d) (λ h. refl)

after_variability_has : (k : WordKind) (w : Word) (d : Draft) → Has d.value (after_variability_act k w d)
unfolding after_variability_act
after_variability_has (token.Word word.Rel) w d = refl
after_variability_has k w d = type_has w d

after_custom_has : (k : WordKind) (w : Word) (d : Draft) → Has d.value (after_custom_act k w d)
unfolding after_custom_act
after_custom_has (token.Word word.Variability) w d = refl
after_custom_has k w d = after_variability_has k w d

after_edit_has : (k : WordKind) (w : Word) (d : Draft) → Has d.value (after_edit_act k w d)
unfolding after_edit_act
after_edit_has (token.Word word.Custom) w d = refl
after_edit_has k w d = after_custom_has k w d

after_reorder_has : (k : WordKind) (w : Word) (d : Draft) → Has d.value (after_reorder_act k w d)
unfolding after_reorder_act
after_reorder_has (token.Word word.OrderedField) w d = order_has w d
after_reorder_has k w d = after_edit_has k w d

statement_has : (k : WordKind) (w : Word) (d : Draft) → Has d.value (statement_act k w d)
unfolding statement_act
statement_has (token.Word word.Specifier) w d = specifier_has w.text d
statement_has (token.Word word.VariantSet) w d = refl
statement_has (token.Word word.Edit) w d = refl
statement_has (token.Word word.Reorder) w d = refl
statement_has k w d = after_edit_has k w (headed (begun Explicit) d)

body_has : (w : Word) (d : Draft) → Has d.value (body_act w d)
unfolding body_act with_statement_over
body_has w d = statement_has w.kind w (with_statement_over d)

brackets_has : (d : Draft) → Has d.value (brackets_act d)
unfolding brackets_act
brackets_has d = refl

name_has : (w : Word) (d : Draft) → Has d.value (name_act w d)
unfolding name_act
name_has w d = then_has d.value w.start (property_for d.heading w.text d.owner) (with_name w.text w.start d) (λ p. refl)

default_aimed_has : (d : Draft) → (aimed_at_default d).value ≡ d.value
unfolding aimed_at_default
default_aimed_has d = refl

default_has : (d : Draft) → Has d.value (default_begun d)
unfolding default_begun
default_has d = then_has d.value d.name_at (default_act d.property) (λ p. aimed_at_default (with_property d p)) (λ p. default_aimed_has (with_property d p))

samples_has : (d : Draft) → Has d.value (samples_begun d)
unfolding samples_begun
samples_has d = then_has d.value d.name_at (samples_act d.property) (with_property d) (λ p. refl)

list_has : (d : Draft) → Has d.value (list_begun d)
unfolding list_begun
list_has d = then_has d.value d.name_at (list_act d.property) (λ p. record (with_property d p) { list = open_list.Property }) (λ p. refl)

tail_has : (k : WordKind) (d : Draft) → Has d.value (tail_act k d)
unfolding tail_act
tail_has token.Equals d = default_has d
tail_has k d = refl

dot_has : (k : WordKind) (at : ℕ) (d : Draft) → Has d.value (dot_act k at d)
unfolding dot_act
dot_has (token.Word word.TimeSamples) at d = samples_has d
dot_has (token.Word word.Connect) at d = list_has d
dot_has k at d = tt

time_has : (t : List ℕ) (at : ℕ) (d : Draft) → Has d.value (time_act t at d)
unfolding time_act
time_has t at d = then_has d.value at (time_of_number (number_of t)) (λ time. aimed_at_sample time d) (λ time. refl)

sample_has : (k : WordKind) (w : Word) (d : Draft) → Has d.value (sample_act k w d)
unfolding sample_act
sample_has token.Number w d = time_has w.text w.start d
sample_has k w d = refl

-- ---- all symbols but those at which a value begins

layers_has : (s : Symbol) (w : Word) (d : Draft) → Has d.value (layers_act s w d)
unfolding layers_act
layers_has symbol.HeadItems w d = head_item_has w.kind w d
layers_has symbol.SubLayersOrEnd w d = sublayer_has w.kind w d
layers_has symbol.OffsetItems w d = offset_key_has w d
layers_has symbol.OffsetNumber w d = number_has d.list w d
layers_has symbol.RootStatements w d = root_has w.kind w d
layers_has symbol.RootPrims w d = root_order_has w d
layers_has symbol.OpenBrace w d = open_has w.start d
layers_has symbol.BodyEnd w d = body_end_has d
layers_has symbol.PrimName w d = placed_has d.value w.start (prim_name_act w.text d) (prim_name_has w.text d)
layers_has symbol.SetName w d = placed_has d.value w.start (set_name_act w.text d) (set_name_has w.text d)
layers_has s w d = refl

prims_has : (s : Symbol) (w : Word) (d : Draft) → Has d.value (prims_act s w d)
unfolding prims_act
prims_has symbol.MaybeTypeName w d = prim_type_has w.text d
prims_has symbol.MaybePrimMetadata w d = open_has w.start d
prims_has symbol.PrimMetadata w d = prim_item_has w.kind w d
prims_has symbol.EditedField w d = edited_has w.kind w d
prims_has symbol.StringList w d = in_list_has w.kind w d
prims_has symbol.StringsOrEnd w d = in_list_has w.kind w d
prims_has symbol.MoreStrings w d = in_list_has w.kind w d
prims_has symbol.PathList w d = in_list_has w.kind w d
prims_has symbol.PathsOrEnd w d = in_list_has w.kind w d
prims_has symbol.MorePaths w d = in_list_has w.kind w d
prims_has symbol.ReferenceList w d = in_references_has w.kind w d
prims_has symbol.ReferencesOrEnd w d = in_references_has w.kind w d
prims_has symbol.MoreReferences w d = in_references_has w.kind w d
prims_has symbol.MaybePath w d = item_path_has d.list w d
prims_has symbol.VariantList w d = placed_has d.value w.start (variant_name_act w.text d) (variant_name_has w.text d)
prims_has s w d = layers_has s w d

pub bodies_has : (s : Symbol) (w : Word) (d : Draft) → begins_value s ≡ false → Has d.value (bodies_act s w d)
unfolding bodies_act
bodies_has symbol.PrimBody w d h = body_has w d
bodies_has symbol.AfterCustom w d h = after_custom_has w.kind w d
bodies_has symbol.AfterVariability w d h = after_variability_has w.kind w d
bodies_has symbol.AfterEdit w d h = after_edit_has w.kind w d
bodies_has symbol.AfterReorder w d h = after_reorder_has w.kind w d
bodies_has symbol.AfterEditedCustom w d h = after_custom_has w.kind w d
bodies_has symbol.AfterEditedVariability w d h = after_variability_has w.kind w d
bodies_has symbol.MaybeBrackets w d h = brackets_has d
bodies_has symbol.PropertyName w d h = name_has w d
bodies_has symbol.MaybeAttributeTail w d h = tail_has w.kind d
bodies_has symbol.AfterDot w d h = dot_has w.kind w.start d
bodies_has symbol.ConnectWord w d h = dot_has w.kind w.start d
bodies_has symbol.SamplesOrEnd w d h = sample_has w.kind w d
bodies_has symbol.MaybeTargets w d h = list_has d
bodies_has symbol.PropertyMetadata w d h = property_item_has w.kind w d
bodies_has symbol.Value w d h = absurd cc
bodies_has symbol.Dictionary w d h = absurd cc
bodies_has symbol.NamesOrEnd w d h = order_name_has w.kind w d
bodies_has s w d h = prims_has s w d

-- the same of the draft that comes of the word
pub bodies_value : (s : Symbol) (w : Word) (d next : Draft) → begins_value s ≡ false → bodies_act s w d ≡ Ok next → next.value ≡ d.value
bodies_value s w d next begins h = subst (Has d.value) h (bodies_has s w d begins)

-- ---- a value that is complete

pub completed_has : (g : Goal) (v : Value) (at : ℕ) (d : Draft) → Has d.value (completed g v at d)
unfolding completed
completed_has goal.Nothing v at d = refl
completed_has goal.OwnerKey v at d = then_has d.value at (owner.value_act d.aim.key v d.owner.said) (with_said d) (λ said. refl)
completed_has goal.Variants v at d = refl
completed_has goal.PropertyKey v at d = then_has d.value at (meta_act d.aim.key v d.property) (with_property d) (λ p. refl)
completed_has goal.Default v at d = refl
completed_has goal.Sample v at d = refl
