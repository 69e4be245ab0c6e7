-- A word that neither names nor ends a prim, a variant set or a variant, and does not name a property, leaves the tree as it is.
use Rattle.std.proofs.Common.{◌≡◌, ◌∙◌, ℕ, Bool, true, false, List, [], ◌∷◌, length, length-append, Result, Ok, Err, ap, sym, refl, subst, arith}
use Rattle.std.specs.Prelude.{if◌then◌else◌}
use Rattle.sdf_paths.specs.declared.element.Element.{Element}
use Rattle.sdf_specs.specs.Layers.{SpecEntries}
use Rattle.sdf_values.specs.declared.refusal.RefusalKind.{RefusalKind}
use Rattle.sdf_values.specs.declared.refusal.RefusalKind.TheVariants.{DuplicateSpec, TooDeep}
use Rattle.sdf_values.specs.declared.value.Value.{Value}
use Rattle.spec_parts.specs.declared.items.Specifier.{Specifier}
use Rattle.spec_properties.specs.Properties.{with_property as property_placed}
use Rattle.usda_drafts.specs.Acts.{layers_act, prims_act, bodies_act}
use Rattle.usda_drafts.specs.Bodies.{headed, type_act, after_variability_act, after_custom_act, after_edit_act, after_reorder_act, statement_act, body_act, brackets_act, default_begun, samples_begun, list_begun, tail_act, dot_act, sample_act}
use Rattle.usda_drafts.specs.Lists.{string_act, list_path_act, asset_act, lone_path_act, item_path_act, end_act, in_list_act, in_references_act, sublayer_act, offset_key_act, number_act}
use Rattle.usda_drafts.specs.Metadata.{said_act, comment_act, key_act, variants_act, in_field, field_act, string_field_act, path_field_act, reference_field_act, edit_act, edited_act, prim_item_act, sublayers_act, head_item_act, root_act, in_order, ordered_by, order_act, root_order_act, order_name_act, property_rule, property_key_act, property_item_act}
use Rattle.usda_drafts.specs.Owners.{settled, with_returned}
use Rattle.usda_drafts.specs.Prims.{specifier_act, prim_type_act, open_act, with_statement_over}
use Rattle.usda_drafts.specs.Refusals.{refused, then_with}
use Rattle.usda_drafts.specs.Values.{after_token, token_act, first_act, with_value_begun, aimed, aimed_at_key, aimed_at_default, aimed_at_sample, time_of_number, time_act, with_said, with_property, completed}
use Rattle.usda_drafts.specs.declared.aim.Goal.{Goal}
use Rattle.usda_drafts.specs.declared.aim.Goal.TheVariants as goal
use Rattle.usda_drafts.specs.declared.draft.Draft.{Draft}
use Rattle.usda_drafts.specs.declared.draft.OpenList.{OpenList}
use Rattle.usda_drafts.specs.declared.draft.OpenList.TheVariants as open_list
use Rattle.usda_drafts.specs.declared.fault.Refused.{Refused}
use Rattle.usda_drafts.specs.declared.owner.Owner.{Owner}
use Rattle.usda_fields.specs.Fields as fields
use Rattle.usda_fields.specs.Owners as owner
use Rattle.usda_fields.specs.Variants.{selections_act}
use Rattle.usda_fields.specs.Variants as variants
use Rattle.usda_fields.specs.declared.field.ListField.{ListField}
use Rattle.usda_fields.specs.declared.field.ListField.TheVariants.{Paths, References, Texts}
use Rattle.usda_fields.specs.declared.keys.KeyRule.{KeyRule}
use Rattle.usda_fields.specs.declared.owner.OrderWord.{OrderWord}
use Rattle.usda_fields.specs.declared.owner.OrderWord.TheVariants.{NameChildren}
use Rattle.usda_fields.specs.declared.owner.OwnerDraft.{OwnerDraft}
use Rattle.usda_grammar.specs.declared.kinds.Keyword.TheVariants as word
use Rattle.usda_grammar.specs.declared.kinds.WordKind.{WordKind}
use Rattle.usda_grammar.specs.declared.kinds.WordKind.TheVariants as token
use Rattle.usda_grammar.specs.declared.symbols.Symbol.{Symbol}
use Rattle.usda_grammar.specs.declared.symbols.Symbol.TheVariants as symbol
use Rattle.usda_lexer.specs.Meanings.{number_of}
use Rattle.usda_lists.specs.Lists.{amend_last}
use Rattle.usda_lists.specs.Offsets.{offset_key}
use Rattle.usda_lists.specs.References.{sublayer_number}
use Rattle.usda_lists.specs.declared.edit.ListEdit.{ListEdit}
use Rattle.usda_lists.specs.declared.edit.ListEdit.TheVariants.{Explicit}
use Rattle.usda_statements.specs.Headings.{begun, with_type}
use Rattle.usda_statements.specs.OpenValues.{is_open, value_in, no_value, given}
use Rattle.usda_statements.specs.PropertyDrafts.{no_property, is_in_hand, property_of}
use Rattle.usda_statements.specs.PropertyDrafts.{default_act, samples_act, list_act, path_act, meta_comment_act, meta_act}
use Rattle.usda_statements.specs.declared.open_value.OpenValue.{OpenValue}
use Rattle.usda_statements.specs.declared.property.PropertyDraft.{PropertyDraft}
use Rattle.usda_values.specs.declared.shape.Shape.TheVariants.{Dictionary}
use Rattle.usda_words.specs.Words.{Word}
use Rattle.trees_read.specs.Drafts.{frame_of, frames, tree_of}
use Rattle.trees_read.specs.Trees.{Frame, Tree, IsSound}
use Rattle.trees_read.proofs.Fields as same
use Rattle.trees_read.proofs.Fields.{IfMade, if_made, IsSame, IsNamedSame}
use Rattle.trees_read.proofs.Growing.{properties_changed}
use Rattle.trees_read.proofs.Properties.{with_once}

-- the tree of the draft with an owner at this path, of this specifier
abbrev tree_with : Draft → List Element → Specifier → Tree
tree_with d path specifier = record { specs = d.specs; owners = record (frame_of d.owner) { path = path; specifier = specifier } ∷ frames d.outer }

-- as many owners are open, the tree stays sound, the prim that begins is no deeper, and no property comes to hand
pub record Keeps (d next : Draft) : Type 0 where
  pub outer : length next.outer ≡ length d.outer
  pub sound : IsSound (tree_of d) → IsSound (tree_of next)
  pub deep : next.opening.is_too_deep ≡ true → d.opening.is_too_deep ≡ true
  pub hand : is_in_hand next.property ≡ true → is_in_hand d.property ≡ true

-- the draft that an act makes, where it makes one, keeps them
abbrev pub Kept : {E : Type 0} → Draft → Result Draft E → Type 0
Kept d r = IfMade (Keeps d) r

-- ---- parts of a draft

abbrev IsNamed : List ℕ → Bool
IsNamed name = is_in_hand (record no_property { name = name })

length_frames : (outer : List Owner) → length (frames outer) ≡ length outer
length_frames [] = refl
length_frames (o ∷ outer) = omega (arith, length-append (frames outer) (frame_of o ∷ []), length_frames outer)

same_length : (d next : Draft) → tree_of next ≡ tree_of d → length next.outer ≡ length d.outer
same_length d next h =
    let owners : length (frame_of next.owner ∷ frames next.outer) ≡ length (frame_of d.owner ∷ frames d.outer) = ap (λ (t : Tree). length t.owners) h in
    omega (arith, length_frames next.outer, length_frames d.outer)

keeps_all : (d next : Draft) → tree_of next ≡ tree_of d → next.opening.is_too_deep ≡ d.opening.is_too_deep → next.property.name ≡ d.property.name → Keeps d next
keeps_all d next tree deep name = record { outer = same_length d next tree; sound = λ s. subst IsSound (sym tree) s; deep = λ h. sym deep ∙ h; hand = λ h. ap IsNamed (sym name) ∙ h }

keeps_said : (d next : Draft) (said : OwnerDraft) → IsSame d.owner.said said → tree_of next ≡ tree_of (with_said d said) → next.opening.is_too_deep ≡ d.opening.is_too_deep → next.property.name ≡ d.property.name → Keeps d next
keeps_said d next said h tree deep name =
    keeps_all d next (tree ∙ ap (λ p. tree_with d p said.spec.body.specifier) h.0 ∙ ap (λ s. tree_with d d.owner.said.path s) h.1) deep name

then_kept : {A : Type 0} (P : A → Type 0) (d : Draft) (at : ℕ) (r : Result A RefusalKind) (make : A → Draft) → IfMade P r → ((a : A) → P a → Keeps d (make a)) → Kept d (then_with at r make)
then_kept P d at (Ok a) make p h = h a p
then_kept P d at (Err k) make p h = tt

then_free : {A : Type 0} (d : Draft) (at : ℕ) (r : Result A RefusalKind) (make : A → Draft) → ((a : A) → Keeps d (make a)) → Kept d (then_with at r make)
then_free d at (Ok a) make h = h a
then_free d at (Err k) make h = tt

said_kept : (at : ℕ) (r : Result OwnerDraft RefusalKind) (d : Draft) → IfMade (IsSame d.owner.said) r → Kept d (said_act at r d)
said_kept at r d h = then_kept (IsSame d.owner.said) d at r (with_said d) h (λ said g. keeps_said d (with_said d said) said g refl refl refl)

property_kept : (at : ℕ) (r : Result PropertyDraft RefusalKind) (d : Draft) → IfMade (IsNamedSame d.property) r → Kept d (then_with at r (with_property d))
property_kept at r d h = then_kept (IsNamedSame d.property) d at r (with_property d) h (λ p g. keeps_all d (with_property d p) refl refl g)

pub keeps_then : (d e : Draft) (r : Result Draft Refused) → Keeps d e → Kept e r → Kept d r
keeps_then d e (Ok next) h g = record { outer = g.outer ∙ h.outer; sound = λ s. g.sound (h.sound s); deep = λ x. h.deep (g.deep x); hand = λ x. h.hand (g.hand x) }
keeps_then d e (Err r) h g = tt

itself : (d : Draft) → Keeps d d
itself d = keeps_all d d refl refl refl

-- ---- prims

specifier_kept : (t : List ℕ) (d : Draft) → Kept d (specifier_act t d)
unfolding specifier_act
specifier_kept t d = record { outer = refl; sound = λ s. s; deep = λ h. absurd cc; hand = λ h. h }

prim_type_kept : (t : List ℕ) (d : Draft) → Kept d (prim_type_act t d)
unfolding prim_type_act
prim_type_kept t d = keeps_all d _ refl refl refl

open_kept : (at : ℕ) (d : Draft) → Kept d (open_act at d)
unfolding open_act
open_kept at d = if_made (Keeps d) d.opening.is_too_deep (Err (refused TooDeep at)) (Ok d) tt (itself d)

settled_sound : (specs : SpecEntries) (rest : List Frame) (p : PropertyDraft) (o : Owner) → IsSound (record { specs = specs; owners = frame_of o ∷ rest }) → IsSound (record { specs = specs; owners = frame_of (settled p o) ∷ rest })
unfolding settled with_returned
settled_sound specs rest p o s = cases (is_in_hand p)
  where
    cases : (b : Bool) → IsSound (record { specs = specs; owners = frame_of (if b then with_returned p o else o) ∷ rest })
    cases true = properties_changed specs (frame_of o) rest (property_placed (property_of p) o.properties) s (with_once (property_of p) o.properties s.opened.frames.0.once)
    cases false = s

pub over_keeps : (d : Draft) → Keeps d (with_statement_over d)
unfolding with_statement_over
over_keeps d = record { outer = refl; sound = λ s. settled_sound d.specs (frames d.outer) d.property d.owner s; deep = λ h. h; hand = λ h. absurd cc }

-- ---- metadata

comment_kept : (w : Word) (d : Draft) → Kept d (comment_act w d)
unfolding comment_act
comment_kept w d = said_kept w.start (owner.comment_act w.text d.owner.said) d (same.comment_same w.text d.owner.said)

aimed_keeps : (g : Goal) (key : List ℕ) (rule : KeyRule) (d : Draft) → Keeps d (aimed_at_key g key rule d)
unfolding aimed_at_key
aimed_keeps g key rule d = keeps_all d _ refl refl refl

key_kept : (key : List ℕ) (at : ℕ) (d : Draft) → Kept d (key_act key at d)
unfolding key_act
key_kept key at d = then_free d at (owner.key_act key d.owner.said) (λ rule. aimed_at_key goal.OwnerKey key rule d) (λ rule. aimed_keeps goal.OwnerKey key rule d)

variants_kept : (w : Word) (d : Draft) → Kept d (variants_act w d)
unfolding variants_act
variants_kept w d =
    then_kept (IsSame d.owner.said) d w.start (variants.variants_act d.owner.said) (λ said. aimed goal.Variants Dictionary (with_said d said)) (same.variants_same d.owner.said)
    (λ said h. keeps_said d (aimed goal.Variants Dictionary (with_said d said)) said h refl refl refl)

field_kept : (field : ListField) (edit : ListEdit) (at : ℕ) (d : Draft) → Kept d (field_act field edit at d)
unfolding field_act
field_kept field edit at d = then_kept (IsSame d.owner.said) d at (fields.field_act field edit d.owner.said) (in_field field edit d) (same.field_same field edit d.owner.said) (λ said h. keeps_said d (in_field field edit d said) said h refl refl refl)

string_field_kept : (edit : ListEdit) (w : Word) (d : Draft) → Kept d (string_field_act edit w d)
unfolding string_field_act
string_field_kept edit w d = field_kept (Texts (fields.text_field w.text)) edit w.start d

path_field_kept : (edit : ListEdit) (w : Word) (d : Draft) → Kept d (path_field_act edit w d)
unfolding path_field_act
path_field_kept edit w d = field_kept (Paths (fields.path_field w.text)) edit w.start d

reference_field_kept : (edit : ListEdit) (w : Word) (d : Draft) → Kept d (reference_field_act edit w d)
unfolding reference_field_act
reference_field_kept edit w d = field_kept (References (fields.reference_field w.text)) edit w.start d

edit_kept : (w : Word) (d : Draft) → Kept d (edit_act w d)
unfolding edit_act
edit_kept w d = keeps_all d _ refl refl refl

edited_kept : (k : WordKind) (w : Word) (d : Draft) → Kept d (edited_act k w d)
unfolding edited_act
edited_kept token.Equals w d = key_kept d.word d.word_at d
edited_kept (token.Word word.StringField) w d = string_field_kept d.edit w d
edited_kept (token.Word word.PathField) w d = path_field_kept d.edit w d
edited_kept (token.Word word.ReferenceField) w d = reference_field_kept d.edit w d
edited_kept k w d = itself d

prim_item_kept : (k : WordKind) (w : Word) (d : Draft) → Kept d (prim_item_act k w d)
unfolding prim_item_act
prim_item_kept token.Quoted w d = comment_kept w d
prim_item_kept (token.Word word.Edit) w d = edit_kept w d
prim_item_kept (token.Word word.Reorder) w d = edit_kept w d
prim_item_kept (token.Word word.Variants) w d = variants_kept w d
prim_item_kept (token.Word word.StringField) w d = string_field_kept Explicit w d
prim_item_kept (token.Word word.PathField) w d = path_field_kept Explicit w d
prim_item_kept (token.Word word.ReferenceField) w d = reference_field_kept Explicit w d
prim_item_kept k w d = key_kept w.text w.start d

sublayers_kept : (at : ℕ) (d : Draft) → Kept d (sublayers_act at d)
unfolding sublayers_act
sublayers_kept at d = if_made (Keeps d) d.has_sublayers (Err (refused DuplicateSpec at)) (Ok (record d { has_sublayers = true; list = open_list.SubLayers })) tt (keeps_all d _ refl refl refl)

head_item_kept : (k : WordKind) (w : Word) (d : Draft) → Kept d (head_item_act k w d)
unfolding head_item_act
head_item_kept token.Quoted w d = comment_kept w d
head_item_kept (token.Word word.SubLayers) w d = sublayers_kept w.start d
head_item_kept k w d = key_kept w.text w.start d

root_kept : (k : WordKind) (w : Word) (d : Draft) → Kept d (root_act k w d)
unfolding root_act
root_kept (token.Word word.Specifier) w d = specifier_kept w.text d
root_kept k w d = itself d

ordered_kept : (o : OrderWord) (at : ℕ) (d : Draft) → Kept d (ordered_by o at d)
unfolding ordered_by
ordered_kept o at d = then_kept (IsSame d.owner.said) d at (owner.order_act o d.owner.said) (in_order o d) (same.order_same o d.owner.said) (λ said h. keeps_said d (in_order o d said) said h refl refl refl)

order_kept : (w : Word) (d : Draft) → Kept d (order_act w d)
unfolding order_act
order_kept w d = ordered_kept (owner.order_word w.text) w.start d

root_order_kept : (w : Word) (d : Draft) → Kept d (root_order_act w d)
unfolding root_order_act
root_order_kept w d = ordered_kept NameChildren w.start d

order_name_kept : (k : WordKind) (w : Word) (d : Draft) → Kept d (order_name_act k w d)
unfolding order_name_act
order_name_kept token.Quoted w d = said_kept w.start (owner.ordered_act d.order w.text d.owner.said) d (same.ordered_same d.order w.text d.owner.said)
order_name_kept k w d = itself d

property_key_kept : (w : Word) (d : Draft) → Kept d (property_key_act w d)
unfolding property_key_act
property_key_kept w d = then_free d w.start (property_rule w.text d.property) (λ rule. aimed_at_key goal.PropertyKey w.text rule d) (λ rule. aimed_keeps goal.PropertyKey w.text rule d)

property_item_kept : (k : WordKind) (w : Word) (d : Draft) → Kept d (property_item_act k w d)
unfolding property_item_act
property_item_kept token.Quoted w d = property_kept w.start (meta_comment_act w.text d.property) d (same.meta_comment_same w.text d.property)
property_item_kept k w d = property_key_kept w d

-- ---- lists

string_kept : (l : OpenList) (w : Word) (d : Draft) → Kept d (string_act l w d)
unfolding string_act
string_kept (open_list.Field (Texts field)) w d = said_kept w.start (fields.text_act field d.edit w.text d.owner.said) d (same.text_same field d.edit w.text d.owner.said)
string_kept l w d = itself d

list_path_kept : (l : OpenList) (w : Word) (d : Draft) → Kept d (list_path_act l w d)
unfolding list_path_act
list_path_kept (open_list.Field (Paths field)) w d = said_kept w.start (fields.path_act field d.edit w.text d.owner.said) d (same.path_same field d.edit w.text d.owner.said)
list_path_kept open_list.Property w d = property_kept w.start (path_act d.owner.said.base w.text d.property) d (same.target_same d.owner.said.base w.text d.property)
list_path_kept l w d = itself d

asset_kept : (l : OpenList) (w : Word) (d : Draft) → Kept d (asset_act l w d)
unfolding asset_act
asset_kept (open_list.Field (References field)) w d = keeps_said d _ (fields.asset_act field d.edit w.text d.owner.said) (same.asset_same field d.edit w.text d.owner.said) refl refl refl
asset_kept l w d = itself d

lone_path_kept : (l : OpenList) (w : Word) (d : Draft) → Kept d (lone_path_act l w d)
unfolding lone_path_act
lone_path_kept (open_list.Field (References field)) w d = said_kept w.start (fields.lone_path_act field d.edit w.text d.owner.said) d (same.lone_path_same field d.edit w.text d.owner.said)
lone_path_kept l w d = itself d

item_path_kept : (l : OpenList) (w : Word) (d : Draft) → Kept d (item_path_act l w d)
unfolding item_path_act
item_path_kept (open_list.Field (References field)) w d = said_kept w.start (fields.item_path_act field d.edit w.text d.owner.said) d (same.item_path_same field d.edit w.text d.owner.said)
item_path_kept l w d = itself d

end_kept : (l : OpenList) (d : Draft) → Kept d (end_act l d)
unfolding end_act
end_kept (open_list.Field field) d = keeps_said d _ (fields.close_field field d.edit d.owner.said) (same.closed_same field d.edit d.owner.said) refl refl refl
end_kept open_list.Property d = keeps_all d _ refl refl refl
end_kept l d = itself d

in_list_kept : (k : WordKind) (w : Word) (d : Draft) → Kept d (in_list_act k w d)
unfolding in_list_act
in_list_kept token.Quoted w d = string_kept d.list w d
in_list_kept token.Path w d = list_path_kept d.list w d
in_list_kept token.CloseBracket w d = end_kept d.list d
in_list_kept k w d = itself d

in_references_kept : (k : WordKind) (w : Word) (d : Draft) → Kept d (in_references_act k w d)
unfolding in_references_act
in_references_kept token.Asset w d = asset_kept d.list w d
in_references_kept token.Path w d = lone_path_kept d.list w d
in_references_kept token.CloseBracket w d = end_kept d.list d
in_references_kept k w d = itself d

sublayer_kept : (k : WordKind) (w : Word) (d : Draft) → Kept d (sublayer_act k w d)
unfolding sublayer_act
sublayer_kept token.Asset w d = keeps_all d _ refl refl refl
sublayer_kept k w d = itself d

offset_key_kept : (w : Word) (d : Draft) → Kept d (offset_key_act w d)
unfolding offset_key_act
offset_key_kept w d = then_free d w.start (offset_key w.text) (λ k. record d { offset_key = k }) (λ k. keeps_all d _ refl refl refl)

number_kept : (l : OpenList) (w : Word) (d : Draft) → Kept d (number_act l w d)
unfolding number_act
number_kept (open_list.Field (References field)) w d = said_kept w.start (fields.item_number_act field d.edit d.offset_key w.text d.owner.said) d (same.item_number_same field d.edit d.offset_key w.text d.owner.said)
number_kept open_list.SubLayers w d = then_free d w.start (amend_last (sublayer_number d.offset_key w.text) d.sublayers) (λ sublayers. record d { sublayers = sublayers }) (λ sublayers. keeps_all d _ refl refl refl)
number_kept l w d = itself d

-- ---- statements of a prim

type_kept : (w : Word) (d : Draft) → Kept d (type_act w d)
unfolding type_act
type_kept w d = then_free d w.start (with_type w.text d.heading) (λ h. headed h d) (λ h. keeps_all d _ refl refl refl)

after_variability_kept : (k : WordKind) (w : Word) (d : Draft) → Kept d (after_variability_act k w d)
unfolding after_variability_act
after_variability_kept (token.Word word.Rel) w d = keeps_all d _ refl refl refl
after_variability_kept k w d = type_kept w d

after_custom_kept : (k : WordKind) (w : Word) (d : Draft) → Kept d (after_custom_act k w d)
unfolding after_custom_act
after_custom_kept (token.Word word.Variability) w d = keeps_all d _ refl refl refl
after_custom_kept k w d = after_variability_kept k w d

after_edit_kept : (k : WordKind) (w : Word) (d : Draft) → Kept d (after_edit_act k w d)
unfolding after_edit_act
after_edit_kept (token.Word word.Custom) w d = keeps_all d _ refl refl refl
after_edit_kept k w d = after_custom_kept k w d

after_reorder_kept : (k : WordKind) (w : Word) (d : Draft) → Kept d (after_reorder_act k w d)
unfolding after_reorder_act
after_reorder_kept (token.Word word.OrderedField) w d = order_kept w d
after_reorder_kept k w d = after_edit_kept k w d

statement_kept : (k : WordKind) (w : Word) (d : Draft) → Kept d (statement_act k w d)
unfolding statement_act
statement_kept (token.Word word.Specifier) w d = specifier_kept w.text d
statement_kept (token.Word word.VariantSet) w d = itself d
statement_kept (token.Word word.Edit) w d = keeps_all d _ refl refl refl
statement_kept (token.Word word.Reorder) w d = keeps_all d _ refl refl refl
statement_kept k w d = keeps_then d (headed (begun Explicit) d) (after_edit_act k w (headed (begun Explicit) d)) (keeps_all d _ refl refl refl) (after_edit_kept k w (headed (begun Explicit) d))

body_kept : (w : Word) (d : Draft) → Kept d (body_act w d)
unfolding body_act
body_kept w d = keeps_then d (with_statement_over d) (statement_act w.kind w (with_statement_over d)) (over_keeps d) (statement_kept w.kind w (with_statement_over d))

brackets_kept : (d : Draft) → Kept d (brackets_act d)
unfolding brackets_act
brackets_kept d = keeps_all d _ refl refl refl

default_kept : (d : Draft) → Kept d (default_begun d)
unfolding default_begun aimed_at_default
default_kept d =
    then_kept (IsNamedSame d.property) d d.name_at (default_act d.property) (λ p. aimed_at_default (with_property d p)) (same.default_same d.property) (λ p h. keeps_all d (aimed_at_default (with_property d p)) refl refl h)

samples_kept : (d : Draft) → Kept d (samples_begun d)
unfolding samples_begun
samples_kept d = property_kept d.name_at (samples_act d.property) d (same.samples_same d.property)

list_kept : (d : Draft) → Kept d (list_begun d)
unfolding list_begun
list_kept d =
    then_kept (IsNamedSame d.property) d d.name_at (list_act d.property) (λ p. record (with_property d p) { list = open_list.Property }) (same.list_same d.property) (λ p h. keeps_all d (record (with_property d p) { list = open_list.Property }) refl refl h)

tail_kept : (k : WordKind) (d : Draft) → Kept d (tail_act k d)
unfolding tail_act
tail_kept token.Equals d = default_kept d
tail_kept k d = itself d

dot_kept : (k : WordKind) (at : ℕ) (d : Draft) → Kept d (dot_act k at d)
unfolding dot_act
dot_kept (token.Word word.TimeSamples) at d = samples_kept d
dot_kept (token.Word word.Connect) at d = list_kept d
dot_kept k at d = tt

time_kept : (t : List ℕ) (at : ℕ) (d : Draft) → Kept d (time_act t at d)
unfolding time_act
time_kept t at d = then_free d at (time_of_number (number_of t)) (λ time. aimed_at_sample time d) (λ time. keeps_all d _ refl refl refl)

sample_kept : (k : WordKind) (w : Word) (d : Draft) → Kept d (sample_act k w d)
unfolding sample_act
sample_kept token.Number w d = time_kept w.text w.start d
sample_kept k w d = itself d

-- ---- values

completed_kept : (g : Goal) (v : Value) (at : ℕ) (d : Draft) → Kept d (completed g v at d)
unfolding completed
completed_kept goal.Nothing v at d = itself d
completed_kept goal.OwnerKey v at d = said_kept at (owner.value_act d.aim.key v d.owner.said) d (same.value_same d.aim.key v d.owner.said)
completed_kept goal.Variants v at d = keeps_said d _ (selections_act v d.owner.said) (refl, refl) refl refl refl
completed_kept goal.PropertyKey v at d = property_kept at (meta_act d.aim.key v d.property) d (same.meta_same d.aim.key v d.property)
completed_kept goal.Default v at d = keeps_all d _ refl refl refl
completed_kept goal.Sample v at d = keeps_all d _ refl refl refl

after_token_kept : (r : Result OpenValue RefusalKind) (at : ℕ) (d : Draft) → Kept d (after_token r at d)
after_token_kept (Err k) at d = tt
after_token_kept (Ok v) at d =
    if_made (Keeps d) (is_open v) (Ok (record d { value = v })) (completed d.aim.goal (value_in v) at (record d { value = no_value })) (keeps_all d _ refl refl refl)
    (keeps_then d (record d { value = no_value }) (completed d.aim.goal (value_in v) at (record d { value = no_value })) (keeps_all d _ refl refl refl) (completed_kept d.aim.goal (value_in v) at (record d { value = no_value })))

pub token_kept : (w : Word) (d : Draft) → Kept d (token_act w d)
unfolding token_act
token_kept w d = after_token_kept (given d.owner.said.base w.token w.text d.value) w.start d

first_kept : (w : Word) (d : Draft) → Kept d (first_act w d)
unfolding first_act
first_kept w d = keeps_then d (with_value_begun d) (token_act w (with_value_begun d)) (keeps_all d _ refl refl refl) (token_kept w (with_value_begun d))

-- ---- all symbols but those that change the tree, or name a property

-- the words of these symbols name or end a prim, a variant set or a variant, or name a property
abbrev pub changes_tree : Symbol → Bool
changes_tree symbol.PrimName = true
changes_tree symbol.BodyEnd = true
changes_tree symbol.SetName = true
changes_tree symbol.VariantList = true
changes_tree symbol.PropertyName = true
changes_tree s = false

layers_kept : (s : Symbol) (w : Word) (d : Draft) → changes_tree s ≡ false → Kept d (layers_act s w d)
unfolding layers_act
layers_kept symbol.HeadItems w d h = head_item_kept w.kind w d
layers_kept symbol.SubLayersOrEnd w d h = sublayer_kept w.kind w d
layers_kept symbol.OffsetItems w d h = offset_key_kept w d
layers_kept symbol.OffsetNumber w d h = number_kept d.list w d
layers_kept symbol.RootStatements w d h = root_kept w.kind w d
layers_kept symbol.RootPrims w d h = root_order_kept w d
layers_kept symbol.OpenBrace w d h = open_kept w.start d
layers_kept symbol.BodyEnd w d h = absurd cc
layers_kept symbol.PrimName w d h = absurd cc
layers_kept symbol.SetName w d h = absurd cc
layers_kept s w d h = itself d

prims_kept : (s : Symbol) (w : Word) (d : Draft) → changes_tree s ≡ false → Kept d (prims_act s w d)
unfolding prims_act
prims_kept symbol.MaybeTypeName w d h = prim_type_kept w.text d
prims_kept symbol.MaybePrimMetadata w d h = open_kept w.start d
prims_kept symbol.PrimMetadata w d h = prim_item_kept w.kind w d
prims_kept symbol.EditedField w d h = edited_kept w.kind w d
prims_kept symbol.StringList w d h = in_list_kept w.kind w d
prims_kept symbol.StringsOrEnd w d h = in_list_kept w.kind w d
prims_kept symbol.MoreStrings w d h = in_list_kept w.kind w d
prims_kept symbol.PathList w d h = in_list_kept w.kind w d
prims_kept symbol.PathsOrEnd w d h = in_list_kept w.kind w d
prims_kept symbol.MorePaths w d h = in_list_kept w.kind w d
prims_kept symbol.ReferenceList w d h = in_references_kept w.kind w d
prims_kept symbol.ReferencesOrEnd w d h = in_references_kept w.kind w d
prims_kept symbol.MoreReferences w d h = in_references_kept w.kind w d
prims_kept symbol.MaybePath w d h = item_path_kept d.list w d
prims_kept symbol.VariantList w d h = absurd cc
prims_kept s w d h = layers_kept s w d h

pub bodies_kept : (s : Symbol) (w : Word) (d : Draft) → changes_tree s ≡ false → Kept d (bodies_act s w d)
unfolding bodies_act
bodies_kept symbol.PrimBody w d h = body_kept w d
bodies_kept symbol.AfterCustom w d h = after_custom_kept w.kind w d
bodies_kept symbol.AfterVariability w d h = after_variability_kept w.kind w d
bodies_kept symbol.AfterEdit w d h = after_edit_kept w.kind w d
bodies_kept symbol.AfterReorder w d h = after_reorder_kept w.kind w d
bodies_kept symbol.AfterEditedCustom w d h = after_custom_kept w.kind w d
bodies_kept symbol.AfterEditedVariability w d h = after_variability_kept w.kind w d
bodies_kept symbol.MaybeBrackets w d h = brackets_kept d
bodies_kept symbol.PropertyName w d h = absurd cc
bodies_kept symbol.MaybeAttributeTail w d h = tail_kept w.kind d
bodies_kept symbol.AfterDot w d h = dot_kept w.kind w.start d
bodies_kept symbol.ConnectWord w d h = dot_kept w.kind w.start d
bodies_kept symbol.SamplesOrEnd w d h = sample_kept w.kind w d
bodies_kept symbol.MaybeTargets w d h = list_kept d
bodies_kept symbol.PropertyMetadata w d h = property_item_kept w.kind w d
bodies_kept symbol.Value w d h = first_kept w d
bodies_kept symbol.Dictionary w d h = first_kept w d
bodies_kept symbol.NamesOrEnd w d h = order_name_kept w.kind w d
bodies_kept s w d h = prims_kept s w d h
