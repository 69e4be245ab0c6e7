-- The path of each owner is one, whatever word is taken.
use Rattle.std.proofs.Common.{◌≡◌, ◌∙◌, ℕ, Bool, true, false, List, [], ◌∷◌, ◌++◌, Option, Some, None, Result, Ok, Err, sym, refl, subst, arith}
use Rattle.std.specs.Prelude.{if◌then◌else◌}
use Rattle.plain_data.specs.Ends.{last, front}
use Rattle.list_ops.specs.declared.op.ListOp.{ListOp}
use Rattle.sdf_paths.specs.Paths.{IsPath}
use Rattle.sdf_paths.specs.declared.element.Element.{Element}
use Rattle.sdf_paths.proofs.Shapes.{plain_path}
use Rattle.sdf_values.specs.declared.refusal.RefusalKind.{RefusalKind}
use Rattle.sdf_values.specs.declared.refusal.RefusalKind.TheVariants.{DuplicateSpec, TooDeep, NumberTooLong}
use Rattle.sdf_values.specs.declared.value.Value.{Value}
use Rattle.usda_drafts.specs.Acts.{layers_act, prims_act, bodies_act, act}
use Rattle.usda_drafts.specs.Drafts.{blank}
use Rattle.usda_drafts.specs.Bodies.{headed, type_act, after_variability_act, after_custom_act, after_edit_act, after_reorder_act, statement_act, body_act, brackets_act, with_name, name_act, default_begun, samples_begun, list_begun, tail_act, dot_act, sample_act}
use Rattle.usda_drafts.specs.Closed.{is_closed}
use Rattle.usda_drafts.specs.Lists.{string_act, list_path_act, asset_act, lone_path_act, item_path_act, end_act, in_list_act, in_references_act, sublayer_act, offset_key_act, number_act}
use Rattle.usda_drafts.specs.Metadata.{said_act, comment_act, key_act, variants_act, in_field, field_act, string_field_act, path_field_act, reference_field_act, edit_act, edited_act, prim_item_act, sublayers_act, head_item_act, root_act, in_order, ordered_by, order_act, root_order_act, order_name_act, property_rule, property_key_act, property_item_act}
use Rattle.usda_drafts.specs.Owners.{has_set, with_set, property_for, owner_of, with_child, and_variant, with_variant, with_place, with_returned, settled}
use Rattle.usda_drafts.specs.Places.{prim_place, variant_place}
use Rattle.usda_drafts.specs.Prims.{specifier_act, prim_type_act, entered, prim_at, with_prim, entered_prim, named_prim, prim_name_act, open_act, begun_set, set_name_act, with_variant_at, entered_variant, named_variant, variant_name_act, with_statement_over, left, left_for, body_end_act}
use Rattle.usda_drafts.specs.Refusals.{refused, placed, then_with}
use Rattle.usda_drafts.specs.Values.{after_token, token_act, first_act, with_value_begun, aimed, aimed_at_key, aimed_at_default, aimed_at_sample, time_of_number, time_act, with_said, with_property, completed}
use Rattle.usda_drafts.specs.declared.aim.Goal.{Goal}
use Rattle.usda_drafts.specs.declared.aim.Goal.TheVariants as goal
use Rattle.usda_drafts.specs.declared.draft.Draft.{Draft}
use Rattle.usda_drafts.specs.declared.draft.OpenList.{OpenList}
use Rattle.usda_drafts.specs.declared.draft.OpenList.TheVariants as open_list
use Rattle.usda_drafts.specs.declared.owner.Owner.{Owner}
use Rattle.usda_fields.specs.Fields as fields
use Rattle.usda_fields.specs.Keys as keys
use Rattle.usda_fields.specs.Names.{text_of, identifier_of, variant_of}
use Rattle.usda_fields.specs.Owners as owner
use Rattle.usda_fields.specs.Variants as variants
use Rattle.usda_fields.specs.declared.field.PathField.{PathField}
use Rattle.usda_fields.specs.declared.field.PathField.TheVariants.{Inherits, Specializes}
use Rattle.usda_fields.specs.declared.field.ReferenceField.{ReferenceField}
use Rattle.usda_fields.specs.declared.field.ReferenceField.TheVariants as reference
use Rattle.usda_fields.specs.declared.field.TextField.{TextField}
use Rattle.usda_fields.specs.declared.field.TextField.TheVariants.{VariantSets, ApiSchemas, ClipSets}
use Rattle.usda_fields.specs.declared.field.ListField.{ListField}
use Rattle.usda_fields.specs.declared.field.ListField.TheVariants.{Paths, References, Texts}
use Rattle.usda_fields.specs.declared.owner.OrderWord.{OrderWord}
use Rattle.usda_fields.specs.declared.owner.OwnerDraft.{OwnerDraft}
use Rattle.usda_fields.specs.declared.keys.KeyRule.{KeyRule}
use Rattle.usda_grammar.specs.declared.kinds.WordKind.{WordKind}
use Rattle.usda_grammar.specs.declared.kinds.WordKind.TheVariants as token
use Rattle.usda_grammar.specs.declared.kinds.Keyword.TheVariants as word
use Rattle.usda_grammar.specs.declared.symbols.Symbol.{Symbol}
use Rattle.usda_grammar.specs.declared.symbols.Symbol.TheVariants as symbol
use Rattle.usda_lists.specs.Acts.{and_then}
use Rattle.usda_lists.specs.declared.edit.ListEdit.{ListEdit}
use Rattle.usda_lists.specs.declared.edit.ListEdit.TheVariants.{Explicit}
use Rattle.usda_lexer.specs.Meanings.{path_text, number_of}
use Rattle.usda_lists.specs.Edits.{give}
use Rattle.usda_lists.specs.Lists.{open_list as list_begun_in, push_item, close_list, amend_last, amend_list}
use Rattle.usda_lists.specs.Paths.{path_from}
use Rattle.usda_lists.specs.Offsets.{offset_key}
use Rattle.usda_lists.specs.References.{asset_item, path_item, with_path, with_number_of, same_text, same_path, same_item, sublayer_number}
use Rattle.usda_statements.specs.Headings.{begun, with_type}
use Rattle.spec_parts.specs.declared.items.RefItem.{RefItem}
use Rattle.usda_statements.specs.PropertyDrafts.{is_in_hand, default_act, samples_act, list_act, path_act, meta_comment_act, meta_act}
use Rattle.usda_fields.specs.declared.owner.OrderWord.TheVariants.{NameChildren, PropertyNames}
use Rattle.usda_values.specs.declared.shape.Shape.TheVariants.{Dictionary}
use Rattle.usda_statements.specs.OpenValues.{no_value, is_open, given, value_in}
use Rattle.usda_statements.specs.declared.open_value.OpenValue.{OpenValue}
use Rattle.usda_statements.specs.declared.property.PropertyDraft.{PropertyDraft}
use Rattle.usda_words.specs.Words.{Word}
use Rattle.text_syntax.specs.Open.{begins_value}
use Rattle.text_syntax.proofs.Tokens.{act_is}
use Rattle.path_returns.specs.Returns.{IsPathOrAbsent}
use Rattle.values_read.specs.Owners.{IsPlaced, AreAllPlaced, ArePlaced, OwnersHavePaths}
use Rattle.values_read.proofs.OwnerPaths.{prim_path_is, variant_path_is}

-- the owners of a draft that an act makes have paths
abbrev pub Placed : {E : Type 0} → Result Draft E → Type 0
Placed (Ok d) = ArePlaced d
Placed (Err e) = Unit {0}

then_placed : {A : Type 0} (at : ℕ) (r : Result A RefusalKind) (make : A → Draft) → ((a : A) → ArePlaced (make a)) → Placed (then_with at r make)
then_placed at (Ok a) make h = h a
then_placed at (Err k) make h = tt

at_placed : (at : ℕ) (r : Result Draft RefusalKind) → Placed r → Placed (placed at r)
at_placed at (Ok d) h = h
at_placed at (Err k) h = tt

and_placed : {A : Type 0} (r : Result A RefusalKind) (more : A → Result Draft RefusalKind) → ((a : A) → Placed (more a)) → Placed (and_then r more)
and_placed (Ok a) more h = h a
and_placed (Err k) more h = tt

if_placed : {E : Type 0} (b : Bool) (x y : Result Draft E) → Placed x → Placed y → Placed (if b then x else y)
if_placed true x y p q = p
if_placed false x y p q = q

-- ---- what an owner says does not move it

-- the owner stays at its path
abbrev Stay : OwnerDraft → OwnerDraft → Type 0
Stay s t = (t.path ≡ s.path) × (t.base ≡ s.base)

abbrev Stays : OwnerDraft → Result OwnerDraft RefusalKind → Type 0
Stays s (Ok t) = Stay s t
Stays s (Err k) = Unit {0}

and_stays : {A : Type 0} (s : OwnerDraft) (r : Result A RefusalKind) (more : A → Result OwnerDraft RefusalKind) → ((a : A) → Stays s (more a)) → Stays s (and_then r more)
and_stays s (Ok a) more h = h a
and_stays s (Err k) more h = tt

unless_stays : (s t : OwnerDraft) (b : Bool) (k : RefusalKind) → Stay s t → Stays s (if b then Err k else Ok t)
unless_stays s t true k h = tt
unless_stays s t false k h = h

moved : (d : Draft) (t : OwnerDraft) → ArePlaced d → t.path ≡ d.owner.said.path → t.base ≡ d.owner.said.base → ArePlaced (with_said d t)
moved d t is path base = (subst (λ x. IsPlaced x t.base) (sym path) (subst (λ x. IsPlaced d.owner.said.path x) (sym base) is.0), is.1)

said_placed : (at : ℕ) (r : Result OwnerDraft RefusalKind) (make : OwnerDraft → Draft) (d : Draft) → ((t : OwnerDraft) → ArePlaced (with_said d t) → ArePlaced (make t)) → ArePlaced d → Stays d.owner.said r → Placed (then_with at r make)
said_placed at (Ok t) make d h is stays = h t (moved d t is stays.0 stays.1)
said_placed at (Err k) make d h is stays = tt

said_keeps : (at : ℕ) (r : Result OwnerDraft RefusalKind) (d : Draft) → ArePlaced d → Stays d.owner.said r → Placed (said_act at r d)
said_keeps at r d is stays = said_placed at r (with_said d) d (λ t h. h) is stays

comment_stays : (token : List ℕ) (s : OwnerDraft) → Stays s (owner.comment_act token s)
comment_stays token s = and_stays s (keys.comment_act token s.spec.body.meta) (λ meta. Ok (owner.with_meta meta s)) (λ meta. (refl, refl))

value_stays : (key : List ℕ) (v : Value) (s : OwnerDraft) → Stays s (owner.value_act key v s)
value_stays key v s = and_stays s (keys.value_act key v s.spec.body.meta) (λ meta. Ok (owner.with_meta meta s)) (λ meta. (refl, refl))

variants_stay : (s : OwnerDraft) → Stays s (variants.variants_act s)
variants_stay s = unless_stays s (record s { given = record s.given { variants = true } }) s.given.variants DuplicateSpec (refl, refl)

order_stays : (o : OrderWord) (s : OwnerDraft) → Stays s (owner.order_act o s)
order_stays NameChildren s = unless_stays s (record s { given = record s.given { child_order = true } }) s.given.child_order DuplicateSpec (refl, refl)
order_stays PropertyNames s = unless_stays s (record s { given = record s.given { property_order = true } }) s.given.property_order DuplicateSpec (refl, refl)

push_stays : (o : OrderWord) (name : List ℕ) (s : OwnerDraft) → Stay s (owner.push_ordered o name s)
push_stays NameChildren name s = (refl, refl)
push_stays PropertyNames name s = (refl, refl)

ordered_stays : (o : OrderWord) (token : List ℕ) (s : OwnerDraft) → Stays s (owner.ordered_act o token s)
ordered_stays o token s = and_stays s (text_of token) (λ name. Ok (owner.push_ordered o name s)) (λ name. push_stays o name s)

paths_stay : (field : PathField) (op : ListOp (List Element)) (s : OwnerDraft) → Stay s (fields.with_paths field op s)
paths_stay Inherits op s = (refl, refl)
paths_stay Specializes op s = (refl, refl)

items_stay : (field : ReferenceField) (op : ListOp RefItem) (s : OwnerDraft) → Stay s (fields.with_items field op s)
items_stay reference.References op s = (refl, refl)
items_stay reference.Payload op s = (refl, refl)

texts_stay : (field : TextField) (op : ListOp (List ℕ)) (s : OwnerDraft) → Stay s (fields.with_texts field op s)
texts_stay VariantSets op s = (refl, refl)
texts_stay ApiSchemas op s = (refl, refl)
texts_stay ClipSets op s = (refl, refl)

open_stays : (field : ListField) (edit : ListEdit) (s t : OwnerDraft) → Stay s t → Stay s (fields.open_field field edit t)
open_stays (Paths field) edit s t h = (let p = paths_stay field (list_begun_in edit (fields.paths_at field t)) t in (p.0 ∙ h.0, p.1 ∙ h.1))
open_stays (References field) edit s t h = (let p = items_stay field (list_begun_in edit (fields.items_at field t)) t in (p.0 ∙ h.0, p.1 ∙ h.1))
open_stays (Texts field) edit s t h = (let p = texts_stay field (list_begun_in edit (fields.texts_at field t)) t in (p.0 ∙ h.0, p.1 ∙ h.1))

field_stays : (field : ListField) (edit : ListEdit) (s : OwnerDraft) → Stays s (fields.field_act field edit s)
field_stays field edit s =
    and_stays s (give edit (fields.given_at field s.given)) (λ g. Ok (fields.open_field field edit (record s { given = fields.with_given_at field g s.given })))
    (λ g. open_stays field edit s (record s { given = fields.with_given_at field g s.given }) (refl, refl))

text_stays : (field : TextField) (edit : ListEdit) (token : List ℕ) (s : OwnerDraft) → Stays s (fields.text_act field edit token s)
text_stays field edit token s =
    and_stays s (text_of token) (λ text. Ok (fields.with_texts field (push_item edit text (fields.texts_at field s)) s)) (λ text. texts_stay field (push_item edit text (fields.texts_at field s)) s)

path_stays : (field : PathField) (edit : ListEdit) (token : List ℕ) (s : OwnerDraft) → Stays s (fields.path_act field edit token s)
path_stays field edit token s = cases (path_from s.base (path_text token))
  where
    cases : (o : Option (List Element)) → Stays s (fields.push_path field edit o s)
    cases None = tt
    cases (Some path) = paths_stay field (push_item edit path (fields.paths_at field s)) s

lone_path_stays : (field : ReferenceField) (edit : ListEdit) (token : List ℕ) (s : OwnerDraft) → Stays s (fields.lone_path_act field edit token s)
lone_path_stays field edit token s =
    and_stays s (path_item s.base token) (λ item. Ok (fields.with_items field (push_item edit item (fields.items_at field s)) s)) (λ item. items_stay field (push_item edit item (fields.items_at field s)) s)

amended_stay : (field : ReferenceField) (edit : ListEdit) (change : RefItem → Result RefItem RefusalKind) (s : OwnerDraft) → Stays s (fields.amend_items field edit change s)
amended_stay field edit change s = and_stays s (amend_list edit (amend_last change) (fields.items_at field s)) (λ op. Ok (fields.with_items field op s)) (λ op. items_stay field op s)

close_stays : (field : ListField) (edit : ListEdit) (s : OwnerDraft) → Stay s (fields.close_field field edit s)
close_stays (Paths field) edit s = paths_stay field (close_list same_path edit (fields.paths_at field s)) s
close_stays (References field) edit s = items_stay field (close_list same_item edit (fields.items_at field s)) s
close_stays (Texts field) edit s = texts_stay field (close_list same_text edit (fields.texts_at field s)) s

-- ---- owners inside each other

all_more : (os : List Owner) (o : Owner) → AreAllPlaced os → IsPlaced o.said.path o.said.base → AreAllPlaced (os ++ o ∷ [])
all_more [] o all one = (one, tt)
all_more (x ∷ os) o all one = (all.0, all_more os o all.1 one)

all_front : (os : List Owner) → AreAllPlaced os → AreAllPlaced (front os)
all_front [] all = tt
all_front (x ∷ []) all = tt
all_front (x ∷ y ∷ os) all = (all.0, all_front (y ∷ os) all.1)

all_last : (os : List Owner) (o : Owner) → AreAllPlaced os → last os ≡ Some o → IsPlaced o.said.path o.said.base
all_last [] o all e = absurd cc
all_last (x ∷ []) o all e = (let same : x ≡ o = cc e in subst (λ (y : Owner). IsPlaced y.said.path y.said.base) same all.0)
all_last (x ∷ y ∷ os) o all e = all_last (y ∷ os) o all.1 e

-- ---- prims

specifier_keeps : (t : List ℕ) (d : Draft) → ArePlaced d → Placed (specifier_act t d)
unfolding specifier_act
specifier_keeps t d is = is

prim_type_keeps : (t : List ℕ) (d : Draft) → ArePlaced d → Placed (prim_type_act t d)
unfolding prim_type_act
prim_type_keeps t d is = is

with_prim_keeps : (t : List ℕ) (path : List Element) (d : Draft) → ArePlaced d → IsPath path → ArePlaced (with_prim t path d)
unfolding with_prim entered prim_at owner_of with_child
with_prim_keeps t path d is good = (record { formed = good; simple = refl }, all_more d.outer (record d.owner { children = d.owner.children ++ t ∷ [] }) is.1 is.0)

entered_prim_keeps : (t : List ℕ) (path : Option (List Element)) (d : Draft) → ArePlaced d → IsPathOrAbsent path → Placed (entered_prim t path d)
unfolding entered_prim
entered_prim_keeps t None d is good = is
entered_prim_keeps t (Some path) d is good = if_placed (is_closed path d.specs) (Err DuplicateSpec) (Ok (with_prim t path d)) tt (with_prim_keeps t path d is good)

named_prim_keeps : (t : List ℕ) (d : Draft) → ArePlaced d → Placed (named_prim t d)
unfolding named_prim
named_prim_keeps t d is = cases (prim_place d.owner.said.path t) refl
  where
    cases : (r : Result (Option (List Element)) RefusalKind) → prim_place d.owner.said.path t ≡ r → Placed (and_then r (λ path. entered_prim t path d))
    cases (Err k) e = tt
    cases (Ok path) e = entered_prim_keeps t path d is (prim_path_is d.owner.said.path t path is.0.formed e)

prim_name_keeps : (t : List ℕ) (d : Draft) → ArePlaced d → Placed (prim_name_act t d)
unfolding prim_name_act
prim_name_keeps t d is = and_placed (identifier_of t) (λ name. named_prim name d) (λ name. named_prim_keeps name d is)

open_keeps : (at : ℕ) (d : Draft) → ArePlaced d → Placed (open_act at d)
unfolding open_act
open_keeps at d is = if_placed d.opening.is_too_deep (Err (refused TooDeep at)) (Ok d) tt is

begun_set_keeps : (t : List ℕ) (d : Draft) → ArePlaced d → Placed (begun_set t d)
unfolding begun_set with_set
begun_set_keeps t d is = if_placed (has_set t d.owner) (Err DuplicateSpec) (Ok (record d { owner = with_set t d.owner })) tt is

set_name_keeps : (t : List ℕ) (d : Draft) → ArePlaced d → Placed (set_name_act t d)
unfolding set_name_act
set_name_keeps t d is = and_placed (identifier_of t) (λ name. begun_set name d) (λ name. begun_set_keeps name d is)

with_variant_keeps : (t : List ℕ) (path : List Element) (d : Draft) → ArePlaced d → IsPath path → ArePlaced (with_variant_at t path d)
unfolding with_variant_at entered owner_of with_variant
with_variant_keeps t path d is good = (record { formed = good; simple = refl }, all_more d.outer (record d.owner { sets = and_variant t (last d.owner.sets) d.owner.sets }) is.1 is.0)

entered_variant_keeps : (t : List ℕ) (path : List Element) (d : Draft) → ArePlaced d → IsPath path → Placed (entered_variant t path d)
unfolding entered_variant
entered_variant_keeps t path d is good = if_placed (is_closed path d.specs) (Err DuplicateSpec) (Ok (with_variant_at t path d)) tt (with_variant_keeps t path d is good)

named_variant_keeps : (t : List ℕ) (d : Draft) → ArePlaced d → Placed (named_variant t d)
unfolding named_variant
named_variant_keeps t d is = cases (variant_place d.owner.said.path d.owner.set t) refl
  where
    cases : (r : Result (List Element) RefusalKind) → variant_place d.owner.said.path d.owner.set t ≡ r → Placed (and_then r (λ path. entered_variant t path d))
    cases (Err k) e = tt
    cases (Ok path) e = entered_variant_keeps t path d is (variant_path_is d.owner.said.path d.owner.set t path is.0.formed e)

variant_name_keeps : (t : List ℕ) (d : Draft) → ArePlaced d → Placed (variant_name_act t d)
unfolding variant_name_act
variant_name_keeps t d is = and_placed (variant_of t) (λ name. named_variant name d) (λ name. named_variant_keeps name d is)

-- the statement in hand is over
settled_keeps : (p : PropertyDraft) (o : Owner) → IsPlaced o.said.path o.said.base → IsPlaced (settled p o).said.path (settled p o).said.base
unfolding settled with_returned
settled_keeps p o is = cases (is_in_hand p)
  where
    cases : (b : Bool) → IsPlaced (if b then with_returned p o else o).said.path (if b then with_returned p o else o).said.base
    cases true = is
    cases false = is

over_keeps : (d : Draft) → ArePlaced d → ArePlaced (with_statement_over d)
unfolding with_statement_over
over_keeps d is = (settled_keeps d.property d.owner is.0, is.1)

left_keeps : (d : Draft) → ArePlaced d → ArePlaced (left d)
unfolding left
left_keeps d is = cases (last d.outer) refl
  where
    cases : (o : Option Owner) → last d.outer ≡ o → ArePlaced (left_for o d)
    cases None e = (is.0, all_front d.outer is.1)
    cases (Some o) e = (all_last d.outer o is.1 e, all_front d.outer is.1)

body_end_keeps : (d : Draft) → ArePlaced d → Placed (body_end_act d)
unfolding body_end_act
body_end_keeps d is = left_keeps (with_statement_over d) (over_keeps d is)

-- ---- metadata

comment_keeps : (w : Word) (d : Draft) → ArePlaced d → Placed (comment_act w d)
unfolding comment_act
comment_keeps w d is = said_keeps w.start (owner.comment_act w.text d.owner.said) d is (comment_stays w.text d.owner.said)

aimed_keeps : (g : Goal) (key : List ℕ) (rule : KeyRule) (d : Draft) → ArePlaced d → ArePlaced (aimed_at_key g key rule d)
unfolding aimed_at_key
aimed_keeps g key rule d is = is

key_keeps : (key : List ℕ) (at : ℕ) (d : Draft) → ArePlaced d → Placed (key_act key at d)
unfolding key_act
key_keeps key at d is = then_placed at (owner.key_act key d.owner.said) (λ rule. aimed_at_key goal.OwnerKey key rule d) (λ rule. aimed_keeps goal.OwnerKey key rule d is)

variants_keeps : (w : Word) (d : Draft) → ArePlaced d → Placed (variants_act w d)
unfolding variants_act
variants_keeps w d is = said_placed w.start (variants.variants_act d.owner.said) (λ said. aimed goal.Variants Dictionary (with_said d said)) d (λ said h. h) is (variants_stay d.owner.said)

field_keeps : (field : ListField) (edit : ListEdit) (at : ℕ) (d : Draft) → ArePlaced d → Placed (field_act field edit at d)
unfolding field_act
field_keeps field edit at d is = said_placed at (fields.field_act field edit d.owner.said) (in_field field edit d) d (λ said h. h) is (field_stays field edit d.owner.said)

string_field_keeps : (edit : ListEdit) (w : Word) (d : Draft) → ArePlaced d → Placed (string_field_act edit w d)
unfolding string_field_act
string_field_keeps edit w d is = field_keeps (Texts (fields.text_field w.text)) edit w.start d is

path_field_keeps : (edit : ListEdit) (w : Word) (d : Draft) → ArePlaced d → Placed (path_field_act edit w d)
unfolding path_field_act
path_field_keeps edit w d is = field_keeps (Paths (fields.path_field w.text)) edit w.start d is

reference_field_keeps : (edit : ListEdit) (w : Word) (d : Draft) → ArePlaced d → Placed (reference_field_act edit w d)
unfolding reference_field_act
reference_field_keeps edit w d is = field_keeps (References (fields.reference_field w.text)) edit w.start d is

edit_keeps : (w : Word) (d : Draft) → ArePlaced d → Placed (edit_act w d)
unfolding edit_act
edit_keeps w d is = is

edited_keeps : (k : WordKind) (w : Word) (d : Draft) → ArePlaced d → Placed (edited_act k w d)
unfolding edited_act
edited_keeps token.Equals w d is = key_keeps d.word d.word_at d is
edited_keeps (token.Word word.StringField) w d is = string_field_keeps d.edit w d is
edited_keeps (token.Word word.PathField) w d is = path_field_keeps d.edit w d is
edited_keeps (token.Word word.ReferenceField) w d is = reference_field_keeps d.edit w d is
edited_keeps k w d is = is

prim_item_keeps : (k : WordKind) (w : Word) (d : Draft) → ArePlaced d → Placed (prim_item_act k w d)
unfolding prim_item_act
prim_item_keeps token.Quoted w d is = comment_keeps w d is
prim_item_keeps (token.Word word.Edit) w d is = edit_keeps w d is
prim_item_keeps (token.Word word.Reorder) w d is = edit_keeps w d is
prim_item_keeps (token.Word word.Variants) w d is = variants_keeps w d is
prim_item_keeps (token.Word word.StringField) w d is = string_field_keeps Explicit w d is
prim_item_keeps (token.Word word.PathField) w d is = path_field_keeps Explicit w d is
prim_item_keeps (token.Word word.ReferenceField) w d is = reference_field_keeps Explicit w d is
prim_item_keeps k w d is = key_keeps w.text w.start d is

sublayers_keeps : (at : ℕ) (d : Draft) → ArePlaced d → Placed (sublayers_act at d)
unfolding sublayers_act
sublayers_keeps at d is = if_placed d.has_sublayers (Err (refused DuplicateSpec at)) (Ok (record d { has_sublayers = true; list = open_list.SubLayers })) tt is

head_item_keeps : (k : WordKind) (w : Word) (d : Draft) → ArePlaced d → Placed (head_item_act k w d)
unfolding head_item_act
head_item_keeps token.Quoted w d is = comment_keeps w d is
head_item_keeps (token.Word word.SubLayers) w d is = sublayers_keeps w.start d is
head_item_keeps k w d is = key_keeps w.text w.start d is

root_keeps : (k : WordKind) (w : Word) (d : Draft) → ArePlaced d → Placed (root_act k w d)
unfolding root_act
root_keeps (token.Word word.Specifier) w d is = specifier_keeps w.text d is
root_keeps k w d is = is

ordered_keeps : (o : OrderWord) (at : ℕ) (d : Draft) → ArePlaced d → Placed (ordered_by o at d)
unfolding ordered_by
ordered_keeps o at d is = said_placed at (owner.order_act o d.owner.said) (in_order o d) d (λ said h. h) is (order_stays o d.owner.said)

order_keeps : (w : Word) (d : Draft) → ArePlaced d → Placed (order_act w d)
unfolding order_act
order_keeps w d is = ordered_keeps (owner.order_word w.text) w.start d is

root_order_keeps : (w : Word) (d : Draft) → ArePlaced d → Placed (root_order_act w d)
unfolding root_order_act
root_order_keeps w d is = ordered_keeps NameChildren w.start d is

order_name_keeps : (k : WordKind) (w : Word) (d : Draft) → ArePlaced d → Placed (order_name_act k w d)
unfolding order_name_act
order_name_keeps token.Quoted w d is = said_keeps w.start (owner.ordered_act d.order w.text d.owner.said) d is (ordered_stays d.order w.text d.owner.said)
order_name_keeps k w d is = is

property_key_keeps : (w : Word) (d : Draft) → ArePlaced d → Placed (property_key_act w d)
unfolding property_key_act
property_key_keeps w d is = then_placed w.start (property_rule w.text d.property) (λ rule. aimed_at_key goal.PropertyKey w.text rule d) (λ rule. aimed_keeps goal.PropertyKey w.text rule d is)

property_item_keeps : (k : WordKind) (w : Word) (d : Draft) → ArePlaced d → Placed (property_item_act k w d)
unfolding property_item_act
property_item_keeps token.Quoted w d is = then_placed w.start (meta_comment_act w.text d.property) (with_property d) (λ p. is)
property_item_keeps k w d is = property_key_keeps w d is

-- ---- lists

string_keeps : (l : OpenList) (w : Word) (d : Draft) → ArePlaced d → Placed (string_act l w d)
unfolding string_act
string_keeps (open_list.Field (Texts field)) w d is = said_keeps w.start (fields.text_act field d.edit w.text d.owner.said) d is (text_stays field d.edit w.text d.owner.said)
string_keeps l w d is = is

list_path_keeps : (l : OpenList) (w : Word) (d : Draft) → ArePlaced d → Placed (list_path_act l w d)
unfolding list_path_act
list_path_keeps (open_list.Field (Paths field)) w d is = said_keeps w.start (fields.path_act field d.edit w.text d.owner.said) d is (path_stays field d.edit w.text d.owner.said)
list_path_keeps open_list.Property w d is = then_placed w.start (path_act d.owner.said.base w.text d.property) (with_property d) (λ p. is)
list_path_keeps l w d is = is

asset_keeps : (l : OpenList) (w : Word) (d : Draft) → ArePlaced d → Placed (asset_act l w d)
unfolding asset_act
asset_keeps (open_list.Field (References field)) w d is = (let s = items_stay field (push_item d.edit (asset_item w.text) (fields.items_at field d.owner.said)) d.owner.said in moved d (fields.asset_act field d.edit w.text d.owner.said) is s.0 s.1)
asset_keeps l w d is = is

lone_path_keeps : (l : OpenList) (w : Word) (d : Draft) → ArePlaced d → Placed (lone_path_act l w d)
unfolding lone_path_act
lone_path_keeps (open_list.Field (References field)) w d is = said_keeps w.start (fields.lone_path_act field d.edit w.text d.owner.said) d is (lone_path_stays field d.edit w.text d.owner.said)
lone_path_keeps l w d is = is

item_path_keeps : (l : OpenList) (w : Word) (d : Draft) → ArePlaced d → Placed (item_path_act l w d)
unfolding item_path_act
item_path_keeps (open_list.Field (References field)) w d is = said_keeps w.start (fields.item_path_act field d.edit w.text d.owner.said) d is (amended_stay field d.edit (with_path d.owner.said.base w.text) d.owner.said)
item_path_keeps l w d is = is

end_keeps : (l : OpenList) (d : Draft) → ArePlaced d → Placed (end_act l d)
unfolding end_act
end_keeps (open_list.Field field) d is = (let s = close_stays field d.edit d.owner.said in moved d (fields.close_field field d.edit d.owner.said) is s.0 s.1)
end_keeps open_list.Property d is = is
end_keeps l d is = is

in_list_keeps : (k : WordKind) (w : Word) (d : Draft) → ArePlaced d → Placed (in_list_act k w d)
unfolding in_list_act
in_list_keeps token.Quoted w d is = string_keeps d.list w d is
in_list_keeps token.Path w d is = list_path_keeps d.list w d is
in_list_keeps token.CloseBracket w d is = end_keeps d.list d is
in_list_keeps k w d is = is

in_references_keeps : (k : WordKind) (w : Word) (d : Draft) → ArePlaced d → Placed (in_references_act k w d)
unfolding in_references_act
in_references_keeps token.Asset w d is = asset_keeps d.list w d is
in_references_keeps token.Path w d is = lone_path_keeps d.list w d is
in_references_keeps token.CloseBracket w d is = end_keeps d.list d is
in_references_keeps k w d is = is

sublayer_keeps : (k : WordKind) (w : Word) (d : Draft) → ArePlaced d → Placed (sublayer_act k w d)
unfolding sublayer_act
sublayer_keeps token.Asset w d is = is
sublayer_keeps k w d is = is

offset_key_keeps : (w : Word) (d : Draft) → ArePlaced d → Placed (offset_key_act w d)
unfolding offset_key_act
offset_key_keeps w d is = then_placed w.start (offset_key w.text) (λ k. record d { offset_key = k }) (λ k. is)

number_keeps : (l : OpenList) (w : Word) (d : Draft) → ArePlaced d → Placed (number_act l w d)
unfolding number_act
number_keeps (open_list.Field (References field)) w d is = said_keeps w.start (fields.item_number_act field d.edit d.offset_key w.text d.owner.said) d is (amended_stay field d.edit (with_number_of d.offset_key w.text) d.owner.said)
number_keeps open_list.SubLayers w d is = then_placed w.start (amend_last (sublayer_number d.offset_key w.text) d.sublayers) (λ sublayers. record d { sublayers = sublayers }) (λ sublayers. is)
number_keeps l w d is = is

-- ---- statements of a prim

type_keeps : (w : Word) (d : Draft) → ArePlaced d → Placed (type_act w d)
unfolding type_act
type_keeps w d is = then_placed w.start (with_type w.text d.heading) (λ h. headed h d) (λ h. is)

after_variability_keeps : (k : WordKind) (w : Word) (d : Draft) → ArePlaced d → Placed (after_variability_act k w d)
unfolding after_variability_act
after_variability_keeps (token.Word word.Rel) w d is = is
after_variability_keeps k w d is = type_keeps w d is

after_custom_keeps : (k : WordKind) (w : Word) (d : Draft) → ArePlaced d → Placed (after_custom_act k w d)
unfolding after_custom_act
after_custom_keeps (token.Word word.Variability) w d is = is
after_custom_keeps k w d is = after_variability_keeps k w d is

after_edit_keeps : (k : WordKind) (w : Word) (d : Draft) → ArePlaced d → Placed (after_edit_act k w d)
unfolding after_edit_act
after_edit_keeps (token.Word word.Custom) w d is = is
after_edit_keeps k w d is = after_custom_keeps k w d is

after_reorder_keeps : (k : WordKind) (w : Word) (d : Draft) → ArePlaced d → Placed (after_reorder_act k w d)
unfolding after_reorder_act
after_reorder_keeps (token.Word word.OrderedField) w d is = order_keeps w d is
after_reorder_keeps k w d is = after_edit_keeps k w d is

statement_keeps : (k : WordKind) (w : Word) (d : Draft) → ArePlaced d → Placed (statement_act k w d)
unfolding statement_act
statement_keeps (token.Word word.Specifier) w d is = specifier_keeps w.text d is
statement_keeps (token.Word word.VariantSet) w d is = is
statement_keeps (token.Word word.Edit) w d is = is
statement_keeps (token.Word word.Reorder) w d is = is
statement_keeps k w d is = after_edit_keeps k w (headed (begun Explicit) d) is

body_keeps : (w : Word) (d : Draft) → ArePlaced d → Placed (body_act w d)
unfolding body_act
body_keeps w d is = statement_keeps w.kind w (with_statement_over d) (over_keeps d is)

brackets_keeps : (d : Draft) → ArePlaced d → Placed (brackets_act d)
unfolding brackets_act
brackets_keeps d is = is

name_keeps : (w : Word) (d : Draft) → ArePlaced d → Placed (name_act w d)
unfolding name_act with_place
name_keeps w d is = then_placed w.start (property_for d.heading w.text d.owner) (with_name w.text w.start d) (λ p. is)

default_aimed_keeps : (d : Draft) → ArePlaced d → ArePlaced (aimed_at_default d)
unfolding aimed_at_default
default_aimed_keeps d is = is

default_keeps : (d : Draft) → ArePlaced d → Placed (default_begun d)
unfolding default_begun
default_keeps d is = then_placed d.name_at (default_act d.property) (λ p. aimed_at_default (with_property d p)) (λ p. default_aimed_keeps (with_property d p) is)

samples_keeps : (d : Draft) → ArePlaced d → Placed (samples_begun d)
unfolding samples_begun
samples_keeps d is = then_placed d.name_at (samples_act d.property) (with_property d) (λ p. is)

list_keeps : (d : Draft) → ArePlaced d → Placed (list_begun d)
unfolding list_begun
list_keeps d is = then_placed d.name_at (list_act d.property) (λ p. record (with_property d p) { list = open_list.Property }) (λ p. is)

tail_keeps : (k : WordKind) (d : Draft) → ArePlaced d → Placed (tail_act k d)
unfolding tail_act
tail_keeps token.Equals d is = default_keeps d is
tail_keeps k d is = is

dot_keeps : (k : WordKind) (at : ℕ) (d : Draft) → ArePlaced d → Placed (dot_act k at d)
unfolding dot_act
dot_keeps (token.Word word.TimeSamples) at d is = samples_keeps d is
dot_keeps (token.Word word.Connect) at d is = list_keeps d is
dot_keeps k at d is = tt

time_keeps : (t : List ℕ) (at : ℕ) (d : Draft) → ArePlaced d → Placed (time_act t at d)
unfolding time_act
time_keeps t at d is = then_placed at (time_of_number (number_of t)) (λ time. aimed_at_sample time d) (λ time. is)

sample_keeps : (k : WordKind) (w : Word) (d : Draft) → ArePlaced d → Placed (sample_act k w d)
unfolding sample_act
sample_keeps token.Number w d is = time_keeps w.text w.start d is
sample_keeps k w d is = is

-- ---- all symbols but those at which a value begins

layers_keeps : (s : Symbol) (w : Word) (d : Draft) → ArePlaced d → Placed (layers_act s w d)
unfolding layers_act
layers_keeps symbol.HeadItems w d is = head_item_keeps w.kind w d is
layers_keeps symbol.SubLayersOrEnd w d is = sublayer_keeps w.kind w d is
layers_keeps symbol.OffsetItems w d is = offset_key_keeps w d is
layers_keeps symbol.OffsetNumber w d is = number_keeps d.list w d is
layers_keeps symbol.RootStatements w d is = root_keeps w.kind w d is
layers_keeps symbol.RootPrims w d is = root_order_keeps w d is
layers_keeps symbol.OpenBrace w d is = open_keeps w.start d is
layers_keeps symbol.BodyEnd w d is = body_end_keeps d is
layers_keeps symbol.PrimName w d is = at_placed w.start (prim_name_act w.text d) (prim_name_keeps w.text d is)
layers_keeps symbol.SetName w d is = at_placed w.start (set_name_act w.text d) (set_name_keeps w.text d is)
layers_keeps s w d is = is

prims_keeps : (s : Symbol) (w : Word) (d : Draft) → ArePlaced d → Placed (prims_act s w d)
unfolding prims_act
prims_keeps symbol.MaybeTypeName w d is = prim_type_keeps w.text d is
prims_keeps symbol.MaybePrimMetadata w d is = open_keeps w.start d is
prims_keeps symbol.PrimMetadata w d is = prim_item_keeps w.kind w d is
prims_keeps symbol.EditedField w d is = edited_keeps w.kind w d is
prims_keeps symbol.StringList w d is = in_list_keeps w.kind w d is
prims_keeps symbol.StringsOrEnd w d is = in_list_keeps w.kind w d is
prims_keeps symbol.MoreStrings w d is = in_list_keeps w.kind w d is
prims_keeps symbol.PathList w d is = in_list_keeps w.kind w d is
prims_keeps symbol.PathsOrEnd w d is = in_list_keeps w.kind w d is
prims_keeps symbol.MorePaths w d is = in_list_keeps w.kind w d is
prims_keeps symbol.ReferenceList w d is = in_references_keeps w.kind w d is
prims_keeps symbol.ReferencesOrEnd w d is = in_references_keeps w.kind w d is
prims_keeps symbol.MoreReferences w d is = in_references_keeps w.kind w d is
prims_keeps symbol.MaybePath w d is = item_path_keeps d.list w d is
prims_keeps symbol.VariantList w d is = at_placed w.start (variant_name_act w.text d) (variant_name_keeps w.text d is)
prims_keeps s w d is = layers_keeps s w d is

pub bodies_keeps : (s : Symbol) (w : Word) (d : Draft) → begins_value s ≡ false → ArePlaced d → Placed (bodies_act s w d)
unfolding bodies_act
bodies_keeps symbol.PrimBody w d h is = body_keeps w d is
bodies_keeps symbol.AfterCustom w d h is = after_custom_keeps w.kind w d is
bodies_keeps symbol.AfterVariability w d h is = after_variability_keeps w.kind w d is
bodies_keeps symbol.AfterEdit w d h is = after_edit_keeps w.kind w d is
bodies_keeps symbol.AfterReorder w d h is = after_reorder_keeps w.kind w d is
bodies_keeps symbol.AfterEditedCustom w d h is = after_custom_keeps w.kind w d is
bodies_keeps symbol.AfterEditedVariability w d h is = after_variability_keeps w.kind w d is
bodies_keeps symbol.MaybeBrackets w d h is = brackets_keeps d is
bodies_keeps symbol.PropertyName w d h is = name_keeps w d is
bodies_keeps symbol.MaybeAttributeTail w d h is = tail_keeps w.kind d is
bodies_keeps symbol.AfterDot w d h is = dot_keeps w.kind w.start d is
bodies_keeps symbol.ConnectWord w d h is = dot_keeps w.kind w.start d is
bodies_keeps symbol.SamplesOrEnd w d h is = sample_keeps w.kind w d is
bodies_keeps symbol.MaybeTargets w d h is = list_keeps d is
bodies_keeps symbol.PropertyMetadata w d h is = property_item_keeps w.kind w d is
bodies_keeps symbol.Value w d h is = absurd cc
bodies_keeps symbol.Dictionary w d h is = absurd cc
bodies_keeps symbol.NamesOrEnd w d h is = order_name_keeps w.kind w d is
bodies_keeps s w d h is = prims_keeps s w d is

-- ---- a value that is complete

pub completed_keeps : (g : Goal) (v : Value) (at : ℕ) (d : Draft) → ArePlaced d → Placed (completed g v at d)
unfolding completed
completed_keeps goal.Nothing v at d is = is
completed_keeps goal.OwnerKey v at d is = said_keeps at (owner.value_act d.aim.key v d.owner.said) d is (value_stays d.aim.key v d.owner.said)
completed_keeps goal.Variants v at d is = is
completed_keeps goal.PropertyKey v at d is = then_placed at (meta_act d.aim.key v d.property) (with_property d) (λ p. is)
completed_keeps goal.Default v at d is = is
completed_keeps goal.Sample v at d is = is

-- ---- each word

token_keeps : (w : Word) (d : Draft) → ArePlaced d → Placed (token_act w d)
unfolding token_act
token_keeps w d is = cases (given d.owner.said.base w.token w.text d.value)
  where
    by_end : (v : OpenValue) (b : Bool) → Placed (if b then Ok (record d { value = v }) else completed d.aim.goal (value_in v) w.start (record d { value = no_value }))
    by_end v true = is
    by_end v false = completed_keeps d.aim.goal (value_in v) w.start (record d { value = no_value }) is

    cases : (r : Result OpenValue RefusalKind) → Placed (after_token r w.start d)
    cases (Err k) = tt
    cases (Ok v) = by_end v (is_open v)

first_keeps : (w : Word) (d : Draft) → ArePlaced d → Placed (first_act w d)
unfolding first_act
first_keeps w d is = token_keeps w (with_value_begun d) is

begun_keeps : (s : Symbol) (w : Word) (d : Draft) → begins_value s ≡ true → ArePlaced d → Placed (bodies_act s w d)
unfolding bodies_act
begun_keeps symbol.Value w d h is = first_keeps w d is
begun_keeps symbol.Dictionary w d h is = first_keeps w d is
begun_keeps _ w d h is = absurd cc

any_keeps : (s : Symbol) (w : Word) (d : Draft) → ArePlaced d → Placed (bodies_act s w d)
any_keeps s w d is = cases (begins_value s) refl
  where
    cases : (b : Bool) → begins_value s ≡ b → Placed (bodies_act s w d)
    cases true h = begun_keeps s w d h is
    cases false h = bodies_keeps s w d h is

act_keeps : (s : Symbol) (w : Word) (d : Draft) → ArePlaced d → Placed (act s w d)
act_keeps s w d is = subst Placed (sym (act_is s w d (is_open d.value) refl)) (if_placed w.too_long (Err (refused NumberTooLong w.start)) (if is_open d.value then token_act w d else bodies_act s w d) tt (if_placed (is_open d.value) (token_act w d) (bodies_act s w d) (token_keeps w d is) (any_keeps s w d is)))

kept : (s : Symbol) (w : Word) (d next : Draft) → ArePlaced d → act s w d ≡ Ok next → ArePlaced next
kept s w d next is h = subst Placed h (act_keeps s w d is)

-- `/`
root_path : IsPath []
root_path = record { well_formed = record { ordered = refl; named = refl; few = omega arith }; short = omega arith }

begins : ArePlaced blank
unfolding blank owner_of
begins = (record { formed = root_path; simple = refl }, tt)

pub owners_have_paths : OwnersHavePaths
owners_have_paths = record { begins = begins; kept = kept; base = λ d is. subst IsPath (sym is.0.simple) (plain_path d.owner.said.path is.0.formed) }
