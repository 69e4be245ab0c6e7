-- What statements of metadata leave of an owner, and what statements on a property leave of it.
use Rattle.std.proofs.Common.{◌≡◌, ℕ, Bool, true, false, List, Option, Some, None, Result, Ok, Err, refl}
use Rattle.std.specs.Prelude.{is_some, if◌then◌else◌}
use Rattle.list_ops.specs.declared.op.ListOp.{ListOp}
use Rattle.sdf_paths.specs.declared.element.Element.{Element}
use Rattle.sdf_values.specs.declared.refusal.RefusalKind.{RefusalKind}
use Rattle.sdf_values.specs.declared.refusal.RefusalKind.TheVariants.{DuplicateSpec}
use Rattle.sdf_values.specs.declared.value.Value.{Value}
use Rattle.spec_parts.specs.declared.items.RefItem.{RefItem}
use Rattle.usda_fields.specs.Fields.{with_paths, with_items, with_texts, paths_at, items_at, texts_at, given_at, with_given_at, open_field, field_act, push_path, path_act, text_act, asset_act, lone_path_act, amend_items, item_path_act, item_number_act, close_field}
use Rattle.usda_fields.specs.Keys as keys
use Rattle.usda_fields.specs.Names.{text_of}
use Rattle.usda_fields.specs.Owners.{with_meta, value_act, comment_act, order_act, push_ordered, ordered_act}
use Rattle.usda_fields.specs.Variants.{variants_act}
use Rattle.usda_fields.specs.declared.field.ListField.{ListField}
use Rattle.usda_fields.specs.declared.field.ListField.TheVariants as list
use Rattle.usda_fields.specs.declared.field.PathField.{PathField}
use Rattle.usda_fields.specs.declared.field.PathField.TheVariants.{Inherits, Specializes}
use Rattle.usda_fields.specs.declared.field.ReferenceField.{ReferenceField}
use Rattle.usda_fields.specs.declared.field.ReferenceField.TheVariants.{References, Payload}
use Rattle.usda_fields.specs.declared.field.TextField.{TextField}
use Rattle.usda_fields.specs.declared.field.TextField.TheVariants.{VariantSets, ApiSchemas, ClipSets}
use Rattle.usda_fields.specs.declared.owner.OrderWord.{OrderWord}
use Rattle.usda_fields.specs.declared.owner.OrderWord.TheVariants.{NameChildren, PropertyNames}
use Rattle.usda_fields.specs.declared.owner.OwnerDraft.{OwnerDraft}
use Rattle.usda_lexer.specs.Meanings.{path_text}
use Rattle.usda_lists.specs.Acts.{and_then}
use Rattle.usda_lists.specs.Edits.{give}
use Rattle.usda_lists.specs.Lists.{open_list, push_item, close_list, amend_last, amend_list}
use Rattle.usda_lists.specs.Paths.{path_from, target_from}
use Rattle.usda_lists.specs.References.{asset_item, path_item, with_path, with_number_of, same_text, same_path, same_item}
use Rattle.usda_lists.specs.declared.edit.ListEdit.{ListEdit}
use Rattle.usda_lists.specs.declared.offset.OffsetKey.{OffsetKey}
use Rattle.usda_statements.specs.PropertyDrafts as property
use Rattle.usda_statements.specs.declared.property.PropertyDraft.{PropertyDraft}

-- what holds of what is made, where something is
abbrev pub IfMade : {A E : Type 0} → (A → Type 0) → Result A E → Type 0
IfMade P (Ok a) = P a
IfMade P (Err e) = Unit {0}

pub and_made : {A B : Type 0} (P : B → Type 0) (r : Result A RefusalKind) (more : A → Result B RefusalKind) → ((a : A) → IfMade P (more a)) → IfMade P (and_then r more)
and_made P (Ok a) more h = h a
and_made P (Err k) more h = tt

pub if_made : {A E : Type 0} (P : A → Type 0) (b : Bool) (x y : Result A E) → IfMade P x → IfMade P y → IfMade P (if b then x else y)
if_made P true x y p q = p
if_made P false x y p q = q

-- ---- owners

-- the owner is at the same path, and of the same specifier
abbrev pub IsSame : OwnerDraft → OwnerDraft → Type 0
IsSame d next = (next.path ≡ d.path) × (next.spec.body.specifier ≡ d.spec.body.specifier)

paths_same : (field : PathField) (op : ListOp (List Element)) (d : OwnerDraft) → IsSame d (with_paths field op d)
paths_same Inherits op d = (refl, refl)
paths_same Specializes op d = (refl, refl)

items_same : (field : ReferenceField) (op : ListOp RefItem) (d : OwnerDraft) → IsSame d (with_items field op d)
items_same References op d = (refl, refl)
items_same Payload op d = (refl, refl)

texts_same : (field : TextField) (op : ListOp (List ℕ)) (d : OwnerDraft) → IsSame d (with_texts field op d)
texts_same VariantSets op d = (refl, refl)
texts_same ApiSchemas op d = (refl, refl)
texts_same ClipSets op d = (refl, refl)

pub comment_same : (token : List ℕ) (d : OwnerDraft) → IfMade (IsSame d) (comment_act token d)
comment_same token d = and_made (IsSame d) (keys.comment_act token d.spec.body.meta) (λ meta. Ok (with_meta meta d)) (λ meta. (refl, refl))

pub value_same : (key : List ℕ) (v : Value) (d : OwnerDraft) → IfMade (IsSame d) (value_act key v d)
value_same key v d = and_made (IsSame d) (keys.value_act key v d.spec.body.meta) (λ meta. Ok (with_meta meta d)) (λ meta. (refl, refl))

pub order_same : (word : OrderWord) (d : OwnerDraft) → IfMade (IsSame d) (order_act word d)
order_same NameChildren d = if_made (IsSame d) d.given.child_order (Err DuplicateSpec) (Ok (record d { given = record d.given { child_order = true } })) tt (refl, refl)
order_same PropertyNames d = if_made (IsSame d) d.given.property_order (Err DuplicateSpec) (Ok (record d { given = record d.given { property_order = true } })) tt (refl, refl)

pushed_same : (word : OrderWord) (name : List ℕ) (d : OwnerDraft) → IsSame d (push_ordered word name d)
pushed_same NameChildren name d = (refl, refl)
pushed_same PropertyNames name d = (refl, refl)

pub ordered_same : (word : OrderWord) (token : List ℕ) (d : OwnerDraft) → IfMade (IsSame d) (ordered_act word token d)
ordered_same word token d = and_made (IsSame d) (text_of token) (λ name. Ok (push_ordered word name d)) (λ name. pushed_same word name d)

pub variants_same : (d : OwnerDraft) → IfMade (IsSame d) (variants_act d)
variants_same d = if_made (IsSame d) d.given.variants (Err DuplicateSpec) (Ok (record d { given = record d.given { variants = true } })) tt (refl, refl)

open_same : (field : ListField) (edit : ListEdit) (d : OwnerDraft) → IsSame d (open_field field edit d)
open_same (list.Paths field) edit d = paths_same field (open_list edit (paths_at field d)) d
open_same (list.References field) edit d = items_same field (open_list edit (items_at field d)) d
open_same (list.Texts field) edit d = texts_same field (open_list edit (texts_at field d)) d

pub field_same : (field : ListField) (edit : ListEdit) (d : OwnerDraft) → IfMade (IsSame d) (field_act field edit d)
field_same field edit d =
    and_made (IsSame d) (give edit (given_at field d.given)) (λ g. Ok (open_field field edit (record d { given = with_given_at field g d.given })))
    (λ g. let s = open_same field edit (record d { given = with_given_at field g d.given }) in (s.0, s.1))

pub path_same : (field : PathField) (edit : ListEdit) (token : List ℕ) (d : OwnerDraft) → IfMade (IsSame d) (path_act field edit token d)
path_same field edit token d = by (path_from d.base (path_text token))
  where
    by : (o : Option (List Element)) → IfMade (IsSame d) (push_path field edit o d)
    by None = tt
    by (Some path) = paths_same field (push_item edit path (paths_at field d)) d

pub text_same : (field : TextField) (edit : ListEdit) (token : List ℕ) (d : OwnerDraft) → IfMade (IsSame d) (text_act field edit token d)
text_same field edit token d = and_made (IsSame d) (text_of token) (λ text. Ok (with_texts field (push_item edit text (texts_at field d)) d)) (λ text. texts_same field (push_item edit text (texts_at field d)) d)

pub asset_same : (field : ReferenceField) (edit : ListEdit) (token : List ℕ) (d : OwnerDraft) → IsSame d (asset_act field edit token d)
asset_same field edit token d = items_same field (push_item edit (asset_item token) (items_at field d)) d

pub lone_path_same : (field : ReferenceField) (edit : ListEdit) (token : List ℕ) (d : OwnerDraft) → IfMade (IsSame d) (lone_path_act field edit token d)
lone_path_same field edit token d = and_made (IsSame d) (path_item d.base token) (λ item. Ok (with_items field (push_item edit item (items_at field d)) d)) (λ item. items_same field (push_item edit item (items_at field d)) d)

amended_same : (field : ReferenceField) (edit : ListEdit) (change : RefItem → Result RefItem RefusalKind) (d : OwnerDraft) → IfMade (IsSame d) (amend_items field edit change d)
amended_same field edit change d = and_made (IsSame d) (amend_list edit (amend_last change) (items_at field d)) (λ op. Ok (with_items field op d)) (λ op. items_same field op d)

pub item_path_same : (field : ReferenceField) (edit : ListEdit) (token : List ℕ) (d : OwnerDraft) → IfMade (IsSame d) (item_path_act field edit token d)
item_path_same field edit token d = amended_same field edit (with_path d.base token) d

pub item_number_same : (field : ReferenceField) (edit : ListEdit) (key : OffsetKey) (token : List ℕ) (d : OwnerDraft) → IfMade (IsSame d) (item_number_act field edit key token d)
item_number_same field edit key token d = amended_same field edit (with_number_of key token) d

pub closed_same : (field : ListField) (edit : ListEdit) (d : OwnerDraft) → IsSame d (close_field field edit d)
closed_same (list.Paths field) edit d = paths_same field (close_list same_path edit (paths_at field d)) d
closed_same (list.References field) edit d = items_same field (close_list same_item edit (items_at field d)) d
closed_same (list.Texts field) edit d = texts_same field (close_list same_text edit (texts_at field d)) d

-- ---- properties

-- the property has the same name
abbrev pub IsNamedSame : PropertyDraft → PropertyDraft → Type 0
IsNamedSame p next = next.name ≡ p.name

pub default_same : (p : PropertyDraft) → IfMade (IsNamedSame p) (property.default_act p)
default_same p = if_made (IsNamedSame p) (is_some p.default) (Err DuplicateSpec) (Ok p) tt refl

pub samples_same : (p : PropertyDraft) → IfMade (IsNamedSame p) (property.samples_act p)
samples_same p = if_made (IsNamedSame p) p.marks.sampled (Err DuplicateSpec) (Ok (record p { marks = record p.marks { sampled = true } })) tt refl

pub list_same : (p : PropertyDraft) → IfMade (IsNamedSame p) (property.list_act p)
list_same p = and_made (IsNamedSame p) (give p.edit p.marks.lists) (λ lists. Ok (record p { paths = open_list p.edit p.paths; marks = record p.marks { lists = lists } })) (λ lists. refl)

pub target_same : (base : List Element) (token : List ℕ) (p : PropertyDraft) → IfMade (IsNamedSame p) (property.path_act base token p)
target_same base token p = by (target_from base (path_text token))
  where
    by : (o : Option (List Element)) → IfMade (IsNamedSame p) (property.with_path o p)
    by None = tt
    by (Some path) = refl

pub meta_comment_same : (token : List ℕ) (p : PropertyDraft) → IfMade (IsNamedSame p) (property.meta_comment_act token p)
meta_comment_same token p = and_made (IsNamedSame p) (keys.comment_act token p.meta) (λ meta. Ok (property.with_meta meta p)) (λ meta. refl)

pub meta_same : (key : List ℕ) (v : Value) (p : PropertyDraft) → IfMade (IsNamedSame p) (property.meta_act key v p)
meta_same key v p = and_made (IsNamedSame p) (keys.value_act key v p.meta) (λ meta. Ok (property.with_meta meta p)) (λ meta. refl)
