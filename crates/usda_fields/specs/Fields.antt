-- The fields that are edited by lists, and their items.
use Rattle.std.specs.Prelude.{ℕ, ◌==◌, if◌then◌else◌, List, codes, Result, Ok, Err, Option, Some, None}
use Rattle.std.specs.Cmp.Lexicographic.{pointwise}
use Rattle.list_ops.specs.declared.op.ListOp.{ListOp}
use Rattle.sdf_paths.specs.declared.element.Element.{Element}
use Rattle.sdf_values.specs.declared.refusal.RefusalKind.{RefusalKind}
use Rattle.sdf_values.specs.declared.refusal.RefusalKind.TheVariants.{Syntax}
use Rattle.spec_parts.specs.declared.items.RefItem.{RefItem}
use Rattle.usda_lexer.specs.Meanings.{path_text}
use Rattle.usda_lists.specs.Acts.{and_then}
use Rattle.usda_lists.specs.Edits.{give}
use Rattle.usda_lists.specs.Lists.{open_list, push_item, close_list, amend_last, amend_list}
use Rattle.usda_lists.specs.Paths.{path_from}
use Rattle.usda_lists.specs.References.{asset_item, path_item, with_path, with_number_of, same_text, same_path, same_item}
use Rattle.usda_lists.specs.declared.edit.ListEdit.{ListEdit}
use Rattle.usda_lists.specs.declared.edit.GivenLists.{GivenLists}
use Rattle.usda_lists.specs.declared.offset.OffsetKey.{OffsetKey}
use Rattle.usda_fields.specs.Names.{text_of}
use Rattle.usda_fields.specs.Owners.{Acted}
use Rattle.usda_fields.specs.declared.field.PathField.{PathField}
use Rattle.usda_fields.specs.declared.field.PathField.TheVariants.{Inherits, Specializes}
use Rattle.usda_fields.specs.declared.field.ReferenceField.{ReferenceField}
use Rattle.usda_fields.specs.declared.field.ReferenceField.TheVariants.{References, Payload}
use Rattle.usda_fields.specs.declared.field.TextField.{TextField}
use Rattle.usda_fields.specs.declared.field.TextField.TheVariants.{VariantSets, ApiSchemas, ClipSets}
use Rattle.usda_fields.specs.declared.field.ListField.{ListField}
use Rattle.usda_fields.specs.declared.field.ListField.TheVariants as list
use Rattle.usda_fields.specs.declared.owner.OwnerMarks.{OwnerMarks}
use Rattle.usda_fields.specs.declared.owner.OwnerDraft.{OwnerDraft}

-- `inherits`, or else `specializes`
abbrev pub path_field : List ℕ → PathField
path_field word = if pointwise ◌==◌ word (codes "inherits") then Inherits else Specializes

-- `references`, or else `payload`
abbrev pub reference_field : List ℕ → ReferenceField
reference_field word = if pointwise ◌==◌ word (codes "references") then References else Payload

-- `variantSets`, `apiSchemas`, or else `clipSets`
abbrev pub text_field : List ℕ → TextField
text_field word = if pointwise ◌==◌ word (codes "variantSets") then VariantSets else if pointwise ◌==◌ word (codes "apiSchemas") then ApiSchemas else ClipSets

-- ---- the lists of a field

-- the list edits of `inherits` or of `specializes`
abbrev pub paths_at : PathField → OwnerDraft → ListOp (List Element)
paths_at Inherits d = d.spec.arcs.inherits
paths_at Specializes d = d.spec.arcs.specializes

-- with these list edits of `inherits` or of `specializes`
abbrev pub with_paths : PathField → ListOp (List Element) → OwnerDraft → OwnerDraft
with_paths Inherits op d = record d { spec = record d.spec { arcs = record d.spec.arcs { inherits = op } } }
with_paths Specializes op d = record d { spec = record d.spec { arcs = record d.spec.arcs { specializes = op } } }

-- the list edits of `references` or of `payload`
abbrev pub items_at : ReferenceField → OwnerDraft → ListOp RefItem
items_at References d = d.spec.arcs.references
items_at Payload d = d.spec.arcs.payloads

-- with these list edits of `references` or of `payload`
abbrev pub with_items : ReferenceField → ListOp RefItem → OwnerDraft → OwnerDraft
with_items References op d = record d { spec = record d.spec { arcs = record d.spec.arcs { references = op } } }
with_items Payload op d = record d { spec = record d.spec { arcs = record d.spec.arcs { payloads = op } } }

-- the list edits of `variantSets`, `apiSchemas` or `clipSets`
abbrev pub texts_at : TextField → OwnerDraft → ListOp (List ℕ)
texts_at VariantSets d = d.spec.arcs.variant_sets
texts_at ApiSchemas d = d.spec.body.api_schemas
texts_at ClipSets d = d.spec.body.clip_sets

-- with these list edits of `variantSets`, `apiSchemas` or `clipSets`
abbrev pub with_texts : TextField → ListOp (List ℕ) → OwnerDraft → OwnerDraft
with_texts VariantSets op d = record d { spec = record d.spec { arcs = record d.spec.arcs { variant_sets = op } } }
with_texts ApiSchemas op d = record d { spec = record d.spec { body = record d.spec.body { api_schemas = op } } }
with_texts ClipSets op d = record d { spec = record d.spec { body = record d.spec.body { clip_sets = op } } }

-- ---- which lists were given

-- which lists of a field were given: the explicit one, and those of edit words
abbrev pub given_at : ListField → OwnerMarks → GivenLists
given_at (list.Paths Inherits) m = m.inherits
given_at (list.Paths Specializes) m = m.specializes
given_at (list.References References) m = m.references
given_at (list.References Payload) m = m.payloads
given_at (list.Texts VariantSets) m = m.variant_sets
given_at (list.Texts ApiSchemas) m = m.api_schemas
given_at (list.Texts ClipSets) m = m.clip_sets

-- with these lists of a field marked as given
abbrev pub with_given_at : ListField → GivenLists → OwnerMarks → OwnerMarks
with_given_at (list.Paths Inherits) g m = record m { inherits = g }
with_given_at (list.Paths Specializes) g m = record m { specializes = g }
with_given_at (list.References References) g m = record m { references = g }
with_given_at (list.References Payload) g m = record m { payloads = g }
with_given_at (list.Texts VariantSets) g m = record m { variant_sets = g }
with_given_at (list.Texts ApiSchemas) g m = record m { api_schemas = g }
with_given_at (list.Texts ClipSets) g m = record m { clip_sets = g }

-- a list of the field is given, and has no items yet
abbrev pub open_field : ListField → ListEdit → OwnerDraft → OwnerDraft
open_field (list.Paths field) edit d = with_paths field (open_list edit (paths_at field d)) d
open_field (list.References field) edit d = with_items field (open_list edit (items_at field d)) d
open_field (list.Texts field) edit d = with_texts field (open_list edit (texts_at field d)) d

-- the word of a field, behind its edit word
abbrev pub field_act : ListField → ListEdit → OwnerDraft → Acted
field_act field edit d =
    and_then (give edit (given_at field d.given)) (λ g. Ok (open_field field edit (record d { given = with_given_at field g d.given })))

-- ---- items

-- one item more; a text that is no path is refused
abbrev pub push_path : PathField → ListEdit → Option (List Element) → OwnerDraft → Acted
push_path field edit None d = Err Syntax
push_path field edit (Some path) d = Ok (with_paths field (push_item edit path (paths_at field d)) d)

-- a path token; its selections are kept
abbrev pub path_act : PathField → ListEdit → List ℕ → OwnerDraft → Acted
path_act field edit token d = push_path field edit (path_from d.base (path_text token)) d

-- a string token, which may be any text
abbrev pub text_act : TextField → ListEdit → List ℕ → OwnerDraft → Acted
text_act field edit token d = and_then (text_of token) (λ text. Ok (with_texts field (push_item edit text (texts_at field d)) d))

-- an asset token
abbrev pub asset_act : ReferenceField → ListEdit → List ℕ → OwnerDraft → OwnerDraft
asset_act field edit token d = with_items field (push_item edit (asset_item token) (items_at field d)) d

-- a path token that stands alone
abbrev pub lone_path_act : ReferenceField → ListEdit → List ℕ → OwnerDraft → Acted
lone_path_act field edit token d = and_then (path_item d.base token) (λ item. Ok (with_items field (push_item edit item (items_at field d)) d))

-- the last item of a list of references or payloads, changed
abbrev pub amend_items : ReferenceField → ListEdit → (RefItem → Result RefItem RefusalKind) → OwnerDraft → Acted
amend_items field edit change d = and_then (amend_list edit (amend_last change) (items_at field d)) (λ op. Ok (with_items field op d))

-- the path token behind an asset
abbrev pub item_path_act : ReferenceField → ListEdit → List ℕ → OwnerDraft → Acted
item_path_act field edit token d = amend_items field edit (with_path d.base token) d

-- the number token of an offset or a scale
abbrev pub item_number_act : ReferenceField → ListEdit → OffsetKey → List ℕ → OwnerDraft → Acted
item_number_act field edit key token d = amend_items field edit (with_number_of key token) d

-- the end of a list, at which repeats are dropped
abbrev pub close_field : ListField → ListEdit → OwnerDraft → OwnerDraft
close_field (list.Paths field) edit d = with_paths field (close_list same_path edit (paths_at field d)) d
close_field (list.References field) edit d = with_items field (close_list same_item edit (items_at field d)) d
close_field (list.Texts field) edit d = with_texts field (close_list same_text edit (texts_at field d)) d
