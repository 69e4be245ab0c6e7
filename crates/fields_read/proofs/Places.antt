-- The fields of an owner whose lists are edited: where their lists stand, and that the lists of the others stay.
use Rattle.std.proofs.Common.{◌≡◌, ℕ, Bool, List, refl}
use Rattle.list_ops.specs.declared.op.ListOp.{ListOp}
use Rattle.sdf_paths.specs.Paths.{IsPath}
use Rattle.sdf_paths.specs.declared.element.Element.{Element}
use Rattle.spec_parts.specs.declared.items.RefItem.{RefItem}
use Rattle.usda_fields.specs.Fields.{paths_at, with_paths, items_at, with_items, texts_at, with_texts, given_at, with_given_at}
use Rattle.usda_fields.specs.declared.field.PathField.{PathField}
use Rattle.usda_fields.specs.declared.field.PathField.TheVariants.{Inherits, Specializes}
use Rattle.usda_fields.specs.declared.field.ReferenceField.{ReferenceField}
use Rattle.usda_fields.specs.declared.field.ReferenceField.TheVariants.{References, Payload}
use Rattle.usda_fields.specs.declared.field.TextField.{TextField}
use Rattle.usda_fields.specs.declared.field.TextField.TheVariants.{VariantSets, ApiSchemas, ClipSets}
use Rattle.usda_fields.specs.declared.field.ListField.{ListField}
use Rattle.usda_fields.specs.declared.field.ListField.TheVariants as list
use Rattle.usda_fields.specs.declared.owner.OwnerDraft.{OwnerDraft}
use Rattle.usda_grammar.specs.declared.kinds.Keyword.{Keyword}
use Rattle.usda_lists.specs.References.{same_text, same_path, same_item}
use Rattle.usda_lists.specs.declared.edit.GivenLists.{GivenLists}
use Rattle.value_returns.specs.Fields.{IsText, IsProperReference}
use Rattle.fields_read.specs.Lists.{IsSoundList}
use Rattle.fields_read.specs.Sound.{IsSoundField, IsSaid}
use Rattle.fields_read.proofs.Reading.{IsPlace}

-- the owner with these lists of a field marked as given
abbrev pub marked : ListField → GivenLists → OwnerDraft → OwnerDraft
marked field given d = record d { given = with_given_at field given d.given }

pub marks_so : (field : ListField) (given : GivenLists) (d : OwnerDraft) → given_at field (marked field given d).given ≡ given
marks_so (list.Paths Inherits) given d = refl
marks_so (list.Paths Specializes) given d = refl
marks_so (list.References References) given d = refl
marks_so (list.References Payload) given d = refl
marks_so (list.Texts VariantSets) given d = refl
marks_so (list.Texts ApiSchemas) given d = refl
marks_so (list.Texts ClipSets) given d = refl

-- each field has sound lists
abbrev AreSound : OwnerDraft → Type 0
AreSound d = (field : ListField) → IsSoundField field d

-- ---- paths

pub base_paths : (f : PathField) (op : ListOp (List Element)) (d : OwnerDraft) → (with_paths f op d).base ≡ d.base
base_paths Inherits op d = refl
base_paths Specializes op d = refl

pub paths_as_before : (f : PathField) (given : GivenLists) (d : OwnerDraft) → paths_at f (marked (list.Paths f) given d) ≡ paths_at f d
paths_as_before Inherits given d = refl
paths_as_before Specializes given d = refl

paths_sound : (f : PathField) (given : GivenLists) (op : ListOp (List Element)) (d : OwnerDraft) → AreSound d → IsSoundList same_path IsPath given op → AreSound (with_paths f op (marked (list.Paths f) given d))
paths_sound Inherits given op d lists new (list.Paths Inherits) = new
paths_sound Inherits given op d lists new (list.Paths Specializes) = lists (list.Paths Specializes)
paths_sound Inherits given op d lists new (list.References References) = lists (list.References References)
paths_sound Inherits given op d lists new (list.References Payload) = lists (list.References Payload)
paths_sound Inherits given op d lists new (list.Texts VariantSets) = lists (list.Texts VariantSets)
paths_sound Inherits given op d lists new (list.Texts ApiSchemas) = lists (list.Texts ApiSchemas)
paths_sound Inherits given op d lists new (list.Texts ClipSets) = lists (list.Texts ClipSets)
paths_sound Specializes given op d lists new (list.Paths Inherits) = lists (list.Paths Inherits)
paths_sound Specializes given op d lists new (list.Paths Specializes) = new
paths_sound Specializes given op d lists new (list.References References) = lists (list.References References)
paths_sound Specializes given op d lists new (list.References Payload) = lists (list.References Payload)
paths_sound Specializes given op d lists new (list.Texts VariantSets) = lists (list.Texts VariantSets)
paths_sound Specializes given op d lists new (list.Texts ApiSchemas) = lists (list.Texts ApiSchemas)
paths_sound Specializes given op d lists new (list.Texts ClipSets) = lists (list.Texts ClipSets)

pub said_paths : (is_name : Keyword → Bool) (f : PathField) (given : GivenLists) (op : ListOp (List Element)) (d : OwnerDraft) → IsSaid is_name d → IsSoundList same_path IsPath given op
    → IsSaid is_name (with_paths f op (marked (list.Paths f) given d))
said_paths is_name Inherits given op d said new =
    record { base = said.base; lists = paths_sound Inherits given op d said.lists new; keys = said.keys; selections = said.selections; child_order = said.child_order; property_order = said.property_order }
said_paths is_name Specializes given op d said new =
    record { base = said.base; lists = paths_sound Specializes given op d said.lists new; keys = said.keys; selections = said.selections; child_order = said.child_order; property_order = said.property_order }

pub path_place : (is_name : Keyword → Bool) (f : PathField) → IsPlace is_name same_path IsPath (paths_at f) (with_paths f) (λ d. given_at (list.Paths f) d.given)
path_place is_name Inherits = record {
  at_put = λ op d. refl;
  put_put = λ op other d. refl;
  put_at = λ d. refl;
  marks_put = λ op d. refl;
  said_put = λ op d said new. said_paths is_name Inherits (given_at (list.Paths Inherits) d.given) op d said new;
  sound_at = λ d said. said.lists (list.Paths Inherits);
}
path_place is_name Specializes = record {
  at_put = λ op d. refl;
  put_put = λ op other d. refl;
  put_at = λ d. refl;
  marks_put = λ op d. refl;
  said_put = λ op d said new. said_paths is_name Specializes (given_at (list.Paths Specializes) d.given) op d said new;
  sound_at = λ d said. said.lists (list.Paths Specializes);
}

-- ---- references and payloads

pub base_items : (f : ReferenceField) (op : ListOp RefItem) (d : OwnerDraft) → (with_items f op d).base ≡ d.base
base_items References op d = refl
base_items Payload op d = refl

pub items_as_before : (f : ReferenceField) (given : GivenLists) (d : OwnerDraft) → items_at f (marked (list.References f) given d) ≡ items_at f d
items_as_before References given d = refl
items_as_before Payload given d = refl

items_sound : (f : ReferenceField) (given : GivenLists) (op : ListOp RefItem) (d : OwnerDraft) → AreSound d → IsSoundList same_item IsProperReference given op
    → AreSound (with_items f op (marked (list.References f) given d))
items_sound References given op d lists new (list.Paths Inherits) = lists (list.Paths Inherits)
items_sound References given op d lists new (list.Paths Specializes) = lists (list.Paths Specializes)
items_sound References given op d lists new (list.References References) = new
items_sound References given op d lists new (list.References Payload) = lists (list.References Payload)
items_sound References given op d lists new (list.Texts VariantSets) = lists (list.Texts VariantSets)
items_sound References given op d lists new (list.Texts ApiSchemas) = lists (list.Texts ApiSchemas)
items_sound References given op d lists new (list.Texts ClipSets) = lists (list.Texts ClipSets)
items_sound Payload given op d lists new (list.Paths Inherits) = lists (list.Paths Inherits)
items_sound Payload given op d lists new (list.Paths Specializes) = lists (list.Paths Specializes)
items_sound Payload given op d lists new (list.References References) = lists (list.References References)
items_sound Payload given op d lists new (list.References Payload) = new
items_sound Payload given op d lists new (list.Texts VariantSets) = lists (list.Texts VariantSets)
items_sound Payload given op d lists new (list.Texts ApiSchemas) = lists (list.Texts ApiSchemas)
items_sound Payload given op d lists new (list.Texts ClipSets) = lists (list.Texts ClipSets)

pub said_items : (is_name : Keyword → Bool) (f : ReferenceField) (given : GivenLists) (op : ListOp RefItem) (d : OwnerDraft) → IsSaid is_name d → IsSoundList same_item IsProperReference given op
    → IsSaid is_name (with_items f op (marked (list.References f) given d))
said_items is_name References given op d said new =
    record { base = said.base; lists = items_sound References given op d said.lists new; keys = said.keys; selections = said.selections; child_order = said.child_order; property_order = said.property_order }
said_items is_name Payload given op d said new =
    record { base = said.base; lists = items_sound Payload given op d said.lists new; keys = said.keys; selections = said.selections; child_order = said.child_order; property_order = said.property_order }

pub item_place : (is_name : Keyword → Bool) (f : ReferenceField) → IsPlace is_name same_item IsProperReference (items_at f) (with_items f) (λ d. given_at (list.References f) d.given)
item_place is_name References = record {
  at_put = λ op d. refl;
  put_put = λ op other d. refl;
  put_at = λ d. refl;
  marks_put = λ op d. refl;
  said_put = λ op d said new. said_items is_name References (given_at (list.References References) d.given) op d said new;
  sound_at = λ d said. said.lists (list.References References);
}
item_place is_name Payload = record {
  at_put = λ op d. refl;
  put_put = λ op other d. refl;
  put_at = λ d. refl;
  marks_put = λ op d. refl;
  said_put = λ op d said new. said_items is_name Payload (given_at (list.References Payload) d.given) op d said new;
  sound_at = λ d said. said.lists (list.References Payload);
}

-- ---- texts

pub texts_as_before : (f : TextField) (given : GivenLists) (d : OwnerDraft) → texts_at f (marked (list.Texts f) given d) ≡ texts_at f d
texts_as_before VariantSets given d = refl
texts_as_before ApiSchemas given d = refl
texts_as_before ClipSets given d = refl

texts_sound : (f : TextField) (given : GivenLists) (op : ListOp (List ℕ)) (d : OwnerDraft) → AreSound d → IsSoundList same_text IsText given op → AreSound (with_texts f op (marked (list.Texts f) given d))
texts_sound VariantSets given op d lists new (list.Paths Inherits) = lists (list.Paths Inherits)
texts_sound VariantSets given op d lists new (list.Paths Specializes) = lists (list.Paths Specializes)
texts_sound VariantSets given op d lists new (list.References References) = lists (list.References References)
texts_sound VariantSets given op d lists new (list.References Payload) = lists (list.References Payload)
texts_sound VariantSets given op d lists new (list.Texts VariantSets) = new
texts_sound VariantSets given op d lists new (list.Texts ApiSchemas) = lists (list.Texts ApiSchemas)
texts_sound VariantSets given op d lists new (list.Texts ClipSets) = lists (list.Texts ClipSets)
texts_sound ApiSchemas given op d lists new (list.Paths Inherits) = lists (list.Paths Inherits)
texts_sound ApiSchemas given op d lists new (list.Paths Specializes) = lists (list.Paths Specializes)
texts_sound ApiSchemas given op d lists new (list.References References) = lists (list.References References)
texts_sound ApiSchemas given op d lists new (list.References Payload) = lists (list.References Payload)
texts_sound ApiSchemas given op d lists new (list.Texts VariantSets) = lists (list.Texts VariantSets)
texts_sound ApiSchemas given op d lists new (list.Texts ApiSchemas) = new
texts_sound ApiSchemas given op d lists new (list.Texts ClipSets) = lists (list.Texts ClipSets)
texts_sound ClipSets given op d lists new (list.Paths Inherits) = lists (list.Paths Inherits)
texts_sound ClipSets given op d lists new (list.Paths Specializes) = lists (list.Paths Specializes)
texts_sound ClipSets given op d lists new (list.References References) = lists (list.References References)
texts_sound ClipSets given op d lists new (list.References Payload) = lists (list.References Payload)
texts_sound ClipSets given op d lists new (list.Texts VariantSets) = lists (list.Texts VariantSets)
texts_sound ClipSets given op d lists new (list.Texts ApiSchemas) = lists (list.Texts ApiSchemas)
texts_sound ClipSets given op d lists new (list.Texts ClipSets) = new

pub said_texts : (is_name : Keyword → Bool) (f : TextField) (given : GivenLists) (op : ListOp (List ℕ)) (d : OwnerDraft) → IsSaid is_name d → IsSoundList same_text IsText given op
    → IsSaid is_name (with_texts f op (marked (list.Texts f) given d))
said_texts is_name VariantSets given op d said new =
    record { base = said.base; lists = texts_sound VariantSets given op d said.lists new; keys = said.keys; selections = said.selections; child_order = said.child_order; property_order = said.property_order }
said_texts is_name ApiSchemas given op d said new =
    record { base = said.base; lists = texts_sound ApiSchemas given op d said.lists new; keys = said.keys; selections = said.selections; child_order = said.child_order; property_order = said.property_order }
said_texts is_name ClipSets given op d said new =
    record { base = said.base; lists = texts_sound ClipSets given op d said.lists new; keys = said.keys; selections = said.selections; child_order = said.child_order; property_order = said.property_order }

pub text_place : (is_name : Keyword → Bool) (f : TextField) → IsPlace is_name same_text IsText (texts_at f) (with_texts f) (λ d. given_at (list.Texts f) d.given)
text_place is_name VariantSets = record {
  at_put = λ op d. refl;
  put_put = λ op other d. refl;
  put_at = λ d. refl;
  marks_put = λ op d. refl;
  said_put = λ op d said new. said_texts is_name VariantSets (given_at (list.Texts VariantSets) d.given) op d said new;
  sound_at = λ d said. said.lists (list.Texts VariantSets);
}
text_place is_name ApiSchemas = record {
  at_put = λ op d. refl;
  put_put = λ op other d. refl;
  put_at = λ d. refl;
  marks_put = λ op d. refl;
  said_put = λ op d said new. said_texts is_name ApiSchemas (given_at (list.Texts ApiSchemas) d.given) op d said new;
  sound_at = λ d said. said.lists (list.Texts ApiSchemas);
}
text_place is_name ClipSets = record {
  at_put = λ op d. refl;
  put_put = λ op other d. refl;
  put_at = λ d. refl;
  marks_put = λ op d. refl;
  said_put = λ op d said new. said_texts is_name ClipSets (given_at (list.Texts ClipSets) d.given) op d said new;
  sound_at = λ d said. said.lists (list.Texts ClipSets);
}
