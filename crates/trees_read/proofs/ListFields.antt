-- The lists of an owner's fields, and the one in hand.
use Rattle.std.proofs.Common.{◌≡◌, ℕ, true, List, [], ◌∷◌, ◌++◌, Option, Some, None, Result, Ok, Err, sym, refl, subst, ◌⊎◌, inl, inr}
use Rattle.std.specs.List.{IsDistinct}
use Rattle.list_ops.specs.ListEdits.{firsts}
use Rattle.list_ops.specs.declared.op.ListOp.{ListOp}
use Rattle.sdf_paths.specs.declared.element.Element.{Element}
use Rattle.sdf_values.specs.declared.refusal.RefusalKind.{RefusalKind}
use Rattle.spec_parts.specs.declared.items.RefItem.{RefItem}
use Rattle.spec_parts.specs.declared.spec.Spec.{Spec}
use Rattle.usda_fields.specs.Fields.{with_paths, with_items, with_texts, paths_at, items_at, texts_at, given_at, with_given_at, open_field, field_act, push_path, path_act, text_act, asset_act, lone_path_act, amend_items, item_path_act, item_number_act, close_field}
use Rattle.usda_fields.specs.Names.{text_of}
use Rattle.usda_fields.specs.declared.field.ListField.{ListField}
use Rattle.usda_fields.specs.declared.field.ListField.TheVariants as list
use Rattle.usda_fields.specs.declared.field.PathField.{PathField}
use Rattle.usda_fields.specs.declared.field.PathField.TheVariants.{Inherits, Specializes}
use Rattle.usda_fields.specs.declared.field.ReferenceField.{ReferenceField}
use Rattle.usda_fields.specs.declared.field.ReferenceField.TheVariants.{References, Payload}
use Rattle.usda_fields.specs.declared.field.TextField.{TextField}
use Rattle.usda_fields.specs.declared.field.TextField.TheVariants.{VariantSets, ApiSchemas, ClipSets}
use Rattle.usda_fields.specs.declared.owner.OwnerDraft.{OwnerDraft}
use Rattle.usda_lexer.specs.Meanings.{path_text}
use Rattle.usda_lists.specs.Acts.{and_then}
use Rattle.usda_lists.specs.Edits.{give}
use Rattle.usda_lists.specs.Lists.{list_at, with_list, push_item, close_list, amend_last}
use Rattle.usda_lists.specs.Paths.{path_from}
use Rattle.usda_lists.specs.References.{asset_item, path_item, with_path, with_number_of, same_text, same_path, same_item}
use Rattle.usda_lists.specs.declared.edit.ListEdit.{ListEdit}
use Rattle.usda_lists.specs.declared.offset.OffsetKey.{OffsetKey}
use Rattle.trees_read.proofs.Fields.{IfMade, and_made}
use Rattle.trees_read.proofs.ListOps.{OpOnce, OpBut, but_of, at_with, but_with, once_at, firsts_distinct, Size, any, empty, Sized, pushed, is_known, sized_push, sized_amend, sized_once}

-- the lists of the fields of a spec
pub record Ops : Type 0 where
  pub inherits : ListOp (List Element)
  pub specializes : ListOp (List Element)
  pub references : ListOp RefItem
  pub payloads : ListOp RefItem
  pub variant_sets : ListOp (List ℕ)
  pub api_schemas : ListOp (List ℕ)
  pub clip_sets : ListOp (List ℕ)

abbrev pub ops_of : Spec → Ops
ops_of spec = record {
  inherits = spec.arcs.inherits;
  specializes = spec.arcs.specializes;
  references = spec.arcs.references;
  payloads = spec.arcs.payloads;
  variant_sets = spec.arcs.variant_sets;
  api_schemas = spec.body.api_schemas;
  clip_sets = spec.body.clip_sets;
}

abbrev pub paths_op : PathField → Ops → ListOp (List Element)
paths_op Inherits o = o.inherits
paths_op Specializes o = o.specializes

abbrev pub items_op : ReferenceField → Ops → ListOp RefItem
items_op References o = o.references
items_op Payload o = o.payloads

abbrev pub texts_op : TextField → Ops → ListOp (List ℕ)
texts_op VariantSets o = o.variant_sets
texts_op ApiSchemas o = o.api_schemas
texts_op ClipSets o = o.clip_sets

-- each item of each list of the field stands once
abbrev pub FieldOnce : ListField → Ops → Type 0
FieldOnce (list.Paths f) o = OpOnce same_path (paths_op f o)
FieldOnce (list.References f) o = OpOnce same_item (items_op f o)
FieldOnce (list.Texts f) o = OpOnce same_text (texts_op f o)

-- of each list but that of this edit
abbrev pub FieldBut : ListField → ListEdit → Ops → Type 0
FieldBut (list.Paths f) edit o = OpBut same_path edit (paths_op f o)
FieldBut (list.References f) edit o = OpBut same_item edit (items_op f o)
FieldBut (list.Texts f) edit o = OpBut same_text edit (texts_op f o)

-- what is known of the list of this edit
abbrev pub FieldSized : Size → ListField → ListEdit → Ops → Type 0
FieldSized s (list.Paths f) edit o = Sized same_path s (list_at edit (paths_op f o))
FieldSized s (list.References f) edit o = Sized same_item s (list_at edit (items_op f o))
FieldSized s (list.Texts f) edit o = Sized same_text s (list_at edit (texts_op f o))

-- all fields
abbrev pub AllOnce : Ops → Type 0
AllOnce o = (f : ListField) → FieldOnce f o

-- all but one
abbrev pub OthersOnce : ListField → Ops → Type 0
OthersOnce f o = (g : ListField) → (g ≡ f → ⊥) → FieldOnce g o

-- the list of this field and this edit is in hand
pub record InHand (s : Size) (f : ListField) (edit : ListEdit) (o : Ops) : Type 0 where
  pub others : OthersOnce f o
  pub but : FieldBut f edit o
  pub size : FieldSized s f edit o

is_field : (g f : ListField) → (g ≡ f) ⊎ (g ≡ f → ⊥)
is_field (list.Paths Inherits) (list.Paths Inherits) = inl refl
is_field (list.Paths Inherits) (list.Paths Specializes) = inr (λ h. absurd cc)
is_field (list.Paths Inherits) (list.References References) = inr (λ h. absurd cc)
is_field (list.Paths Inherits) (list.References Payload) = inr (λ h. absurd cc)
is_field (list.Paths Inherits) (list.Texts VariantSets) = inr (λ h. absurd cc)
is_field (list.Paths Inherits) (list.Texts ApiSchemas) = inr (λ h. absurd cc)
is_field (list.Paths Inherits) (list.Texts ClipSets) = inr (λ h. absurd cc)
is_field (list.Paths Specializes) (list.Paths Inherits) = inr (λ h. absurd cc)
is_field (list.Paths Specializes) (list.Paths Specializes) = inl refl
is_field (list.Paths Specializes) (list.References References) = inr (λ h. absurd cc)
is_field (list.Paths Specializes) (list.References Payload) = inr (λ h. absurd cc)
is_field (list.Paths Specializes) (list.Texts VariantSets) = inr (λ h. absurd cc)
is_field (list.Paths Specializes) (list.Texts ApiSchemas) = inr (λ h. absurd cc)
is_field (list.Paths Specializes) (list.Texts ClipSets) = inr (λ h. absurd cc)
is_field (list.References References) (list.Paths Inherits) = inr (λ h. absurd cc)
is_field (list.References References) (list.Paths Specializes) = inr (λ h. absurd cc)
is_field (list.References References) (list.References References) = inl refl
is_field (list.References References) (list.References Payload) = inr (λ h. absurd cc)
is_field (list.References References) (list.Texts VariantSets) = inr (λ h. absurd cc)
is_field (list.References References) (list.Texts ApiSchemas) = inr (λ h. absurd cc)
is_field (list.References References) (list.Texts ClipSets) = inr (λ h. absurd cc)
is_field (list.References Payload) (list.Paths Inherits) = inr (λ h. absurd cc)
is_field (list.References Payload) (list.Paths Specializes) = inr (λ h. absurd cc)
is_field (list.References Payload) (list.References References) = inr (λ h. absurd cc)
is_field (list.References Payload) (list.References Payload) = inl refl
is_field (list.References Payload) (list.Texts VariantSets) = inr (λ h. absurd cc)
is_field (list.References Payload) (list.Texts ApiSchemas) = inr (λ h. absurd cc)
is_field (list.References Payload) (list.Texts ClipSets) = inr (λ h. absurd cc)
is_field (list.Texts VariantSets) (list.Paths Inherits) = inr (λ h. absurd cc)
is_field (list.Texts VariantSets) (list.Paths Specializes) = inr (λ h. absurd cc)
is_field (list.Texts VariantSets) (list.References References) = inr (λ h. absurd cc)
is_field (list.Texts VariantSets) (list.References Payload) = inr (λ h. absurd cc)
is_field (list.Texts VariantSets) (list.Texts VariantSets) = inl refl
is_field (list.Texts VariantSets) (list.Texts ApiSchemas) = inr (λ h. absurd cc)
is_field (list.Texts VariantSets) (list.Texts ClipSets) = inr (λ h. absurd cc)
is_field (list.Texts ApiSchemas) (list.Paths Inherits) = inr (λ h. absurd cc)
is_field (list.Texts ApiSchemas) (list.Paths Specializes) = inr (λ h. absurd cc)
is_field (list.Texts ApiSchemas) (list.References References) = inr (λ h. absurd cc)
is_field (list.Texts ApiSchemas) (list.References Payload) = inr (λ h. absurd cc)
is_field (list.Texts ApiSchemas) (list.Texts VariantSets) = inr (λ h. absurd cc)
is_field (list.Texts ApiSchemas) (list.Texts ApiSchemas) = inl refl
is_field (list.Texts ApiSchemas) (list.Texts ClipSets) = inr (λ h. absurd cc)
is_field (list.Texts ClipSets) (list.Paths Inherits) = inr (λ h. absurd cc)
is_field (list.Texts ClipSets) (list.Paths Specializes) = inr (λ h. absurd cc)
is_field (list.Texts ClipSets) (list.References References) = inr (λ h. absurd cc)
is_field (list.Texts ClipSets) (list.References Payload) = inr (λ h. absurd cc)
is_field (list.Texts ClipSets) (list.Texts VariantSets) = inr (λ h. absurd cc)
is_field (list.Texts ClipSets) (list.Texts ApiSchemas) = inr (λ h. absurd cc)
is_field (list.Texts ClipSets) (list.Texts ClipSets) = inl refl

once_all : (f : ListField) (o : Ops) → OthersOnce f o → FieldOnce f o → AllOnce o
once_all f o others one g = by (is_field g f)
  where
    by : (g ≡ f) ⊎ (g ≡ f → ⊥) → FieldOnce g o
    by (inl same) = subst (λ x. FieldOnce x o) (sym same) one
    by (inr apart) = others g apart

others_paths : (field : PathField) (op : ListOp (List Element)) (d : OwnerDraft) → OthersOnce (list.Paths field) (ops_of d.spec) → OthersOnce (list.Paths field) (ops_of (with_paths field op d).spec)
others_paths Inherits op d h (list.Paths Inherits) apart = absurd (apart refl)
others_paths Inherits op d h (list.Paths Specializes) apart = h (list.Paths Specializes) apart
others_paths Inherits op d h (list.References References) apart = h (list.References References) apart
others_paths Inherits op d h (list.References Payload) apart = h (list.References Payload) apart
others_paths Inherits op d h (list.Texts VariantSets) apart = h (list.Texts VariantSets) apart
others_paths Inherits op d h (list.Texts ApiSchemas) apart = h (list.Texts ApiSchemas) apart
others_paths Inherits op d h (list.Texts ClipSets) apart = h (list.Texts ClipSets) apart
others_paths Specializes op d h (list.Paths Inherits) apart = h (list.Paths Inherits) apart
others_paths Specializes op d h (list.Paths Specializes) apart = absurd (apart refl)
others_paths Specializes op d h (list.References References) apart = h (list.References References) apart
others_paths Specializes op d h (list.References Payload) apart = h (list.References Payload) apart
others_paths Specializes op d h (list.Texts VariantSets) apart = h (list.Texts VariantSets) apart
others_paths Specializes op d h (list.Texts ApiSchemas) apart = h (list.Texts ApiSchemas) apart
others_paths Specializes op d h (list.Texts ClipSets) apart = h (list.Texts ClipSets) apart

paths_there : (field : PathField) (op : ListOp (List Element)) (d : OwnerDraft) → paths_op field (ops_of (with_paths field op d).spec) ≡ op
paths_there Inherits op d = refl
paths_there Specializes op d = refl

paths_here : (field : PathField) (d : OwnerDraft) → paths_op field (ops_of d.spec) ≡ paths_at field d
paths_here Inherits d = refl
paths_here Specializes d = refl

paths_hand : (s t : Size) (field : PathField) (edit : ListEdit) (xs : List (List Element)) (d : OwnerDraft) → InHand s (list.Paths field) edit (ops_of d.spec) → Sized same_path t xs → InHand t (list.Paths field) edit (ops_of (with_paths field (with_list edit xs (paths_at field d)) d).spec)
paths_hand s t field edit xs d h size =
    let op : ListOp (List Element) = with_list edit xs (paths_at field d) in
    record {
      others = others_paths field op d h.others;
      but = subst (λ x. OpBut same_path edit x) (sym (paths_there field op d)) (but_with same_path edit xs (paths_at field d) (subst (λ x. OpBut same_path edit x) (paths_here field d) h.but));
      size = subst (λ x. Sized same_path t (list_at edit x)) (sym (paths_there field op d)) (subst (λ x. Sized same_path t x) (sym (at_with same_path edit xs (paths_at field d))) size);
    }

paths_size : (s : Size) (field : PathField) (edit : ListEdit) (d : OwnerDraft) → InHand s (list.Paths field) edit (ops_of d.spec) → Sized same_path s (list_at edit (paths_at field d))
paths_size s field edit d h = subst (λ x. Sized same_path s (list_at edit x)) (paths_here field d) h.size

paths_push : (s : Size) (field : PathField) (edit : ListEdit) (x : (List Element)) (d : OwnerDraft) → InHand s (list.Paths field) edit (ops_of d.spec) → InHand (pushed s) (list.Paths field) edit (ops_of (with_paths field (push_item edit x (paths_at field d)) d).spec)
paths_push s field edit x d h = paths_hand s (pushed s) field edit (list_at edit (paths_at field d) ++ x ∷ []) d h (sized_push same_path s (list_at edit (paths_at field d)) x (paths_size s field edit d h))

paths_close : (field : PathField) (edit : ListEdit) (d : OwnerDraft) → InHand any (list.Paths field) edit (ops_of d.spec) → AllOnce (ops_of (with_paths field (close_list same_path edit (paths_at field d)) d).spec)
paths_close field edit d h =
    let xs : List (List Element) = firsts same_path (list_at edit (paths_at field d)) in
    let op : ListOp (List Element) = with_list edit xs (paths_at field d) in
    let g : InHand any (list.Paths field) edit (ops_of (with_paths field op d).spec) = paths_hand any any field edit xs d h tt in
    once_all (list.Paths field) (ops_of (with_paths field op d).spec) g.others
    (once_at same_path edit (paths_op field (ops_of (with_paths field op d).spec)) g.but
    (subst (λ x. IsDistinct same_path (list_at edit x)) (sym (paths_there field op d)) (subst (λ x. IsDistinct same_path x) (sym (at_with same_path edit xs (paths_at field d))) (firsts_distinct same_path (list_at edit (paths_at field d))))))

others_items : (field : ReferenceField) (op : ListOp RefItem) (d : OwnerDraft) → OthersOnce (list.References field) (ops_of d.spec) → OthersOnce (list.References field) (ops_of (with_items field op d).spec)
others_items References op d h (list.Paths Inherits) apart = h (list.Paths Inherits) apart
others_items References op d h (list.Paths Specializes) apart = h (list.Paths Specializes) apart
others_items References op d h (list.References References) apart = absurd (apart refl)
others_items References op d h (list.References Payload) apart = h (list.References Payload) apart
others_items References op d h (list.Texts VariantSets) apart = h (list.Texts VariantSets) apart
others_items References op d h (list.Texts ApiSchemas) apart = h (list.Texts ApiSchemas) apart
others_items References op d h (list.Texts ClipSets) apart = h (list.Texts ClipSets) apart
others_items Payload op d h (list.Paths Inherits) apart = h (list.Paths Inherits) apart
others_items Payload op d h (list.Paths Specializes) apart = h (list.Paths Specializes) apart
others_items Payload op d h (list.References References) apart = h (list.References References) apart
others_items Payload op d h (list.References Payload) apart = absurd (apart refl)
others_items Payload op d h (list.Texts VariantSets) apart = h (list.Texts VariantSets) apart
others_items Payload op d h (list.Texts ApiSchemas) apart = h (list.Texts ApiSchemas) apart
others_items Payload op d h (list.Texts ClipSets) apart = h (list.Texts ClipSets) apart

items_there : (field : ReferenceField) (op : ListOp RefItem) (d : OwnerDraft) → items_op field (ops_of (with_items field op d).spec) ≡ op
items_there References op d = refl
items_there Payload op d = refl

items_here : (field : ReferenceField) (d : OwnerDraft) → items_op field (ops_of d.spec) ≡ items_at field d
items_here References d = refl
items_here Payload d = refl

items_hand : (s t : Size) (field : ReferenceField) (edit : ListEdit) (xs : List RefItem) (d : OwnerDraft) → InHand s (list.References field) edit (ops_of d.spec) → Sized same_item t xs → InHand t (list.References field) edit (ops_of (with_items field (with_list edit xs (items_at field d)) d).spec)
items_hand s t field edit xs d h size =
    let op : ListOp RefItem = with_list edit xs (items_at field d) in
    record {
      others = others_items field op d h.others;
      but = subst (λ x. OpBut same_item edit x) (sym (items_there field op d)) (but_with same_item edit xs (items_at field d) (subst (λ x. OpBut same_item edit x) (items_here field d) h.but));
      size = subst (λ x. Sized same_item t (list_at edit x)) (sym (items_there field op d)) (subst (λ x. Sized same_item t x) (sym (at_with same_item edit xs (items_at field d))) size);
    }

items_size : (s : Size) (field : ReferenceField) (edit : ListEdit) (d : OwnerDraft) → InHand s (list.References field) edit (ops_of d.spec) → Sized same_item s (list_at edit (items_at field d))
items_size s field edit d h = subst (λ x. Sized same_item s (list_at edit x)) (items_here field d) h.size

items_push : (s : Size) (field : ReferenceField) (edit : ListEdit) (x : RefItem) (d : OwnerDraft) → InHand s (list.References field) edit (ops_of d.spec) → InHand (pushed s) (list.References field) edit (ops_of (with_items field (push_item edit x (items_at field d)) d).spec)
items_push s field edit x d h = items_hand s (pushed s) field edit (list_at edit (items_at field d) ++ x ∷ []) d h (sized_push same_item s (list_at edit (items_at field d)) x (items_size s field edit d h))

items_close : (field : ReferenceField) (edit : ListEdit) (d : OwnerDraft) → InHand any (list.References field) edit (ops_of d.spec) → AllOnce (ops_of (with_items field (close_list same_item edit (items_at field d)) d).spec)
items_close field edit d h =
    let xs : List RefItem = firsts same_item (list_at edit (items_at field d)) in
    let op : ListOp RefItem = with_list edit xs (items_at field d) in
    let g : InHand any (list.References field) edit (ops_of (with_items field op d).spec) = items_hand any any field edit xs d h tt in
    once_all (list.References field) (ops_of (with_items field op d).spec) g.others
    (once_at same_item edit (items_op field (ops_of (with_items field op d).spec)) g.but
    (subst (λ x. IsDistinct same_item (list_at edit x)) (sym (items_there field op d)) (subst (λ x. IsDistinct same_item x) (sym (at_with same_item edit xs (items_at field d))) (firsts_distinct same_item (list_at edit (items_at field d))))))

others_texts : (field : TextField) (op : ListOp (List ℕ)) (d : OwnerDraft) → OthersOnce (list.Texts field) (ops_of d.spec) → OthersOnce (list.Texts field) (ops_of (with_texts field op d).spec)
others_texts VariantSets op d h (list.Paths Inherits) apart = h (list.Paths Inherits) apart
others_texts VariantSets op d h (list.Paths Specializes) apart = h (list.Paths Specializes) apart
others_texts VariantSets op d h (list.References References) apart = h (list.References References) apart
others_texts VariantSets op d h (list.References Payload) apart = h (list.References Payload) apart
others_texts VariantSets op d h (list.Texts VariantSets) apart = absurd (apart refl)
others_texts VariantSets op d h (list.Texts ApiSchemas) apart = h (list.Texts ApiSchemas) apart
others_texts VariantSets op d h (list.Texts ClipSets) apart = h (list.Texts ClipSets) apart
others_texts ApiSchemas op d h (list.Paths Inherits) apart = h (list.Paths Inherits) apart
others_texts ApiSchemas op d h (list.Paths Specializes) apart = h (list.Paths Specializes) apart
others_texts ApiSchemas op d h (list.References References) apart = h (list.References References) apart
others_texts ApiSchemas op d h (list.References Payload) apart = h (list.References Payload) apart
others_texts ApiSchemas op d h (list.Texts VariantSets) apart = h (list.Texts VariantSets) apart
others_texts ApiSchemas op d h (list.Texts ApiSchemas) apart = absurd (apart refl)
others_texts ApiSchemas op d h (list.Texts ClipSets) apart = h (list.Texts ClipSets) apart
others_texts ClipSets op d h (list.Paths Inherits) apart = h (list.Paths Inherits) apart
others_texts ClipSets op d h (list.Paths Specializes) apart = h (list.Paths Specializes) apart
others_texts ClipSets op d h (list.References References) apart = h (list.References References) apart
others_texts ClipSets op d h (list.References Payload) apart = h (list.References Payload) apart
others_texts ClipSets op d h (list.Texts VariantSets) apart = h (list.Texts VariantSets) apart
others_texts ClipSets op d h (list.Texts ApiSchemas) apart = h (list.Texts ApiSchemas) apart
others_texts ClipSets op d h (list.Texts ClipSets) apart = absurd (apart refl)

texts_there : (field : TextField) (op : ListOp (List ℕ)) (d : OwnerDraft) → texts_op field (ops_of (with_texts field op d).spec) ≡ op
texts_there VariantSets op d = refl
texts_there ApiSchemas op d = refl
texts_there ClipSets op d = refl

texts_here : (field : TextField) (d : OwnerDraft) → texts_op field (ops_of d.spec) ≡ texts_at field d
texts_here VariantSets d = refl
texts_here ApiSchemas d = refl
texts_here ClipSets d = refl

texts_hand : (s t : Size) (field : TextField) (edit : ListEdit) (xs : List (List ℕ)) (d : OwnerDraft) → InHand s (list.Texts field) edit (ops_of d.spec) → Sized same_text t xs → InHand t (list.Texts field) edit (ops_of (with_texts field (with_list edit xs (texts_at field d)) d).spec)
texts_hand s t field edit xs d h size =
    let op : ListOp (List ℕ) = with_list edit xs (texts_at field d) in
    record {
      others = others_texts field op d h.others;
      but = subst (λ x. OpBut same_text edit x) (sym (texts_there field op d)) (but_with same_text edit xs (texts_at field d) (subst (λ x. OpBut same_text edit x) (texts_here field d) h.but));
      size = subst (λ x. Sized same_text t (list_at edit x)) (sym (texts_there field op d)) (subst (λ x. Sized same_text t x) (sym (at_with same_text edit xs (texts_at field d))) size);
    }

texts_size : (s : Size) (field : TextField) (edit : ListEdit) (d : OwnerDraft) → InHand s (list.Texts field) edit (ops_of d.spec) → Sized same_text s (list_at edit (texts_at field d))
texts_size s field edit d h = subst (λ x. Sized same_text s (list_at edit x)) (texts_here field d) h.size

texts_push : (s : Size) (field : TextField) (edit : ListEdit) (x : (List ℕ)) (d : OwnerDraft) → InHand s (list.Texts field) edit (ops_of d.spec) → InHand (pushed s) (list.Texts field) edit (ops_of (with_texts field (push_item edit x (texts_at field d)) d).spec)
texts_push s field edit x d h = texts_hand s (pushed s) field edit (list_at edit (texts_at field d) ++ x ∷ []) d h (sized_push same_text s (list_at edit (texts_at field d)) x (texts_size s field edit d h))

texts_close : (field : TextField) (edit : ListEdit) (d : OwnerDraft) → InHand any (list.Texts field) edit (ops_of d.spec) → AllOnce (ops_of (with_texts field (close_list same_text edit (texts_at field d)) d).spec)
texts_close field edit d h =
    let xs : List (List ℕ) = firsts same_text (list_at edit (texts_at field d)) in
    let op : ListOp (List ℕ) = with_list edit xs (texts_at field d) in
    let g : InHand any (list.Texts field) edit (ops_of (with_texts field op d).spec) = texts_hand any any field edit xs d h tt in
    once_all (list.Texts field) (ops_of (with_texts field op d).spec) g.others
    (once_at same_text edit (texts_op field (ops_of (with_texts field op d).spec)) g.but
    (subst (λ x. IsDistinct same_text (list_at edit x)) (sym (texts_there field op d)) (subst (λ x. IsDistinct same_text x) (sym (at_with same_text edit xs (texts_at field d))) (firsts_distinct same_text (list_at edit (texts_at field d))))))

-- nothing is in hand any more
pub hand_known : (s : Size) (f : ListField) (edit : ListEdit) (o : Ops) → is_known s ≡ true → InHand s f edit o → AllOnce o
hand_known s (list.Paths f) edit o known h = once_all (list.Paths f) o h.others (once_at same_path edit (paths_op f o) h.but (sized_once same_path s (list_at edit (paths_op f o)) known h.size))
hand_known s (list.References f) edit o known h = once_all (list.References f) o h.others (once_at same_item edit (items_op f o) h.but (sized_once same_item s (list_at edit (items_op f o)) known h.size))
hand_known s (list.Texts f) edit o known h = once_all (list.Texts f) o h.others (once_at same_text edit (texts_op f o) h.but (sized_once same_text s (list_at edit (texts_op f o)) known h.size))

-- nothing was in hand
pub hand_any : (f : ListField) (edit : ListEdit) (o : Ops) → AllOnce o → InHand any f edit o
hand_any (list.Paths f) edit o h = record { others = λ g apart. h g; but = but_of same_path edit (paths_op f o) (h (list.Paths f)); size = tt }
hand_any (list.References f) edit o h = record { others = λ g apart. h g; but = but_of same_item edit (items_op f o) (h (list.References f)); size = tt }
hand_any (list.Texts f) edit o h = record { others = λ g apart. h g; but = but_of same_text edit (texts_op f o) (h (list.Texts f)); size = tt }

pub hand_less : (s : Size) (f : ListField) (edit : ListEdit) (o : Ops) → InHand s f edit o → InHand any f edit o
hand_less s (list.Paths f) edit o h = record { others = h.others; but = h.but; size = tt }
hand_less s (list.References f) edit o h = record { others = h.others; but = h.but; size = tt }
hand_less s (list.Texts f) edit o h = record { others = h.others; but = h.but; size = tt }

-- ---- acts

opened_hand : (f : ListField) (edit : ListEdit) (d : OwnerDraft) → AllOnce (ops_of d.spec) → InHand empty f edit (ops_of (open_field f edit d).spec)
opened_hand (list.Paths f) edit d h = paths_hand any empty f edit [] d (hand_any (list.Paths f) edit (ops_of d.spec) h) refl
opened_hand (list.References f) edit d h = items_hand any empty f edit [] d (hand_any (list.References f) edit (ops_of d.spec) h) refl
opened_hand (list.Texts f) edit d h = texts_hand any empty f edit [] d (hand_any (list.Texts f) edit (ops_of d.spec) h) refl

pub field_hand : (f : ListField) (edit : ListEdit) (d : OwnerDraft) → AllOnce (ops_of d.spec) → IfMade (λ n. InHand empty f edit (ops_of n.spec)) (field_act f edit d)
field_hand f edit d h =
    and_made (λ n. InHand empty f edit (ops_of n.spec)) (give edit (given_at f d.given)) (λ g. Ok (open_field f edit (record d { given = with_given_at f g d.given })))
    (λ g. opened_hand f edit (record d { given = with_given_at f g d.given }) h)

pub path_hand : (s : Size) (f : PathField) (edit : ListEdit) (token : List ℕ) (d : OwnerDraft) → InHand s (list.Paths f) edit (ops_of d.spec) → IfMade (λ n. InHand (pushed s) (list.Paths f) edit (ops_of n.spec)) (path_act f edit token d)
path_hand s f edit token d h = by (path_from d.base (path_text token))
  where
    by : (o : Option (List Element)) → IfMade (λ n. InHand (pushed s) (list.Paths f) edit (ops_of n.spec)) (push_path f edit o d)
    by None = tt
    by (Some path) = paths_push s f edit path d h

pub text_hand : (s : Size) (f : TextField) (edit : ListEdit) (token : List ℕ) (d : OwnerDraft) → InHand s (list.Texts f) edit (ops_of d.spec) → IfMade (λ n. InHand (pushed s) (list.Texts f) edit (ops_of n.spec)) (text_act f edit token d)
text_hand s f edit token d h = and_made (λ n. InHand (pushed s) (list.Texts f) edit (ops_of n.spec)) (text_of token) (λ text. Ok (with_texts f (push_item edit text (texts_at f d)) d)) (λ text. texts_push s f edit text d h)

pub asset_hand : (s : Size) (f : ReferenceField) (edit : ListEdit) (token : List ℕ) (d : OwnerDraft) → InHand s (list.References f) edit (ops_of d.spec) → InHand (pushed s) (list.References f) edit (ops_of (asset_act f edit token d).spec)
asset_hand s f edit token d h = items_push s f edit (asset_item token) d h

pub lone_hand : (s : Size) (f : ReferenceField) (edit : ListEdit) (token : List ℕ) (d : OwnerDraft) → InHand s (list.References f) edit (ops_of d.spec) → IfMade (λ n. InHand (pushed s) (list.References f) edit (ops_of n.spec)) (lone_path_act f edit token d)
lone_hand s f edit token d h = and_made (λ n. InHand (pushed s) (list.References f) edit (ops_of n.spec)) (path_item d.base token) (λ item. Ok (with_items f (push_item edit item (items_at f d)) d)) (λ item. items_push s f edit item d h)

amended_hand : (s : Size) (f : ReferenceField) (edit : ListEdit) (change : RefItem → Result RefItem RefusalKind) (d : OwnerDraft) → InHand s (list.References f) edit (ops_of d.spec) → IfMade (λ n. InHand s (list.References f) edit (ops_of n.spec)) (amend_items f edit change d)
amended_hand s f edit change d h = by (amend_last change (list_at edit (items_at f d))) (sized_amend same_item s change (list_at edit (items_at f d)) (items_size s f edit d h))
  where
    by : (r : Result (List RefItem) RefusalKind) → IfMade (Sized same_item s) r → IfMade (λ n. InHand s (list.References f) edit (ops_of n.spec)) (and_then (and_then r (λ items. Ok (with_list edit items (items_at f d)))) (λ op. Ok (with_items f op d)))
    by (Ok items) size = items_hand s s f edit items d h size
    by (Err k) size = tt

pub item_path_hand : (s : Size) (f : ReferenceField) (edit : ListEdit) (token : List ℕ) (d : OwnerDraft) → InHand s (list.References f) edit (ops_of d.spec) → IfMade (λ n. InHand s (list.References f) edit (ops_of n.spec)) (item_path_act f edit token d)
item_path_hand s f edit token d h = amended_hand s f edit (with_path d.base token) d h

pub item_number_hand : (s : Size) (f : ReferenceField) (edit : ListEdit) (key : OffsetKey) (token : List ℕ) (d : OwnerDraft) → InHand s (list.References f) edit (ops_of d.spec) → IfMade (λ n. InHand s (list.References f) edit (ops_of n.spec)) (item_number_act f edit key token d)
item_number_hand s f edit key token d h = amended_hand s f edit (with_number_of key token) d h

pub closed_hand : (f : ListField) (edit : ListEdit) (d : OwnerDraft) → InHand any f edit (ops_of d.spec) → AllOnce (ops_of (close_field f edit d).spec)
closed_hand (list.Paths f) edit d h = paths_close f edit d h
closed_hand (list.References f) edit d h = items_close f edit d h
closed_hand (list.Texts f) edit d h = texts_close f edit d h
