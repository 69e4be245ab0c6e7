-- The fields of a prim: lists of strings, of paths, and of references.
use Rattle.std.proofs.Common.{◌≡◌, ◌∙◌, ℕ, false, List, [], ◌∷◌, ap, sym, refl, subst}
use Rattle.list_ops.specs.ListEdits.{firsts}
use Rattle.list_ops.specs.declared.op.ListOp.{ListOp}
use Rattle.sdf_paths.specs.declared.element.Element.{Element}
use Rattle.usda_fields.specs.Fields.{texts_at, with_texts, paths_at, with_paths}
use Rattle.usda_fields.specs.declared.field.ListField.TheVariants.{Paths, References, Texts}
use Rattle.usda_fields.specs.declared.field.PathField.{PathField}
use Rattle.usda_fields.specs.declared.field.PathField.TheVariants as path_field
use Rattle.usda_fields.specs.declared.field.ReferenceField.{ReferenceField}
use Rattle.usda_fields.specs.declared.field.ReferenceField.TheVariants as reference_field
use Rattle.usda_fields.specs.declared.field.TextField.{TextField}
use Rattle.usda_fields.specs.declared.field.TextField.TheVariants as text_field
use Rattle.usda_fields.specs.declared.owner.OwnerDraft.{OwnerDraft}
use Rattle.usda_grammar.specs.declared.kinds.Keyword.TheVariants as keyword
use Rattle.usda_grammar.specs.declared.symbols.Symbol.{Symbol}
use Rattle.usda_grammar.specs.declared.symbols.Symbol.TheVariants as symbol
use Rattle.usda_lists.specs.Lists.{open_list, with_list}
use Rattle.usda_lists.specs.References.{same_text, same_path, same_item}
use Rattle.usda_lists.specs.declared.edit.GivenLists.{GivenLists}
use Rattle.usda_lists.specs.declared.edit.ListEdit.{ListEdit}
use Rattle.usda_lists.specs.declared.offset.OffsetKey.{OffsetKey}
use Rattle.usda_statements.specs.OpenValues.{is_open}
use Rattle.usda_drafts.specs.Acts.{bodies_act, prims_act}
use Rattle.usda_drafts.specs.Lists.{in_list_act, in_references_act}
use Rattle.usda_drafts.specs.Metadata.{prim_item_act, edited_act, string_field_act, path_field_act, reference_field_act}
use Rattle.usda_drafts.specs.Values.{with_said}
use Rattle.usda_drafts.specs.declared.draft.Draft.{Draft}
use Rattle.usda_drafts.specs.declared.draft.OpenList.TheVariants as open_list_of
use Rattle.value_texts.specs.Cuts.{Said}
use Rattle.value_texts.specs.Each.{AreAll}
use Rattle.layer_texts.specs.ListWords.{string_words, path_words, reference_words, bracketed_words}
use Rattle.layer_reads.specs.FieldLists.{with_field_list, IsPathHere}
use Rattle.layer_reads.specs.Taking.{AreTaken}
use Rattle.layer_reads.proofs.FieldLists.{strings_taken, paths_taken, list_again}
use Rattle.layer_reads.proofs.Taking.{weaker}
use Rattle.layer_reads.specs.Lists.{IsString}
use Rattle.layer_reads.specs.Fields.{text_word, path_word, reference_word, with_strings, with_path_lists, with_references, IsReferenceHere, AreListsRead}
use Rattle.layer_reads.proofs.EditedLists.{IsListField, list_items}
use Rattle.layer_reads.proofs.References.{references_taken}

-- a list that is taken by itself, as one of an owner of which this is said
module _ {T : Type 0} (lists : Symbol) (g : T → List Said) (at : OwnerDraft → ListOp T) (with : ListOp T → OwnerDraft → OwnerDraft) (put : ListOp T → GivenLists → OwnerDraft → OwnerDraft)
    (at_put : (op : ListOp T) (m : GivenLists) (s : OwnerDraft) → at (put op m s) ≡ op) (with_put : (a op : ListOp T) (m : GivenLists) (s : OwnerDraft) → with a (put op m s) ≡ put a m s)
    (edit : ListEdit) (op : ListOp T) (m : GivenLists) (s : OwnerDraft) (d : Draft) (edits : d.edit ≡ edit) (said : d.owner.said ≡ put (open_list edit op) m s) where
  holds : (ys : List T) → with_field_list at with ys d ≡ with_said d (put (with_list edit ys op) m s)
  holds ys =
      ap (λ e. with_said d (with (with_list e ys (at d.owner.said)) d.owner.said)) edits
      ∙ ap (λ u. with_said d (with (with_list edit ys (at u)) u)) said
      ∙ ap (λ o. with_said d (with (with_list edit ys o) (put (open_list edit op) m s))) (at_put (open_list edit op) m s)
      ∙ ap (λ u. with_said d u) (with_put (with_list edit ys (open_list edit op)) (open_list edit op) m s ∙ ap (λ o. put o m s) (list_again edit [] ys op))

  as_said : (words : List Said) (ys : List T) → AreTaken (lists ∷ []) (with_field_list at with [] d) words [] (λ e. e ≡ with_field_list at with ys d)
      → AreTaken (lists ∷ []) d words [] (λ e. (k : OffsetKey) × (e ≡ record (with_said d (put (with_list edit ys op) m s)) { offset_key = k }))
  as_said words ys h =
      weaker (lists ∷ []) [] d words (λ e. e ≡ with_field_list at with ys d) (λ e. (k : OffsetKey) × (e ≡ record (with_said d (put (with_list edit ys op) m s)) { offset_key = k }))
      (subst (λ e. AreTaken (lists ∷ []) e words [] (λ e. e ≡ with_field_list at with ys d)) (holds [] ∙ ap (λ u. with_said d u) (sym said)) h) (λ e k. (d.offset_key, k ∙ holds ys))

-- ---- strings

text_at_put : (field : TextField) (op : ListOp (List ℕ)) (m : GivenLists) (s : OwnerDraft) → texts_at field (with_strings field op m s) ≡ op
text_at_put text_field.VariantSets op m s = refl
text_at_put text_field.ApiSchemas op m s = refl
text_at_put text_field.ClipSets op m s = refl

text_put_put : (field : TextField) (a op : ListOp (List ℕ)) (m : GivenLists) (s : OwnerDraft) → with_texts field a (with_strings field op m s) ≡ with_strings field a m s
text_put_put text_field.VariantSets a op m s = refl
text_put_put text_field.ApiSchemas a op m s = refl
text_put_put text_field.ClipSets a op m s = refl

text_items : (field : TextField) (edit : ListEdit) (op : ListOp (List ℕ)) (m : GivenLists) (s : OwnerDraft) (d : Draft) → is_open d.value ≡ false → d.list ≡ open_list_of.Field (Texts field) → d.edit ≡ edit
    → d.owner.said ≡ with_strings field (open_list edit op) m s → (x : List ℕ) (xs : List (List ℕ)) → AreAll (IsString s.base) (x ∷ xs)
    → AreTaken (symbol.StringList ∷ []) d (bracketed_words string_words (x ∷ xs)) [] (λ e. (k : OffsetKey) × (e ≡ record (with_said d (with_strings field (with_list edit (firsts same_text (x ∷ xs)) op) m s)) { offset_key = k }))
text_items field edit op m s d shut listed edits said x xs h =
    as_said symbol.StringList string_words (texts_at field) (with_texts field) (with_strings field) (text_at_put field) (text_put_put field) edit op m s d edits said (bracketed_words string_words (x ∷ xs)) (firsts same_text (x ∷ xs))
    (strings_taken field d shut listed x xs h)

text_is : (field : TextField) → IsListField keyword.StringField symbol.StringList (text_word field) (Texts field) same_text string_words IsString (with_strings field)
unfolding bodies_act prims_act prim_item_act edited_act string_field_act in_list_act
text_is text_field.VariantSets = record {
  is_word = refl;
  opens = λ edit op m s. refl;
  starts_it = λ below. refl;
  starts_edited = λ below. refl;
  acts = λ w d. refl;
  acts_edited = λ w d. refl;
  none_step = λ below. refl;
  none_acts = λ w d. refl;
  items = text_items text_field.VariantSets;
}
text_is text_field.ApiSchemas = record {
  is_word = refl;
  opens = λ edit op m s. refl;
  starts_it = λ below. refl;
  starts_edited = λ below. refl;
  acts = λ w d. refl;
  acts_edited = λ w d. refl;
  none_step = λ below. refl;
  none_acts = λ w d. refl;
  items = text_items text_field.ApiSchemas;
}
text_is text_field.ClipSets = record {
  is_word = refl;
  opens = λ edit op m s. refl;
  starts_it = λ below. refl;
  starts_edited = λ below. refl;
  acts = λ w d. refl;
  acts_edited = λ w d. refl;
  none_step = λ below. refl;
  none_acts = λ w d. refl;
  items = text_items text_field.ClipSets;
}

pub strings_read : (field : TextField) → AreListsRead (text_word field) same_text string_words IsString (with_strings field)
strings_read field op s at h = list_items keyword.StringField symbol.StringList (text_word field) (Texts field) same_text string_words IsString (with_strings field) (text_is field) s at op h

-- ---- paths

path_at_put : (field : PathField) (op : ListOp (List Element)) (m : GivenLists) (s : OwnerDraft) → paths_at field (with_path_lists field op m s) ≡ op
path_at_put path_field.Inherits op m s = refl
path_at_put path_field.Specializes op m s = refl

path_put_put : (field : PathField) (a op : ListOp (List Element)) (m : GivenLists) (s : OwnerDraft) → with_paths field a (with_path_lists field op m s) ≡ with_path_lists field a m s
path_put_put path_field.Inherits a op m s = refl
path_put_put path_field.Specializes a op m s = refl

path_base : (field : PathField) (op : ListOp (List Element)) (m : GivenLists) (s : OwnerDraft) → (with_path_lists field op m s).base ≡ s.base
path_base path_field.Inherits op m s = refl
path_base path_field.Specializes op m s = refl

path_items : (field : PathField) (edit : ListEdit) (op : ListOp (List Element)) (m : GivenLists) (s : OwnerDraft) (d : Draft) → is_open d.value ≡ false → d.list ≡ open_list_of.Field (Paths field) → d.edit ≡ edit
    → d.owner.said ≡ with_path_lists field (open_list edit op) m s → (x : List Element) (xs : List (List Element)) → AreAll (IsPathHere s.base) (x ∷ xs)
    → AreTaken (symbol.PathList ∷ []) d (bracketed_words path_words (x ∷ xs)) [] (λ e. (k : OffsetKey) × (e ≡ record (with_said d (with_path_lists field (with_list edit (firsts same_path (x ∷ xs)) op) m s)) { offset_key = k }))
path_items field edit op m s d shut listed edits said x xs h =
    let base : d.owner.said.base ≡ s.base = ap (λ (u : OwnerDraft). u.base) said ∙ path_base field (open_list edit op) m s in
    as_said symbol.PathList path_words (paths_at field) (with_paths field) (with_path_lists field) (path_at_put field) (path_put_put field) edit op m s d edits said (bracketed_words path_words (x ∷ xs)) (firsts same_path (x ∷ xs))
    (paths_taken field d shut listed x xs (subst (λ b. AreAll (IsPathHere b) (x ∷ xs)) (sym base) h))

path_is : (field : PathField) → IsListField keyword.PathField symbol.PathList (path_word field) (Paths field) same_path path_words IsPathHere (with_path_lists field)
unfolding bodies_act prims_act prim_item_act edited_act path_field_act in_list_act
path_is path_field.Inherits = record {
  is_word = refl;
  opens = λ edit op m s. refl;
  starts_it = λ below. refl;
  starts_edited = λ below. refl;
  acts = λ w d. refl;
  acts_edited = λ w d. refl;
  none_step = λ below. refl;
  none_acts = λ w d. refl;
  items = path_items path_field.Inherits;
}
path_is path_field.Specializes = record {
  is_word = refl;
  opens = λ edit op m s. refl;
  starts_it = λ below. refl;
  starts_edited = λ below. refl;
  acts = λ w d. refl;
  acts_edited = λ w d. refl;
  none_step = λ below. refl;
  none_acts = λ w d. refl;
  items = path_items path_field.Specializes;
}

pub paths_read : (field : PathField) → AreListsRead (path_word field) same_path path_words IsPathHere (with_path_lists field)
paths_read field op s at h = list_items keyword.PathField symbol.PathList (path_word field) (Paths field) same_path path_words IsPathHere (with_path_lists field) (path_is field) s at op h

-- ---- references and payloads

reference_is : (field : ReferenceField) → IsListField keyword.ReferenceField symbol.ReferenceList (reference_word field) (References field) same_item reference_words IsReferenceHere (with_references field)
unfolding bodies_act prims_act prim_item_act edited_act reference_field_act in_references_act
reference_is reference_field.References = record {
  is_word = refl;
  opens = λ edit op m s. refl;
  starts_it = λ below. refl;
  starts_edited = λ below. refl;
  acts = λ w d. refl;
  acts_edited = λ w d. refl;
  none_step = λ below. refl;
  none_acts = λ w d. refl;
  items = λ edit op m s d shut listed edits said. references_taken reference_field.References edit op m s d shut listed edits said;
}
reference_is reference_field.Payload = record {
  is_word = refl;
  opens = λ edit op m s. refl;
  starts_it = λ below. refl;
  starts_edited = λ below. refl;
  acts = λ w d. refl;
  acts_edited = λ w d. refl;
  none_step = λ below. refl;
  none_acts = λ w d. refl;
  items = λ edit op m s d shut listed edits said. references_taken reference_field.Payload edit op m s d shut listed edits said;
}

pub references_read : (field : ReferenceField) → AreListsRead (reference_word field) same_item reference_words IsReferenceHere (with_references field)
references_read field op s at h =
    list_items keyword.ReferenceField symbol.ReferenceList (reference_word field) (References field) same_item reference_words IsReferenceHere (with_references field) (reference_is field) s at op h
