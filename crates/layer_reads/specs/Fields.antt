-- What an owner says of a field, and what may stand in the lists of a field.
use Rattle.std.specs.Prelude.{ℕ, List, [], ◌∷◌, codes, Option, Some, None}
use Rattle.list_ops.specs.Blank.{no_edits}
use Rattle.list_ops.specs.declared.op.ListOp.{ListOp}
use Rattle.sdf_paths.specs.declared.element.Element.{Element}
use Rattle.sdf_values.specs.Scales.{IsOffset}
use Rattle.spec_parts.specs.declared.items.RefItem.{RefItem}
use Rattle.usda_fields.specs.Fields.{with_texts, with_paths, with_items, with_given_at}
use Rattle.usda_fields.specs.declared.field.ListField.TheVariants.{Paths, References, Texts}
use Rattle.usda_fields.specs.declared.field.PathField.{PathField}
use Rattle.usda_fields.specs.declared.field.PathField.TheVariants as path_field
use Rattle.usda_fields.specs.declared.field.ReferenceField.{ReferenceField}
use Rattle.usda_fields.specs.declared.field.ReferenceField.TheVariants as reference_field
use Rattle.usda_fields.specs.declared.field.TextField.{TextField}
use Rattle.usda_fields.specs.declared.field.TextField.TheVariants as text_field
use Rattle.usda_fields.specs.declared.owner.OwnerDraft.{OwnerDraft}
use Rattle.usda_grammar.specs.declared.symbols.Symbol.TheVariants as symbol
use Rattle.usda_lists.specs.Edits.{none_given}
use Rattle.usda_lists.specs.declared.edit.GivenLists.{GivenLists}
use Rattle.value_texts.specs.Cuts.{Said}
use Rattle.layer_texts.specs.FieldWords.{list_words}
use Rattle.layer_texts.specs.ListWords.{word}
use Rattle.layer_reads.specs.FieldLists.{IsPathHere}
use Rattle.layer_reads.specs.Items.{AreItems}
use Rattle.layer_reads.specs.Kept.{IsListKept, lists_of}
use Rattle.layer_reads.specs.Standing.{Standing, saying, IsAt}
use Rattle.std.specs.Prelude.{Bool}

-- the word of a field
abbrev pub text_word : TextField → List ℕ
text_word text_field.VariantSets = codes "variantSets"
text_word text_field.ApiSchemas = codes "apiSchemas"
text_word text_field.ClipSets = codes "clipSets"

-- `inherits` or `specializes`
abbrev pub path_word : PathField → List ℕ
path_word path_field.Inherits = codes "inherits"
path_word path_field.Specializes = codes "specializes"

-- `references` or `payload`
abbrev pub reference_word : ReferenceField → List ℕ
reference_word reference_field.References = codes "references"
reference_word reference_field.Payload = codes "payload"

-- an owner with these lists of a field, of which these were given
abbrev pub with_strings : TextField → ListOp (List ℕ) → GivenLists → OwnerDraft → OwnerDraft
with_strings field op lists s = with_texts field op (record s { given = with_given_at (Texts field) lists s.given })

-- the same for `inherits` and `specializes`
abbrev pub with_path_lists : PathField → ListOp (List Element) → GivenLists → OwnerDraft → OwnerDraft
with_path_lists field op lists s = with_paths field op (record s { given = with_given_at (Paths field) lists s.given })

-- the same for `references` and `payload`
abbrev pub with_references : ReferenceField → ListOp RefItem → GivenLists → OwnerDraft → OwnerDraft
with_references field op lists s = with_items field op (record s { given = with_given_at (References field) lists s.given })

-- what may stand in a list of the statements of this prim

-- the empty asset is none
abbrev pub IsAssetOrNone : Option (List ℕ) → Type 0
IsAssetOrNone None = Unit {0}
IsAssetOrNone (Some []) = ⊥
IsAssetOrNone (Some (c ∷ cs)) = Unit {0}

-- no path, or one whose text means it in the statements of this prim
abbrev pub IsPathOrNone : List Element → Option (List Element) → Type 0
IsPathOrNone base None = Unit {0}
IsPathOrNone base (Some path) = IsPathHere base path

-- an item of references or payloads: no empty asset, a path that means itself there, and an offset within its limits
pub record IsReferenceHere (base : List Element) (r : RefItem) : Type 0 where
  pub asset : IsAssetOrNone r.asset
  pub path : IsPathOrNone base r.path
  pub offset : IsOffset r.offset

-- The words of the lists of a field, of which nothing is said yet, make the owner say the lists.
abbrev pub AreListsRead : {T : Type 0} → List ℕ → (T → T → Bool) → (T → List Said) → (List Element → T → Type 0) → (ListOp T → GivenLists → OwnerDraft → OwnerDraft) → Type 0
AreListsRead {T} name same g W put =
    (op : ListOp T) (s : OwnerDraft) (at : Standing) → IsListKept same (W s.base) op
    → AreItems symbol.PrimMetadata (list_words (word name) g op) (IsAt (saying (put no_edits none_given s) at)) (IsAt (saying (put op (lists_of op) s) at))
