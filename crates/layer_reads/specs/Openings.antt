-- How lists of fields begin.
use Rattle.std.specs.Prelude.{◌≡◌, ℕ, false, List, [], ◌∷◌, Ok}
use Rattle.usda_fields.specs.Fields as fields
use Rattle.usda_fields.specs.declared.field.ListField.{ListField}
use Rattle.usda_fields.specs.declared.owner.OwnerDraft.{OwnerDraft}
use Rattle.usda_grammar.specs.declared.kinds.Keyword.{Keyword}
use Rattle.usda_grammar.specs.declared.symbols.Symbol.{Symbol}
use Rattle.usda_grammar.specs.declared.symbols.Symbol.TheVariants as symbol
use Rattle.usda_grammar.specs.Words.{keyword_of}
use Rattle.usda_lists.specs.declared.edit.ListEdit.TheVariants.{Explicit}
use Rattle.usda_statements.specs.OpenValues.{is_open}
use Rattle.usda_drafts.specs.Metadata.{in_field}
use Rattle.usda_drafts.specs.declared.draft.Draft.{Draft}
use Rattle.value_texts.specs.ValueWords.{name_said, equals}
use Rattle.layer_reads.specs.Taking.{AreTaken}

-- The word of a field, which is of this kind, and `=` open the explicit list of the field, from these symbols on.
abbrev pub IsFieldOpened : Keyword → Symbol → (List ℕ → ListField) → List Symbol → Type 0
IsFieldOpened kind lists field from =
    (name : List ℕ) (d : Draft) (said : OwnerDraft) → keyword_of name ≡ kind → is_open d.value ≡ false → fields.field_act (field name) Explicit d.owner.said ≡ Ok said
    → AreTaken from d (name_said name ∷ equals ∷ []) (lists ∷ symbol.MaybeSemicolon ∷ symbol.PrimMetadata ∷ []) (λ e. e ≡ in_field (field name) Explicit d said)
