-- How lists of fields begin.
use Rattle.std.proofs.Common.{◌≡◌, ◌∙◌, ℕ, List, [], ◌∷◌, ◌++◌, Some, Ok, ap, sym, refl, subst}
use Rattle.usda_fields.specs.Fields as fields
use Rattle.usda_fields.specs.Fields.{text_field, path_field, reference_field}
use Rattle.usda_fields.specs.declared.field.ListField.{ListField}
use Rattle.usda_fields.specs.declared.field.ListField.TheVariants.{Paths, References, Texts}
use Rattle.usda_fields.specs.declared.owner.OwnerDraft.{OwnerDraft}
use Rattle.usda_grammar.specs.declared.kinds.Keyword.{Keyword}
use Rattle.usda_grammar.specs.declared.kinds.Keyword.TheVariants as word
use Rattle.usda_grammar.specs.declared.kinds.WordKind.TheVariants as token
use Rattle.usda_grammar.specs.declared.symbols.Symbol.{Symbol}
use Rattle.usda_grammar.specs.declared.symbols.Symbol.TheVariants as symbol
use Rattle.usda_grammar.specs.Machine.{step}
use Rattle.usda_lists.specs.declared.edit.ListEdit.TheVariants.{Explicit}
use Rattle.usda_words.specs.Words.{Word}
use Rattle.usda_drafts.specs.Acts.{bodies_act, prims_act}
use Rattle.usda_drafts.specs.Metadata.{prim_item_act, string_field_act, path_field_act, reference_field_act, field_act, in_field}
use Rattle.usda_drafts.specs.Refusals.{then_with}
use Rattle.usda_drafts.specs.declared.draft.Draft.{Draft}
use Rattle.value_texts.specs.ValueWords.{name_said, equals}
use Rattle.value_texts.specs.Words.{Told}
use Rattle.layer_reads.specs.Openings.{IsFieldOpened}
use Rattle.layer_reads.specs.Taking.{AreTaken}
use Rattle.layer_reads.proofs.FieldLists.{plain_act}
use Rattle.layer_reads.proofs.Taking.{taken_one, together}
use Rattle.layer_reads.proofs.Keys.{equals_act}

abbrev Behind : Symbol → List Symbol
Behind lists = symbol.Equals ∷ lists ∷ symbol.MaybeSemicolon ∷ symbol.PrimMetadata ∷ []

module _ (kind : Keyword) (lists : Symbol) (field : List ℕ → ListField) (acts : (w : Word) (d : Draft) → bodies_act symbol.PrimMetadata (record w { kind = token.Word kind }) d ≡ field_act (field w.text) Explicit w.start d) where
  named : (name : List ℕ) (at : ℕ) (d : Draft) (said : OwnerDraft) → fields.field_act (field name) Explicit d.owner.said ≡ Ok said → field_act (field name) Explicit at d ≡ Ok (in_field (field name) Explicit d said)
  unfolding field_act
  named name at d said h = ap (λ r. then_with at r (in_field (field name) Explicit d)) h

  field_opened : (from : List Symbol) → ((below : List Symbol) → step (from ++ below) (token.Word kind) ≡ Some (symbol.PrimMetadata, Behind lists ++ below)) → IsFieldOpened kind lists field from
  field_opened from goes name d said is shut given =
      let next : Draft = in_field (field name) Explicit d said in
      together from (Behind lists) (lists ∷ symbol.MaybeSemicolon ∷ symbol.PrimMetadata ∷ []) d (name_said name ∷ []) (equals ∷ []) (λ e. e ≡ next) (λ e. e ≡ next)
      (taken_one from (Behind lists) symbol.PrimMetadata d (name_said name) (λ e. e ≡ next) (λ below. ap (λ k. step (from ++ below) (token.Word k)) is ∙ goes below)
      (λ w told. (
        next,
        refl,
        plain_act symbol.PrimMetadata w (name_said name) d told shut
            ∙ ap (λ (t : Told). bodies_act symbol.PrimMetadata (record w { kind = t.kind }) d) told
            ∙ ap (λ k. bodies_act symbol.PrimMetadata (record w { kind = token.Word k }) d) is
            ∙ acts w d
            ∙ ap (λ (t : Told). field_act (field t.text) Explicit w.start d) told
            ∙ named name w.start d said given,
      )))
      (λ e h.
      subst (λ e. AreTaken (Behind lists) e (equals ∷ []) (lists ∷ symbol.MaybeSemicolon ∷ symbol.PrimMetadata ∷ []) (λ e. e ≡ next)) (sym h)
      (taken_one (Behind lists) (lists ∷ symbol.MaybeSemicolon ∷ symbol.PrimMetadata ∷ []) symbol.Equals next equals (λ e. e ≡ next) (λ below. refl)
      (λ w told. (next, refl, plain_act symbol.Equals w equals next told shut ∙ equals_act w next))))

string_word : (w : Word) (d : Draft) → bodies_act symbol.PrimMetadata (record w { kind = token.Word word.StringField }) d ≡ field_act (Texts (text_field w.text)) Explicit w.start d
unfolding bodies_act prims_act prim_item_act string_field_act
string_word w d = refl

path_word : (w : Word) (d : Draft) → bodies_act symbol.PrimMetadata (record w { kind = token.Word word.PathField }) d ≡ field_act (Paths (path_field w.text)) Explicit w.start d
unfolding bodies_act prims_act prim_item_act path_field_act
path_word w d = refl

reference_word : (w : Word) (d : Draft) → bodies_act symbol.PrimMetadata (record w { kind = token.Word word.ReferenceField }) d ≡ field_act (References (reference_field w.text)) Explicit w.start d
unfolding bodies_act prims_act prim_item_act reference_field_act
reference_word w d = refl

pub strings_opened : IsFieldOpened word.StringField symbol.StringList (λ name. Texts (text_field name)) (symbol.MaybeSemicolon ∷ symbol.PrimMetadata ∷ [])
strings_opened = field_opened word.StringField symbol.StringList (λ name. Texts (text_field name)) string_word (symbol.MaybeSemicolon ∷ symbol.PrimMetadata ∷ []) (λ below. refl)

pub first_strings_opened : IsFieldOpened word.StringField symbol.StringList (λ name. Texts (text_field name)) (symbol.PrimMetadata ∷ [])
first_strings_opened = field_opened word.StringField symbol.StringList (λ name. Texts (text_field name)) string_word (symbol.PrimMetadata ∷ []) (λ below. refl)

pub paths_opened : IsFieldOpened word.PathField symbol.PathList (λ name. Paths (path_field name)) (symbol.MaybeSemicolon ∷ symbol.PrimMetadata ∷ [])
paths_opened = field_opened word.PathField symbol.PathList (λ name. Paths (path_field name)) path_word (symbol.MaybeSemicolon ∷ symbol.PrimMetadata ∷ []) (λ below. refl)

pub first_paths_opened : IsFieldOpened word.PathField symbol.PathList (λ name. Paths (path_field name)) (symbol.PrimMetadata ∷ [])
first_paths_opened = field_opened word.PathField symbol.PathList (λ name. Paths (path_field name)) path_word (symbol.PrimMetadata ∷ []) (λ below. refl)

pub references_opened : IsFieldOpened word.ReferenceField symbol.ReferenceList (λ name. References (reference_field name)) (symbol.MaybeSemicolon ∷ symbol.PrimMetadata ∷ [])
references_opened = field_opened word.ReferenceField symbol.ReferenceList (λ name. References (reference_field name)) reference_word (symbol.MaybeSemicolon ∷ symbol.PrimMetadata ∷ []) (λ below. refl)

pub first_references_opened : IsFieldOpened word.ReferenceField symbol.ReferenceList (λ name. References (reference_field name)) (symbol.PrimMetadata ∷ [])
first_references_opened = field_opened word.ReferenceField symbol.ReferenceList (λ name. References (reference_field name)) reference_word (symbol.PrimMetadata ∷ []) (λ below. refl)
