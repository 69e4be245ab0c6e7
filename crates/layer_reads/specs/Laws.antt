-- What holds of the words of a layer's parts, as they are taken.
use Rattle.std.specs.Prelude.{◌≡◌, ◌≤◌, ℕ, true, false, List, [], ◌∷◌, Ok}
use Rattle.sdf_values.specs.declared.value.Value.{Value}
use Rattle.usda_grammar.specs.declared.symbols.Symbol.TheVariants as symbol
use Rattle.usda_drafts.specs.declared.draft.Draft.{Draft}
use Rattle.std.specs.Str.{is_utf8}
use Rattle.list_ops.specs.ListEdits.{firsts}
use Rattle.sdf_paths.specs.declared.element.Element.{Element}
use Rattle.usda_fields.specs.Fields.{text_field, path_field, reference_field, texts_at, with_texts, paths_at, with_paths}
use Rattle.usda_fields.specs.declared.field.ListField.TheVariants.{Paths, References, Texts}
use Rattle.usda_fields.specs.declared.field.PathField.{PathField}
use Rattle.usda_fields.specs.declared.field.TextField.{TextField}
use Rattle.usda_lists.specs.References.{same_text, same_path}
use Rattle.usda_drafts.specs.declared.draft.OpenList.TheVariants as open_list
use Rattle.layer_texts.specs.ListWords.{bracketed_words, string_words, path_words}
use Rattle.layer_reads.specs.FieldLists.{with_field_list, IsPathHere}
use Rattle.layer_reads.specs.Keys.{IsLineTaken, is_plain_key, is_plain_head_key}
use Rattle.layer_reads.specs.Openings.{IsFieldOpened}
use Rattle.usda_grammar.specs.declared.kinds.Keyword.TheVariants as word
use Rattle.usda_drafts.specs.Values.{completed, is_selections}
use Rattle.usda_statements.specs.OpenValues.{no_value, is_open}
use Rattle.value_texts.specs.Readable.{is_read_as, depth}
use Rattle.value_texts.specs.Writable.{is_writable}
use Rattle.layer_reads.specs.Fixed.{AreFixed}
use Rattle.value_texts.specs.ValueWords.{words_of_value}
use Rattle.value_texts.specs.Each.{AreAll}
use Rattle.layer_reads.specs.Membered.{is_membered, AreSteps}
use Rattle.layer_reads.specs.Taking.{AreTaken}

-- the words of a value are a value to the grammar
abbrev pub AreValues : Type 0
AreValues = (v : Value) → is_membered v ≡ true → AreSteps (symbol.Value ∷ []) (words_of_value v) []

-- The words of a value, where one has to come, make of a draft what the value makes of it where it is complete. No value is open then, and
-- the value is no dictionary of selections.
abbrev pub ValuesAreTaken : Type 0
ValuesAreTaken =
    (v : Value) (d next : Draft) → is_open d.value ≡ false → is_selections d.aim.goal ≡ false → is_membered v ≡ true → is_writable v ≡ true → is_read_as v d.aim.shape true ≡ true → depth v ≤ 64
    → AreFixed d.owner.said.base (words_of_value v) → ((at : ℕ) → completed d.aim.goal v at (record d { value = no_value }) ≡ Ok next) → AreTaken (symbol.Value ∷ []) d (words_of_value v) [] (λ e. e ≡ next)

-- The words of a list of a field, from its bracket on, where its list was opened: the field gets the items, of those that are the same the
-- first.
pub record AreFieldListsTaken : Type 0 where
  pub strings : (field : TextField) (d : Draft) → is_open d.value ≡ false → d.list ≡ open_list.Field (Texts field) → (x : List ℕ) (xs : List (List ℕ)) → AreAll (λ t. is_utf8 t ≡ true) (x ∷ xs)
      → AreTaken (symbol.StringList ∷ []) (with_field_list (texts_at field) (with_texts field) [] d) (bracketed_words string_words (x ∷ xs)) []
      (λ e. e ≡ with_field_list (texts_at field) (with_texts field) (firsts same_text (x ∷ xs)) d)
  pub paths : (field : PathField) (d : Draft) → is_open d.value ≡ false → d.list ≡ open_list.Field (Paths field) → (x : List Element) (xs : List (List Element)) → AreAll (IsPathHere d.owner.said.base) (x ∷ xs)
      → AreTaken (symbol.PathList ∷ []) (with_field_list (paths_at field) (with_paths field) [] d) (bracketed_words path_words (x ∷ xs)) []
      (λ e. e ≡ with_field_list (paths_at field) (with_paths field) (firsts same_path (x ∷ xs)) d)

-- Lines of metadata, the first of an owner or another.
pub record AreLinesTaken : Type 0 where
  pub first_of_prim : IsLineTaken is_plain_key symbol.PrimMetadata (symbol.PrimMetadata ∷ [])
  pub of_prim : IsLineTaken is_plain_key symbol.PrimMetadata (symbol.MaybeSemicolon ∷ symbol.PrimMetadata ∷ [])
  pub first_of_layer : IsLineTaken is_plain_head_key symbol.HeadItems (symbol.HeadItems ∷ [])
  pub of_layer : IsLineTaken is_plain_head_key symbol.HeadItems (symbol.MaybeSemicolon ∷ symbol.HeadItems ∷ [])

-- The words with which an explicit list of a field begins, as the first of an owner or later.
pub record AreFieldsOpened : Type 0 where
  pub first_strings : IsFieldOpened word.StringField symbol.StringList (λ name. Texts (text_field name)) (symbol.PrimMetadata ∷ [])
  pub strings : IsFieldOpened word.StringField symbol.StringList (λ name. Texts (text_field name)) (symbol.MaybeSemicolon ∷ symbol.PrimMetadata ∷ [])
  pub first_paths : IsFieldOpened word.PathField symbol.PathList (λ name. Paths (path_field name)) (symbol.PrimMetadata ∷ [])
  pub paths : IsFieldOpened word.PathField symbol.PathList (λ name. Paths (path_field name)) (symbol.MaybeSemicolon ∷ symbol.PrimMetadata ∷ [])
  pub first_references : IsFieldOpened word.ReferenceField symbol.ReferenceList (λ name. References (reference_field name)) (symbol.PrimMetadata ∷ [])
  pub references : IsFieldOpened word.ReferenceField symbol.ReferenceList (λ name. References (reference_field name)) (symbol.MaybeSemicolon ∷ symbol.PrimMetadata ∷ [])
