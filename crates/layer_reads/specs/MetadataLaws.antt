-- What holds of the words of metadata, as they are taken.
use Rattle.usda_fields.specs.declared.field.PathField.{PathField}
use Rattle.usda_fields.specs.declared.field.ReferenceField.{ReferenceField}
use Rattle.usda_fields.specs.declared.field.TextField.{TextField}
use Rattle.usda_lists.specs.References.{same_text, same_path, same_item}
use Rattle.layer_texts.specs.ListWords.{string_words, path_words, reference_words}
use Rattle.usda_grammar.specs.declared.symbols.Symbol.TheVariants as symbol
use Rattle.layer_reads.specs.FieldLists.{IsPathHere}
use Rattle.layer_reads.specs.Keys.{is_plain_key, is_plain_head_key}
use Rattle.layer_reads.specs.Lists.{IsString}
use Rattle.layer_reads.specs.Fields.{text_word, path_word, reference_word, with_strings, with_path_lists, with_references, IsReferenceHere, AreListsRead}
use Rattle.layer_reads.specs.Meta.{AreMetaRead}
use Rattle.layer_reads.specs.Selections.{AreSelectionsRead}
use Rattle.layer_reads.specs.Sublayers.{AreSublayersRead}
use Rattle.layer_reads.specs.Specs.{IsMetadataRead, IsBlockRead}

-- the lists of the fields of a prim or a variant: explicit ones, and those of edits
pub record AreFieldsRead : Type 0 where
  pub strings : (field : TextField) → AreListsRead (text_word field) same_text string_words IsString (with_strings field)
  pub paths : (field : PathField) → AreListsRead (path_word field) same_path path_words IsPathHere (with_path_lists field)
  pub references : (field : ReferenceField) → AreListsRead (reference_word field) same_item reference_words IsReferenceHere (with_references field)

-- metadata of a prim or a variant, and of a layer: the comment, keys and their values, selected variants and sublayers
pub record AreKeysRead : Type 0 where
  pub prim : AreMetaRead symbol.PrimMetadata is_plain_key
  pub layer : AreMetaRead symbol.HeadItems is_plain_head_key
  pub selections : AreSelectionsRead
  pub sublayers : AreSublayersRead

-- the metadata of a prim or a variant as a whole, and between its brackets
pub record IsPrimMetadataRead : Type 0 where
  pub items : IsMetadataRead
  pub block : IsBlockRead
