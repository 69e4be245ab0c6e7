-- Metadata that comes back from its text.
use Rattle.std.specs.Prelude.{◌≡◌, ◌≤◌, ℕ, Bool, true, false, List, [], Ok}
use Rattle.std.specs.Str.{is_utf8}
use Rattle.sdf_paths.specs.Order.{text_cmp}
use Rattle.sdf_paths.specs.declared.element.Element.{Element}
use Rattle.sdf_values.specs.declared.value.Value.{Value}
use Rattle.sdf_values.specs.declared.value.Value.TheVariants.{Text}
use Rattle.spec_properties.specs.Entries.{MetaEntries}
use Rattle.spec_tables.specs.Tables.{IsTable}
use Rattle.usda_fields.specs.Keys.{key_rule, rule_shape, judged}
use Rattle.usda_grammar.specs.Words.{keyword_of}
use Rattle.usda_grammar.specs.declared.kinds.Keyword.{Keyword}
use Rattle.usda_writer.specs.Fields.{is_comment}
use Rattle.usda_fields.specs.Owners.{with_meta}
use Rattle.usda_fields.specs.declared.owner.OwnerDraft.{OwnerDraft}
use Rattle.usda_grammar.specs.declared.symbols.Symbol.{Symbol}
use Rattle.layer_texts.specs.FieldWords.{meta_words}
use Rattle.layer_reads.specs.Items.{AreItems}
use Rattle.layer_reads.specs.Standing.{Standing, saying, IsAt}
use Rattle.value_texts.specs.Readable.{is_read_as, depth}
use Rattle.value_texts.specs.ValueWords.{words_of_value}
use Rattle.value_texts.specs.Writable.{is_writable}
use Rattle.value_texts.specs.Each.{AreAll}
use Rattle.layer_reads.specs.Fixed.{AreFixed}
use Rattle.layer_reads.specs.Membered.{is_membered}

-- the comment is a string
pub record IsCommentKept (v : Value) : Type 0 where
  pub text : List ℕ
  pub is : v ≡ Text text
  pub utf8 : is_utf8 text ≡ true

-- a key that is a name there, and a value that the key takes and that is read as itself
pub record IsKeyKept (is_plain : Keyword → Bool) (base : List Element) (key : List ℕ) (v : Value) : Type 0 where
  pub plain : is_plain (keyword_of key) ≡ true
  pub taken : judged (key_rule key) v ≡ Ok v
  pub membered : is_membered v ≡ true
  pub writable : is_writable v ≡ true
  pub read : is_read_as v (rule_shape (key_rule key)) true ≡ true
  pub deep : depth v ≤ 64
  pub fixed : AreFixed base (words_of_value v)

-- the comment comes back as a string, any other key with its value
abbrev pub IsKeptAs : Bool → (Keyword → Bool) → List Element → List ℕ → Value → Type 0
IsKeptAs true is_plain base key v = IsCommentKept v
IsKeptAs false is_plain base key v = IsKeyKept is_plain base key v

-- a key and its value that come back
abbrev pub IsEntryKept : (Keyword → Bool) → List Element → List ℕ × Value → Type 0
IsEntryKept is_plain base e = IsKeptAs (is_comment e.0) is_plain base e.0 e.1

-- keys in byte order, each once
pub record IsMetaKept (is_plain : Keyword → Bool) (base : List Element) (meta : MetaEntries) : Type 0 where
  pub ordered : IsTable text_cmp meta
  pub each : AreAll (IsEntryKept is_plain base) meta

-- The words of the metadata of an owner, of which none is said yet, make the owner say it.
abbrev pub AreMetaRead : Symbol → (Keyword → Bool) → Type 0
AreMetaRead sym is_plain =
    (meta : MetaEntries) (s : OwnerDraft) (at : Standing) → IsMetaKept is_plain s.base meta → AreItems sym (meta_words meta) (IsAt (saying (with_meta [] s) at)) (IsAt (saying (with_meta meta s) at))
