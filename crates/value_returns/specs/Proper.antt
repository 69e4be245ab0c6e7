-- Values, metadata and properties that come back from their text, wherever they stand.
use Rattle.std.specs.Prelude.{◌≡◌, ◌≤◌, ◌^◌, ℕ, ℤ, Bool, true, false, List, Option, Some, None, Ok, unsigned_abs}
use Rattle.std.specs.Ordering.{int_cmp}
use Rattle.list_ops.specs.declared.op.ListOp.{ListOp}
use Rattle.sdf_paths.specs.Order.{text_cmp}
use Rattle.sdf_paths.specs.Paths.{IsPath, is_plain}
use Rattle.sdf_paths.specs.declared.element.Element.{Element}
use Rattle.sdf_values.specs.Conforms.{conforms}
use Rattle.sdf_values.specs.declared.type_name.TypeName.{TypeName}
use Rattle.sdf_values.specs.declared.value.Value.{Value}
use Rattle.spec_properties.specs.Entries.{MetaEntries, SampleEntries}
use Rattle.spec_properties.specs.declared.property.Property.{Property}
use Rattle.spec_properties.specs.declared.property.Property.TheVariants.{Attr, Rel}
use Rattle.spec_tables.specs.Tables.{IsTable}
use Rattle.usda_fields.specs.Keys.{key_rule, rule_shape, judged}
use Rattle.usda_grammar.specs.Words.{keyword_of}
use Rattle.usda_grammar.specs.declared.kinds.Keyword.{Keyword}
use Rattle.usda_lists.specs.References.{same_path}
use Rattle.usda_writer.specs.Fields.{is_comment}
use Rattle.value_texts.specs.Readable.{is_read_as, depth}
use Rattle.value_texts.specs.Writable.{is_writable}
use Rattle.value_texts.specs.Each.{AreAll}
use Rattle.layer_texts.specs.Writable.{is_word}
use Rattle.text_checks.specs.Utf8.{is_utf8_value}
use Rattle.layer_reads.specs.Kept.{IsListKept}
use Rattle.layer_reads.specs.Meta.{IsCommentKept}
use Rattle.layer_reads.specs.Properties.{is_any_key}
use Rattle.value_returns.specs.FullPaths.{has_full_paths}

-- a value of the type, or the block, that can be written, with assets that are UTF-8
pub record IsProperValue (ty : TypeName) (v : Value) : Type 0 where
  pub typed : conforms v ty ≡ true
  pub writable : is_writable v ≡ true
  pub utf8 : is_utf8_value v ≡ true

-- no default, or a value
abbrev pub IsProperDefault : TypeName → Option Value → Type 0
IsProperDefault ty None = Unit {0}
IsProperDefault ty (Some v) = IsProperValue ty v

-- a time within 10^12, and a value
abbrev pub IsProperSample : TypeName → ℤ × Value → Type 0
IsProperSample ty s = (unsigned_abs s.0 ≤ 10 ^ 30) × IsProperValue ty s.1

-- A key that is a name and no word of a field there, and a value that the key takes, that can be written and is read where the key's
-- value is expected, whose tuples, arrays and dictionaries are at most 64 deep, whose paths are from the root down, and whose assets
-- and paths are UTF-8.
pub record IsProperKey (is_name : Keyword → Bool) (key : List ℕ) (v : Value) : Type 0 where
  pub word : is_word key ≡ true
  pub name : is_name (keyword_of key) ≡ true
  pub taken : judged (key_rule key) v ≡ Ok v
  pub writable : is_writable v ≡ true
  pub read : is_read_as v (rule_shape (key_rule key)) true ≡ true
  pub deep : depth v ≤ 64
  pub full : has_full_paths v ≡ true
  pub utf8 : is_utf8_value v ≡ true

-- the comment, a string, or another key
abbrev pub IsProperAs : Bool → (Keyword → Bool) → List ℕ → Value → Type 0
IsProperAs true is_name key v = IsCommentKept v
IsProperAs false is_name key v = IsProperKey is_name key v

-- a key with its value
abbrev pub IsProperEntry : (Keyword → Bool) → List ℕ × Value → Type 0
IsProperEntry is_name e = IsProperAs (is_comment e.0) is_name e.0 e.1

-- keys in byte order, each once
pub record IsProperMeta (is_name : Keyword → Bool) (meta : MetaEntries) : Type 0 where
  pub ordered : IsTable text_cmp meta
  pub each : AreAll (IsProperEntry is_name) meta

-- a path without selections
pub record IsProperTarget (path : List Element) : Type 0 where
  pub formed : IsPath path
  pub plain : is_plain path ≡ true

-- an explicit list or edits, with each target once in a list
abbrev pub AreProperTargets : ListOp (List Element) → Type 0
AreProperTargets op = IsListKept same_path IsProperTarget op

-- a name, a default, samples in the order of their times, each time once, connections and metadata
pub record IsProperAttribute (name : List ℕ) (ty : TypeName) (default : Option Value) (samples : SampleEntries) (connections : ListOp (List Element)) (meta : MetaEntries) : Type 0 where
  pub named : is_word name ≡ true
  pub defaulted : IsProperDefault ty default
  pub times : IsTable int_cmp samples
  pub sampled : AreAll (IsProperSample ty) samples
  pub connected : AreProperTargets connections
  pub said : IsProperMeta is_any_key meta

-- a name, targets and metadata
pub record IsProperRelationship (name : List ℕ) (targets : ListOp (List Element)) (meta : MetaEntries) : Type 0 where
  pub named : is_word name ≡ true
  pub related : AreProperTargets targets
  pub said : IsProperMeta is_any_key meta

-- what a property says; its type and its variability are as they may be
abbrev pub IsProperProperty : Property → Type 0
IsProperProperty (Attr name ty custom uniform default samples connections meta) = IsProperAttribute name ty default samples connections meta
IsProperProperty (Rel name custom targets meta) = IsProperRelationship name targets meta
