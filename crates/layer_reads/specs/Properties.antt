-- Properties that come back from their text.
use Rattle.std.specs.Prelude.{◌≡◌, ◌≤◌, ◌^◌, ℕ, ℤ, Bool, true, false, List, [], ◌∷◌, ◌++◌, Option, Some, None, unsigned_abs}
use Rattle.std.specs.Ordering.{int_cmp}
use Rattle.list_ops.specs.declared.op.ListOp.{ListOp}
use Rattle.sdf_paths.specs.Order.{text_cmp}
use Rattle.sdf_paths.specs.declared.element.Element.{Element}
use Rattle.sdf_values.specs.declared.type_name.TypeName.{TypeName}
use Rattle.sdf_values.specs.declared.value.Value.{Value}
use Rattle.spec_properties.specs.Entries.{MetaEntries, SampleEntries}
use Rattle.spec_properties.specs.Properties.{property_name, property_at, blank_relationship}
use Rattle.spec_properties.specs.declared.property.Property.{Property}
use Rattle.spec_properties.specs.declared.property.Property.TheVariants.{Attr, Rel}
use Rattle.spec_tables.specs.Tables.{IsTable, with_key}
use Rattle.usda_grammar.specs.declared.symbols.Symbol.TheVariants as symbol
use Rattle.usda_lexer.specs.Meanings.{path_text}
use Rattle.usda_lists.specs.Paths.{target_from}
use Rattle.usda_lists.specs.References.{same_path}
use Rattle.usda_statements.specs.OpenValues.{is_open}
use Rattle.usda_statements.specs.PropertyDrafts.{is_named}
use Rattle.usda_statements.specs.declared.property.PropertyDraft.{PropertyDraft}
use Rattle.usda_statements.specs.declared.property.PropertyMarks.{PropertyMarks}
use Rattle.usda_values.specs.declared.shape.Shape.TheVariants.{Typed}
use Rattle.usda_writer.specs.Texts.{path_text as path_token}
use Rattle.usda_drafts.specs.declared.draft.Draft.{Draft}
use Rattle.value_texts.specs.Readable.{is_read_as, depth}
use Rattle.value_texts.specs.ValueWords.{words_of_value}
use Rattle.value_texts.specs.Writable.{is_writable}
use Rattle.value_texts.specs.Each.{AreAll}
use Rattle.layer_texts.specs.PropertyWords.{property_words}
use Rattle.layer_reads.specs.Fixed.{AreFixed}
use Rattle.layer_reads.specs.Membered.{is_membered}
use Rattle.layer_reads.specs.Items.{AreItems}
use Rattle.layer_reads.specs.Kept.{IsListKept, lists_of, has_items}
use Rattle.layer_reads.specs.Meta.{IsMetaKept}
use Rattle.layer_reads.specs.Standing.{Standing, standing_of}
use Rattle.layer_reads.specs.Bodies.{Rests}
use Rattle.usda_grammar.specs.declared.kinds.Keyword.{Keyword}

-- what may be said once of each property of an owner, and was
abbrev pub Marks : Type 0
Marks = List (List ℕ × PropertyMarks)

-- A draft in which the property of this name is in hand, whose place is the last of the owner's properties.
pub record InHand (name : List ℕ) (at : Standing) (marks : Marks) (p : PropertyDraft) (d : Draft) : Type 0 where
  pub stands : standing_of d ≡ record at { owner = record at.owner { properties = at.owner.properties ++ blank_relationship name ∷ []; marks = marks } }
  pub hand : d.property ≡ p
  pub shut : is_open d.value ≡ false
  pub shallow : d.opening.is_too_deep ≡ false

-- the same with one property more, of which this was said
abbrev pub with_more : Property → PropertyMarks → Standing → Standing
with_more p marks at = record at { owner = record at.owner { properties = at.owner.properties ++ p ∷ []; marks = with_key text_cmp (property_name p) marks at.owner.marks } }

-- what is said of a property once it is read
abbrev pub marks_of : Property → PropertyMarks
marks_of (Attr name ty custom uniform default samples connections meta) = record { sampled = has_items samples; lists = lists_of connections }
marks_of (Rel name custom targets meta) = record { sampled = false; lists = lists_of targets }

-- ---- what comes back

-- the text of the path is read as the target
abbrev pub IsTargetHere : List Element → List Element → Type 0
IsTargetHere base path = target_from base (path_text (path_token path)) ≡ Some path

-- a value of a type
pub record IsValueKept (base : List Element) (ty : TypeName) (v : Value) : Type 0 where
  pub membered : is_membered v ≡ true
  pub writable : is_writable v ≡ true
  pub read : is_read_as v (Typed ty) true ≡ true
  pub deep : depth v ≤ 64
  pub fixed : AreFixed base (words_of_value v)

-- no default, or one of the type that comes back
abbrev pub IsDefaultKept : List Element → TypeName → Option Value → Type 0
IsDefaultKept base ty None = Unit {0}
IsDefaultKept base ty (Some v) = IsValueKept base ty v

-- a time within 10^12, and a value
abbrev pub IsSampleKept : List Element → TypeName → ℤ × Value → Type 0
IsSampleKept base ty s = (unsigned_abs s.0 ≤ 10 ^ 30) × IsValueKept base ty s.1

-- any name is a key of a property
abbrev pub is_any_key : Keyword → Bool
is_any_key w = true

-- a default and samples of the type, the samples in order of times and each time once, and connections and metadata that come back
pub record IsAttributeKept (base : List Element) (ty : TypeName) (v : Option Value) (s : SampleEntries) (op : ListOp (List Element)) (m : MetaEntries) : Type 0 where
  pub default : IsDefaultKept base ty v
  pub times : IsTable int_cmp s
  pub samples : AreAll (IsSampleKept base ty) s
  pub connections : IsListKept same_path (IsTargetHere base) op
  pub meta : IsMetaKept is_any_key base m

-- targets and metadata that come back
pub record IsRelationshipKept (base : List Element) (op : ListOp (List Element)) (m : MetaEntries) : Type 0 where
  pub targets : IsListKept same_path (IsTargetHere base) op
  pub meta : IsMetaKept is_any_key base m

-- a property that comes back in the statements of this prim
abbrev pub IsPropertyKept : List Element → Property → Type 0
IsPropertyKept base (Attr name ty custom uniform default samples connections meta) = IsAttributeKept base ty default samples connections meta
IsPropertyKept base (Rel name custom targets meta) = IsRelationshipKept base targets meta

-- the words of a property, whose name its owner does not have yet, make it the owner's last
abbrev pub IsPropertyRead : Type 0
IsPropertyRead =
    (p : Property) (at : Standing) → is_named (property_name p) ≡ true → property_at (property_name p) at.owner.properties ≡ None → IsPropertyKept at.owner.said.base p
    → AreItems symbol.PrimBody (property_words p) (Rests at) (Rests (with_more p (marks_of p) at))
