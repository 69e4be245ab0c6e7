-- Properties in the making, and those of an owner: what their statements have said so far is proper.
use Rattle.std.specs.Prelude.{◌≡◌, ℕ, true, List, Option, Some, None, unwrap_or}
use Rattle.sdf_paths.specs.Order.{text_cmp}
use Rattle.spec_properties.specs.Properties.{AreProperties, property_name}
use Rattle.spec_properties.specs.declared.property.Property.{Property}
use Rattle.spec_tables.specs.Tables.{at_key}
use Rattle.usda_statements.specs.PropertyDrafts.{no_marks}
use Rattle.usda_statements.specs.declared.property.PropertyDraft.{PropertyDraft}
use Rattle.usda_statements.specs.declared.property.PropertyMarks.{PropertyMarks}
use Rattle.layer_texts.specs.Writable.{is_word}
use Rattle.layer_reads.specs.Properties.{is_any_key, Marks}
use Rattle.value_returns.specs.Proper.{IsProperMeta, IsProperProperty}
use Rattle.value_texts.specs.Each.{AreAll}
use Rattle.trees_read.specs.Lists.{paths_of}
use Rattle.properties_read.specs.Targets.{Reading, IsApart, AreGiven, AreLists}
use Rattle.properties_read.specs.Values.{AreValuesOf}

-- The property of the statement in hand: it has a name, its values, its lists and its metadata are proper so far.
pub record IsSoundProperty (r : Reading) (p : PropertyDraft) : Type 0 where
  pub named : is_word p.name ≡ true
  pub valued : AreValuesOf p.ty p.default p.samples
  pub listed : AreLists r p.edit p.marks.lists p.paths
  pub said : IsProperMeta is_any_key p.meta

-- a property that is read, of whose lists these were given
pub record IsRead (marks : PropertyMarks) (p : Property) : Type 0 where
  pub proper : IsProperProperty p
  pub listed : AreGiven marks.lists (paths_of p)

-- nothing is said so far, or a property is read
abbrev pub IsReadSoFar : PropertyMarks → Option Property → Type 0
IsReadSoFar marks None = Unit {0}
IsReadSoFar marks (Some p) = IsRead marks p

-- what was given once of the property of a name; nothing where no statement was on it
abbrev pub marks_in : Marks → List ℕ → PropertyMarks
marks_in marks name = unwrap_or (at_key text_cmp name marks) no_marks

-- The properties of an owner: each name stands once, each property is proper, and its lists are those that are marked.
pub record AreRead (properties : List Property) (marks : Marks) : Type 0 where
  pub once : AreProperties properties
  pub each : AreAll (λ p. IsRead (marks_in marks (property_name p)) p) properties
  pub marked : AreAll (λ e. IsApart e.1.lists) marks
