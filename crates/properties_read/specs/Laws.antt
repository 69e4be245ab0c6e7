-- Each property that the statements of a text make is proper.
use Rattle.std.specs.Prelude.{◌≡◌, ◌≤◌, ◌^◌, ℕ, ℤ, true, List, [], Option, Some, Ok, unsigned_abs}
use Rattle.std.specs.Str.{is_utf8}
use Rattle.sdf_paths.specs.Paths.{IsPath}
use Rattle.sdf_paths.specs.declared.element.Element.{Element}
use Rattle.sdf_values.specs.declared.type_name.TypeName.{TypeName}
use Rattle.sdf_values.specs.declared.value.Value.{Value}
use Rattle.spec_properties.specs.Properties.{AreProperties}
use Rattle.spec_properties.specs.declared.property.Property.{Property}
use Rattle.usda_lexer.specs.Meanings.{number_of, path_text}
use Rattle.usda_lists.specs.Paths.{target_from}
use Rattle.usda_statements.specs.PropertyDrafts.{joined, property_of, is_in_hand, default_act, with_default, samples_act, with_sample, list_act, path_act, with_list_closed, meta_comment_act, meta_act}
use Rattle.usda_statements.specs.declared.heading.Heading.{Heading}
use Rattle.usda_statements.specs.declared.property.PropertyDraft.{PropertyDraft}
use Rattle.usda_statements.specs.declared.property.PropertyMarks.{PropertyMarks}
use Rattle.usda_values.specs.declared.shape.Shape.TheVariants.{Typed}
use Rattle.value_texts.specs.Readable.{is_read_as}
use Rattle.value_texts.specs.Writable.{is_writable}
use Rattle.value_texts.specs.Each.{AreAll}
use Rattle.layer_texts.specs.Writable.{is_word}
use Rattle.text_checks.specs.Utf8.{is_utf8_value}
use Rattle.value_returns.specs.Proper.{IsProperValue, IsProperProperty, IsProperTarget}
use Rattle.usda_drafts.specs.Owners.{property_for, with_place, settled}
use Rattle.usda_drafts.specs.Values.{time_of_number}
use Rattle.usda_drafts.specs.declared.owner.Owner.{Owner}
use Rattle.properties_read.specs.Sound.{IsSoundProperty, IsReadSoFar, AreRead}
use Rattle.properties_read.specs.Targets.{Reading, closed, begun, bracketed}
use Rattle.properties_read.specs.Values.{IsValueOf}
use Rattle.layer_reads.specs.Properties.{is_any_key}
use Rattle.fields_read.specs.Laws.{IsReadFor}

-- a target or a connection that a text means in the statements of a prim is a path without selections
abbrev pub TargetsAreProper : Type 0
TargetsAreProper = (base : List Element) (text : List ℕ) (path : List Element) → IsPath base → is_utf8 text ≡ true → target_from base text ≡ Some path → IsProperTarget path

-- the time that a number token of a sample means is within 10^12
abbrev pub TimesAreNear : Type 0
TimesAreNear = (token : List ℕ) (time : ℤ) → time_of_number (number_of token) ≡ Ok time → unsigned_abs time ≤ 10 ^ 30

-- a value that is read where a type is expected is a value of the type
abbrev pub TypedValuesAreProper : Type 0
TypedValuesAreProper = (ty : TypeName) (v : Value) → is_read_as v (Typed ty) true ≡ true → is_writable v ≡ true → is_utf8_value v ≡ true → IsProperValue ty v

-- What each part of a statement makes of a property whose parts are proper so far is such a property, and is a proper property once no
-- list of it is open.
pub record ReadPropertiesAreProper : Type 0 where
  -- the first statement on a property, or a further one on one that is read
  pub named : (h : Heading) (name : List ℕ) (marks : PropertyMarks) (before : Option Property) (p : PropertyDraft)
      → is_word name ≡ true → IsReadSoFar marks before → joined h name marks before ≡ Ok p → IsSoundProperty closed p
  -- the `=` of a default, and its value
  pub default_begun : (r : Reading) (p next : PropertyDraft) → IsSoundProperty r p → default_act p ≡ Ok next → IsSoundProperty r next
  pub defaulted : (r : Reading) (p : PropertyDraft) (v : Value) → IsSoundProperty r p → IsValueOf p.ty v → IsSoundProperty r (with_default v p)
  -- the word `timeSamples`, and a sample
  pub samples_begun : (r : Reading) (p next : PropertyDraft) → IsSoundProperty r p → samples_act p ≡ Ok next → IsSoundProperty r next
  pub sampled : (r : Reading) (p : PropertyDraft) (time : ℤ) (v : Value)
      → IsSoundProperty r p → unsigned_abs time ≤ 10 ^ 30 → IsValueOf p.ty v → IsSoundProperty r (with_sample time v p)
  -- a list of targets or connections: `None`, one path, or paths between brackets
  pub list_begun : (p next : PropertyDraft) → IsSoundProperty closed p → list_act p ≡ Ok next → IsSoundProperty begun next
  pub list_none : (p : PropertyDraft) → IsSoundProperty begun p → IsSoundProperty closed p
  pub path_alone : (base : List Element) (token : List ℕ) (p next : PropertyDraft)
      → IsPath base → is_utf8 (path_text token) ≡ true → IsSoundProperty begun p → path_act base token p ≡ Ok next → IsSoundProperty closed next
  pub list_opened : (p : PropertyDraft) → IsSoundProperty begun p → IsSoundProperty bracketed p
  pub path : (base : List Element) (token : List ℕ) (p next : PropertyDraft)
      → IsPath base → is_utf8 (path_text token) ≡ true → IsSoundProperty bracketed p → path_act base token p ≡ Ok next → IsSoundProperty bracketed next
  pub list_closed : (p : PropertyDraft) → IsSoundProperty bracketed p → IsSoundProperty closed (with_list_closed p)
  -- metadata: a string that stands alone, and the value of a key
  pub commented : (r : Reading) (token : List ℕ) (p next : PropertyDraft) → IsSoundProperty r p → meta_comment_act token p ≡ Ok next → IsSoundProperty r next
  pub keyed : (r : Reading) (key : List ℕ) (v : Value) (p next : PropertyDraft) → IsSoundProperty r p → IsReadFor is_any_key key v → meta_act key v p ≡ Ok next → IsSoundProperty r next
  -- the property that the statements make
  pub complete : (p : PropertyDraft) → IsSoundProperty closed p → IsProperProperty (property_of p)

-- The properties of an owner while its statements are read: they are proper, each name stands once, and a property that is in hand has a
-- place that a blank relationship keeps.
pub record OwnersAreRead : Type 0 where
  -- an owner of which nothing is said
  pub none : AreRead [] []
  -- the name of a property
  pub taken : (h : Heading) (name : List ℕ) (o : Owner) (p : PropertyDraft)
      → is_word name ≡ true → AreRead o.properties o.marks → property_for h name o ≡ Ok p → IsSoundProperty closed p
  pub placed : (name : List ℕ) (o : Owner) → is_word name ≡ true → AreRead o.properties o.marks → AreRead (with_place name o).properties (with_place name o).marks
  -- the end of a statement, where a property is in hand or none is
  pub settled : (p : PropertyDraft) (o : Owner)
      → (is_in_hand p ≡ true → IsSoundProperty closed p) → AreRead o.properties o.marks → AreRead (settled p o).properties (settled p o).marks
  -- what the owner has then
  pub proper : (properties : List Property) (marks : List (List ℕ × PropertyMarks)) → AreRead properties marks → AreProperties properties × AreAll IsProperProperty properties
