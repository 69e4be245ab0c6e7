-- Questions on a composed prim, and the texts of their replies.
use Rattle.std.specs.Prelude.{true, false, codes, ℤ, List, [], ◌∷◌, ◌++◌, length, filter, flat_map, map, Option, Some, None}
use Rattle.std.specs.Fmt.{decimal}
use Rattle.sdf_paths.specs.Paths.{printed}
use Rattle.spec_properties.specs.Entries.{SampleEntries}
use Rattle.sdf_values.specs.Print.{quoted, asset_text}
use Rattle.sdf_values.specs.declared.value.Value.{Value}
use Rattle.composition.specs.Texts.{Text, same_text}
use Rattle.composition.specs.Paths.{Path, limits}
use Rattle.composition.specs.World.{World, first_layer}
use Rattle.composition.specs.Values.{value_at}
use Rattle.composition.specs.Views.{PrimView, PropertyView, attribute, relationship, view}
use Rattle.composition.specs.Opinions.{Site}
use Rattle.composition.specs.Printing.{fault_text}

-- a question whose reply is compared as text
pub data Question : Type 0 where
  children : Question
  sites : Question
  faults : Question

-- a question on a property, and its answer as a value: texts of values do not compute
pub data Asked : Type 0 where
  value_at_time : Text → ℤ → Asked
  default : Text → Asked
  samples : Text → Asked
  targets : Text → Asked

-- the answer on a property: a value, samples or targets, or why there is none
pub data Answer : Type 0 where
  no_property : Answer
  no_value : Answer
  is_value : Value → Answer
  are_samples : SampleEntries → Answer
  are_targets : List Path → Answer

-- texts that follow another, each behind a comma
abbrev pub more : {T : Type 0} → (T → Text) → List T → Text
more f [] = []
more f (x ∷ xs) = codes ", " ++ f x ++ more f xs

-- texts with commas between
abbrev pub joined : {T : Type 0} → (T → Text) → List T → Text
joined f [] = []
joined f (x ∷ xs) = f x ++ more f xs

-- a list in brackets
abbrev pub in_brackets : {T : Type 0} → (T → Text) → List T → Text
in_brackets f xs = codes "[" ++ joined f xs ++ codes "]"

-- a line of its own, behind two spaces
abbrev pub line : Text → Text
line t = codes "\n  " ++ t

-- a site by the first layer of its stack, or the root layer for the root stack, and its path
abbrev pub site_text : World → Site → Text
site_text w s = asset_text (first_layer w s.stack) ++ codes " " ++ printed s.path

-- how many lines there are, and then each
abbrev pub counted : List Text → Text
counted lines = decimal (length lines) ++ flat_map line lines

-- the property of a name, if the prim has one
abbrev pub property_named : Text → List PropertyView → Option PropertyView
property_named name [] = None
property_named name (attribute n ty c u d s cs m ∷ ps) = elim (same_text name n) [ true ↦ Some (attribute n ty c u d s cs m) | false ↦ property_named name ps ]
property_named name (relationship n c ts m ∷ ps) = elim (same_text name n) [ true ↦ Some (relationship n c ts m) | false ↦ property_named name ps ]

-- the value, where an opinion gives one
abbrev pub if_value : Option Value → Answer
if_value None = no_value
if_value (Some v) = is_value v

-- the samples, where there are any
abbrev pub if_samples : SampleEntries → Answer
if_samples [] = no_value
if_samples (e ∷ es) = are_samples (e ∷ es)

-- the targets or connections, where there is an opinion on them
abbrev pub if_targets : Option (List Path) → Answer
if_targets None = no_value
if_targets (Some ps) = are_targets ps

-- the value of an attribute at a time; a relationship counts as no property
abbrev pub value_answer : ℤ → Option PropertyView → Answer
value_answer t (Some (attribute n ty c u d s cs m)) = if_value (value_at d s t)
value_answer t _ = no_property

-- the default of an attribute; a relationship counts as no property
abbrev pub default_answer : Option PropertyView → Answer
default_answer (Some (attribute n ty c u d s cs m)) = if_value d
default_answer _ = no_property

-- the samples of an attribute; a relationship counts as no property
abbrev pub samples_answer : Option PropertyView → Answer
samples_answer (Some (attribute n ty c u d s cs m)) = if_samples s
samples_answer _ = no_property

-- the connections of an attribute, the targets of a relationship
abbrev pub targets_answer : Option PropertyView → Answer
targets_answer (Some (attribute n ty c u d s cs m)) = if_targets cs
targets_answer (Some (relationship n c ts m)) = if_targets ts
targets_answer None = no_property

-- the answer to a question on a property of a composed prim
abbrev pub answer : PrimView → Asked → Answer
answer v (value_at_time name t) = value_answer t (property_named name v.properties)
answer v (default name) = default_answer (property_named name v.properties)
answer v (samples name) = samples_answer (property_named name v.properties)
answer v (targets name) = targets_answer (property_named name v.properties)

-- the reply to a question on a composed prim; sites without a spec are not told
abbrev pub reply : World → Path → PrimView → Question → Text
reply w p v children = codes "children " ++ printed p ++ codes ": " ++ in_brackets quoted v.children
reply w p v sites = codes "sites " ++ printed p ++ codes ": " ++ counted (map (site_text w) (filter (λ s. s.has_spec) v.sites))
reply w p v faults = codes "faults " ++ printed p ++ codes ": " ++ counted (map fault_text v.faults)

-- what was asked of one prim
pub record Replies : Type 0 where
  pub text : Text
  pub answers : List Answer

-- the replies to some questions on one prim, a line feed behind each, and the answers on its properties
abbrev pub replies : World → Path → List Question → List Asked → Replies
replies w p questions asked =
    let v : PrimView = view limits w p in
    record { text = flat_map (λ q. reply w p v q ++ codes "\n") questions; answers = map (answer v) asked }
