-- Changes of specs and properties as data, and what they make: what the edits say, one after the other.
use Rattle.std.specs.Prelude.{ℕ, List, Option, Some, None}
use Rattle.spec_parts.specs.declared.items.VariantSet.{VariantSet}
use Rattle.spec_parts.specs.declared.spec.Spec.{Spec}
use Rattle.spec_properties.specs.Properties.{property_at, with_property, without_property}
use Rattle.spec_properties.specs.declared.property.Property.{Property}
use Rattle.layer_edit.specs.Places.{with_properties}
use Rattle.layer_edit.specs.Prims.{with_name, without_name, with_variant, without_variant, with_children, with_sets}
use Rattle.layer_edit.specs.Properties.{with_default, with_sample, without_sample}
use Rattle.layer_edit.specs.Metadata.{with_spec_entry, with_property_entry}
use Rattle.layer_edit.specs.Fields.{with_paths, with_references, with_texts, with_targets, with_selection, with_order}
use Rattle.layer_edit.specs.declared.change.NameChange.{NameChange}
use Rattle.layer_edit.specs.declared.change.NameChange.TheVariants as name
use Rattle.layer_edit.specs.declared.change.VariantChange.{VariantChange}
use Rattle.layer_edit.specs.declared.change.VariantChange.TheVariants as variant
use Rattle.layer_edit.specs.declared.change.PropertyChange.{PropertyChange}
use Rattle.layer_edit.specs.declared.change.PropertyChange.TheVariants as property
use Rattle.layer_edit.specs.declared.change.SpecChange.{SpecChange}
use Rattle.layer_edit.specs.declared.change.SpecChange.TheVariants as spec

-- the names of children with one more at the end, or with one taken out
abbrev pub names_changed : NameChange → List (List ℕ) → List (List ℕ)
names_changed (name.Add n) = with_name n
names_changed (name.Drop n) = without_name n

-- the variant sets with one variant more, or with one taken out
abbrev pub sets_changed : VariantChange → List VariantSet → List VariantSet
sets_changed (variant.Add set v) = with_variant set v
sets_changed (variant.Drop set v) = without_variant set v

-- a property with a list of targets or connections given, or with its default, a sample or an entry of its metadata given or taken away
abbrev pub property_changed : PropertyChange → Property → Property
property_changed (property.Targets edit items) = with_targets edit items
property_changed (property.Default v) = with_default v
property_changed (property.Sample t v) = with_sample t v
property_changed (property.NoSample t) = without_sample t
property_changed (property.Meta key v) = with_property_entry key v

-- the spec with a property in the place of one that is there
abbrev pub with_changed_in : Option Property → PropertyChange → Spec → Spec
with_changed_in None change s = s
with_changed_in (Some p) change s = with_properties (with_property (property_changed change p) s.body.properties) s

-- a spec with one thing of it changed: a list, a selection, an order, an entry of its metadata, or what it names or holds
abbrev pub spec_changed : SpecChange → Spec → Spec
spec_changed (spec.Paths field edit items) = with_paths field edit items
spec_changed (spec.References field edit items) = with_references field edit items
spec_changed (spec.Texts field edit items) = with_texts field edit items
spec_changed (spec.Selection set v) = with_selection set v
spec_changed (spec.Order word names) = with_order word names
spec_changed (spec.Meta key v) = with_spec_entry key v
spec_changed (spec.Names change) = with_children (names_changed change)
spec_changed (spec.Variants change) = with_sets (sets_changed change)
spec_changed (spec.PutProperty p) = λ s. with_properties (with_property p s.body.properties) s
spec_changed (spec.DropProperty n) = λ s. with_properties (without_property n s.body.properties) s
spec_changed (spec.ChangeProperty n change) = λ s. with_changed_in (property_at n s.body.properties) change s
