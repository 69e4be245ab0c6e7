-- The properties of a prim, one after the other.
-- docs/COMPOSITION.md, 'The stage'.
use Rattle.std.specs.Prelude.{List, flat_map}
use Rattle.std.specs.List.{list_any}
use Rattle.spec_properties.specs.declared.property.Property.{Property}
use Rattle.spec_properties.specs.declared.property.Property.TheVariants.{Attr, Rel}
use Rattle.prim_view.specs.declared.view.PropertyView.{PropertyView}
use Rattle.prim_view.specs.declared.view.PropertyView.TheVariants as view
use Rattle.composition.specs.Texts.{Text}
use Rattle.composition.specs.Faults.{Fault}
use Rattle.composition.specs.Opinions.{Said}
use Rattle.composition.specs.Values.{PropertySaid}
use Rattle.composition.specs.Views.{is_custom}
use Rattle.field_resolve.specs.Folding.{properties_on}
use Rattle.prim_opinions.specs.Counting.{counted}
use Rattle.value_resolve.specs.Resolving.{default_by, samples_by}
use Rattle.target_resolve.specs.Resolving.{targets_by}
use Rattle.prim_compose.specs.declared.properties.Folded.{Folded}
use Rattle.prim_compose.specs.Composed.{property_views, faults_of_property, merged_metadata}

-- what specs that count make together
abbrev pub folded_of : List PropertySaid → Folded
folded_of ps = record {
  custom = list_any (λ p. is_custom p.property) ps;
  default = default_by ps;
  samples = samples_by ps;
  targets = targets_by ps;
  meta = merged_metadata ps;
}

-- the property whose strongest spec is given, with what all make together
abbrev pub viewed_by : Text → Property → Folded → PropertyView
viewed_by name (Attr own ty custom uniform default samples connections meta) f = view.Attr name ty f.custom uniform f.default f.samples f.targets f.meta
viewed_by name (Rel own custom targets meta) f = view.Rel name f.custom f.targets f.meta

-- the properties of a prim on which the opinions are given
unfoldable pub views_on : List Said → List PropertyView
views_on said = flat_map (λ name. property_views name (counted name said)) (properties_on said)

-- the faults of what is said of those properties
unfoldable pub faults_on : List Said → List Fault
faults_on said = flat_map (λ name. faults_of_property name (counted name said)) (properties_on said)
