-- The composed view of a path and its parts: the definitions of composition under names of their own.
-- docs/COMPOSITION.md, 'The stage'.
use Rattle.std.specs.Prelude.{List, [], ◌∷◌, map, Option, Some, None}
use Rattle.std.specs.List.{flat_map}
use Rattle.prim_view.specs.declared.view.PrimView.{PrimView}
use Rattle.prim_view.specs.declared.view.PropertyView.{PropertyView}
use Rattle.spec_properties.specs.Entries.{MetaEntries}
use Rattle.composition.specs.Texts.{Text}
use Rattle.composition.specs.Paths.{Path, limits}
use Rattle.list_ops.specs.declared.op.ListOp.{ListOp}
use Rattle.sdf_values.specs.Scales.{Offset}
use Rattle.field_resolve.specs.Folding.{folded_texts, texts_once}
use Rattle.composition.specs.World.{World, RootNames}
use Rattle.composition.specs.Merging.{merged_all}
use Rattle.composition.specs.Fields.{naming_edit, children_naming}
use Rattle.composition.specs.Opinions.{Said}
use Rattle.composition.specs.Values.{PropertySaid}
use Rattle.composition.specs.Faults.{Fault, Index}
use Rattle.composition.specs.Views.{view, view_from, root_view, root_meta, property_view, property_faults, property_meta}

-- the composed view of a path, within the limits of this project
unfoldable pub view_at : World → Path → PrimView
view_at w p = view limits w p

-- that of a plain prim path, by its index and its opinions
unfoldable pub viewed : World → Path → Index → List Said → PrimView
viewed w p i said = view_from limits w p i said

-- that of the root
unfoldable pub root_viewed : World → PrimView
root_viewed w = root_view limits w

-- the metadata of `/`: that of the session and of the root layer
unfoldable pub root_metadata : World → MetaEntries
root_metadata w = root_meta limits w

-- what a layer says of names of root prims, as an edit
abbrev pub namings_of : Option RootNames → List (ListOp Text)
namings_of None = []
namings_of (Some r) = naming_edit (children_naming r.names r.order) ∷ []

-- the names of root prims that layers give, the strongest layer first
unfoldable pub named_by : World → List (Text × Offset) → List Text
named_by w layers = texts_once (folded_texts (flat_map (λ e. namings_of (w.roots e.0)) layers))

-- the view of a property of which the specs that count are given
unfoldable pub property_views : Text → List PropertySaid → List PropertyView
property_views name ps = property_view limits name ps

-- the faults of a property of which the specs that count are given
unfoldable pub faults_of_property : Text → List PropertySaid → List Fault
faults_of_property name ps = property_faults limits name ps

-- the metadata of a property, merged over the specs that count
unfoldable pub merged_metadata : List PropertySaid → MetaEntries
merged_metadata ps = merged_all (map (λ p. property_meta p.property) ps)
