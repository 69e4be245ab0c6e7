-- What stands at paths of a layer, and layers with something else there.
use Rattle.std.specs.Prelude.{◌-◌, Bool, true, false, not, ◌&&◌, List, [], ◌∷◌, length, take, slice_get, Option, Some, None, is_some}
use Rattle.sdf_paths.specs.Paths.{is_empty, is_plain, is_property}
use Rattle.sdf_paths.specs.declared.element.Element.{Element}
use Rattle.sdf_paths.specs.declared.element.Element.TheVariants.{Prim, Property as Named, Selection}
use Rattle.sdf_specs.specs.Layers.{LayerTable, spec_at, with_spec_for}
use Rattle.spec_parts.specs.declared.spec.Spec.{Spec}
use Rattle.spec_properties.specs.Properties.{property_at, with_property}
use Rattle.spec_properties.specs.declared.property.Property.{Property}

-- ---- kinds of paths

-- the last element; `/` has none
abbrev pub last_element : List Element → Option Element
last_element path = slice_get path (length path - 1)

-- without the last element; `/` stays
abbrev pub above : List Element → List Element
above [] = []
above (e ∷ rest) = take (length rest) (e ∷ rest)

-- the last element is the name of a prim
abbrev pub ends_in_prim : Option Element → Bool
ends_in_prim (Some (Prim name)) = true
ends_in_prim last = false

-- the last element is a selection
abbrev pub ends_in_variant : Option Element → Bool
ends_in_variant (Some (Selection set variant)) = true
ends_in_variant last = false

-- the last element is the name of a property
abbrev pub ends_in_property : Option Element → Bool
ends_in_property (Some (Named name)) = true
ends_in_property last = false

-- the last element is the name of a prim or a selection: properties have no spec of their own
abbrev pub ends_in_spec : Option Element → Bool
ends_in_spec (Some (Prim name)) = true
ends_in_spec (Some (Selection set variant)) = true
ends_in_spec last = false

-- the path of a prim
abbrev pub is_prim_path : List Element → Bool
is_prim_path path = ends_in_prim (last_element path)

-- the path of a variant
abbrev pub is_variant_path : List Element → Bool
is_variant_path path = ends_in_variant (last_element path)

-- the path of a prim or a variant
abbrev pub is_spec_path : List Element → Bool
is_spec_path path = ends_in_spec (last_element path)

-- the path of a property
abbrev pub is_property_path : List Element → Bool
is_property_path path = ends_in_property (last_element path)

-- a plain prim path: neither `/` nor a property's, without selections
abbrev pub is_plain_prim : List Element → Bool
is_plain_prim path = not (is_empty path) && (not (is_property path) && is_plain path)

-- ---- what stands there

-- the property of the owner that the last element names, where it names one and the owner is there
abbrev pub property_named : Option Element → Option Spec → Option Property
property_named (Some (Named name)) (Some spec) = property_at name spec.body.properties
property_named last spec = None

-- the property at a path
unfoldable pub property_in : List Element → LayerTable → Option Property
property_in path layer = property_named (last_element path) (spec_at (above path) layer.specs)

-- a property stands in the spec of its owner, a prim and a variant have a spec of their own, and `/` always stands
abbrev pub stands : Option Element → List Element → LayerTable → Bool
stands None path layer = true
stands (Some (Named name)) path layer = is_some (property_in path layer)
stands (Some e) path layer = is_some (spec_at path layer.specs)

-- a prim, a variant or a property is at the path, or it is `/`
unfoldable pub has_spec : List Element → LayerTable → Bool
has_spec path layer = stands (last_element path) path layer

-- ---- changes

-- the layer with a spec changed, where there is one
abbrev pub with_changed : Option Spec → List Element → (Spec → Spec) → LayerTable → LayerTable
with_changed None path change layer = layer
with_changed (Some spec) path change layer = record layer { specs = with_spec_for path (change spec) layer.specs }

-- the layer with the spec at a path changed, where there is one
unfoldable pub changed_spec : List Element → (Spec → Spec) → LayerTable → LayerTable
changed_spec path change layer = with_changed (spec_at path layer.specs) path change layer

-- a spec with these properties in the place of its own
abbrev pub with_properties : List Property → Spec → Spec
with_properties properties spec = record spec { body = record spec.body { properties = properties } }

-- the layer with a property changed in the spec of its owner, where there is one
abbrev pub with_changed_property : Option Property → List Element → (Property → Property) → LayerTable → LayerTable
with_changed_property None path change layer = layer
with_changed_property (Some p) path change layer = changed_spec (above path) (λ s. with_properties (with_property (change p) s.body.properties) s) layer

-- the layer with the property at a path changed, where there is one
unfoldable pub changed_property : List Element → (Property → Property) → LayerTable → LayerTable
changed_property path change layer = with_changed_property (property_in path layer) path change layer
