-- Metadata of layers, prims, variants and properties.
use Rattle.std.specs.Prelude.{ℕ, not, if◌then◌else◌, List, [], ◌∷◌, codes, Option, Some, None, Ok}
use Rattle.sdf_paths.specs.Order.{text_cmp}
use Rattle.sdf_paths.specs.declared.element.Element.{Element}
use Rattle.sdf_paths.specs.declared.element.Element.TheVariants.{Property as Named}
use Rattle.sdf_specs.specs.Layers.{LayerTable}
use Rattle.sdf_values.specs.declared.value.Value.{Value}
use Rattle.sdf_values.specs.declared.value.Value.TheVariants as value
use Rattle.spec_parts.specs.declared.spec.Head.{Head}
use Rattle.spec_parts.specs.declared.spec.Spec.{Spec}
use Rattle.spec_properties.specs.Entries.{MetaEntries}
use Rattle.spec_properties.specs.Properties.{same_name}
use Rattle.spec_properties.specs.declared.property.Property.{Property}
use Rattle.spec_properties.specs.declared.property.Property.TheVariants.{Attr, Rel}
use Rattle.spec_tables.specs.Tables.{with_key, without_key}
use Rattle.layer_edit.specs.Outcomes.{Made, passing, given}
use Rattle.layer_edit.specs.Places.{last_element, has_spec, changed_spec, changed_property}
use Rattle.layer_edit.specs.Typing.{meta_value}
use Rattle.edit_batches.specs.declared.fault.EditFault.TheVariants.{NoSpec, ValueShape}

-- a value at a key, or none
abbrev pub with_entry : List ℕ → Option Value → MetaEntries → MetaEntries
with_entry key (Some v) meta = with_key text_cmp key v meta
with_entry key None meta = without_key text_cmp key meta

-- the text of a string; any other value has none
abbrev pub text_of : Option Value → Option (List ℕ)
text_of (Some (value.Text text)) = Some text
text_of v = None

-- in the head of a layer the default prim has a place of its own
abbrev pub with_head_entry : List ℕ → Option Value → Head → Head
with_head_entry key v head = if same_name key (codes "defaultPrim") then record head { default_prim = text_of v } else record head { meta = with_entry key v head.meta }

-- a prim or a variant with a value at a key of its metadata, or without one
abbrev pub with_spec_entry : List ℕ → Option Value → Spec → Spec
with_spec_entry key v spec = record spec { body = record spec.body { meta = with_entry key v spec.body.meta } }

-- a property with a value at a key of its metadata, or without one
abbrev pub with_property_entry : List ℕ → Option Value → Property → Property
with_property_entry key v (Attr name ty custom uniform default samples connections meta) = Attr name ty custom uniform default samples connections (with_entry key v meta)
with_property_entry key v (Rel name custom targets meta) = Rel name custom targets (with_entry key v meta)

-- the metadata of `/` stand in the head of the layer, those of a property in the property, all others in the spec at the path
abbrev pub with_entry_by : Option Element → List Element → List ℕ → Option Value → LayerTable → LayerTable
with_entry_by None path key v layer = record layer { head = with_head_entry key v layer.head }
with_entry_by (Some (Named name)) path key v layer = changed_property path (with_property_entry key v) layer
with_entry_by (Some e) path key v layer = changed_spec path (with_spec_entry key v) layer

-- the layer with a value at a key of the metadata at a path, or without one
unfoldable pub with_meta : List Element → List ℕ → Option Value → LayerTable → LayerTable
with_meta path key v layer = with_entry_by (last_element path) path key v layer

-- metadata are given to what is there, with a value that the key takes
unfoldable pub meta_set : List Element → List ℕ → Value → LayerTable → Made LayerTable
meta_set path key v layer =
    passing ((not (has_spec path layer), NoSpec) ∷ [])
    (given ValueShape (meta_value key v) (λ v. Ok (with_meta path key (Some v) layer)))

-- metadata are taken from what is there, whether or not the key has a value
unfoldable pub meta_cleared : List Element → List ℕ → LayerTable → Made LayerTable
meta_cleared path key layer = passing ((not (has_spec path layer), NoSpec) ∷ []) (Ok (with_meta path key None layer))
