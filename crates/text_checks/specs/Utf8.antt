-- Which layers have assets and paths that are UTF-8. That all else of a layer is, `is_writable_layer` says.
use Rattle.std.specs.Prelude.{ℤ, Bool, true, ◌&&◌, List}
use Rattle.std.specs.List.{list_all}
use Rattle.std.specs.Str.{is_utf8}
use Rattle.sdf_paths.specs.Paths.{printed}
use Rattle.sdf_paths.specs.declared.element.Element.{Element}
use Rattle.sdf_values.specs.Proper.{all_true}
use Rattle.sdf_values.specs.declared.value.DictItem.{DictItem, fold-DictItem}
use Rattle.sdf_values.specs.declared.value.Value.{Value, fold-Value}
use Rattle.sdf_values.specs.declared.value.Value.TheOpen.{Value-F, DictItem-F}
use Rattle.spec_properties.specs.Entries.{MetaEntries}
use Rattle.spec_properties.specs.declared.property.Property.{Property}
use Rattle.spec_properties.specs.declared.property.Property.TheVariants.{Attr, Rel}
use Rattle.spec_parts.specs.declared.items.RefItem.{RefItem}
use Rattle.spec_parts.specs.declared.items.SubLayer.{SubLayer}
use Rattle.spec_parts.specs.declared.spec.ArcPart.{ArcPart}
use Rattle.spec_parts.specs.declared.spec.Head.{Head}
use Rattle.spec_parts.specs.declared.spec.Spec.{Spec}
use Rattle.sdf_specs.specs.Layers.{LayerTable}
use Rattle.layer_texts.specs.Writable.{none_or, is_writable_list}

-- one value, with whether the assets and paths of each value inside it are UTF-8
abbrev pub utf8_step : Value-F Bool Bool → Bool
utf8_step (Value-F.Asset t) = is_utf8 t
utf8_step (Value-F.PathText t) = is_utf8 t
utf8_step (Value-F.Tuple bs) = all_true bs
utf8_step (Value-F.Array bs) = all_true bs
utf8_step (Value-F.Dict bs) = all_true bs
utf8_step _ = true

-- of an entry the value; that its key is UTF-8, `is_writable` says
abbrev pub utf8_item : DictItem-F Bool Bool → Bool
utf8_item item = item.value

-- the assets and paths of the value are UTF-8, at any depth
abbrev pub is_utf8_value : Value → Bool
is_utf8_value = fold-Value Bool Bool utf8_step utf8_item

-- those of the value of an entry are
abbrev pub is_utf8_entry : DictItem → Bool
is_utf8_entry = fold-DictItem Bool Bool utf8_step utf8_item

-- in print
abbrev pub is_utf8_path : List Element → Bool
is_utf8_path path = is_utf8 (printed path)

-- its asset and its path are UTF-8, where it has them
abbrev pub is_utf8_reference : RefItem → Bool
is_utf8_reference r = none_or is_utf8 r.asset && none_or is_utf8_path r.path

-- its asset is UTF-8
abbrev pub is_utf8_sublayer : SubLayer → Bool
is_utf8_sublayer s = is_utf8 s.asset

-- the assets and paths in the values of the keys are UTF-8
abbrev pub is_utf8_meta : MetaEntries → Bool
is_utf8_meta meta = list_all (λ e. is_utf8_value e.1) meta

-- those in the value of a sample are
abbrev pub is_utf8_sample : ℤ × Value → Bool
is_utf8_sample s = is_utf8_value s.1

-- those of its default, its samples and its metadata are, and its connections or targets
abbrev pub is_utf8_property : Property → Bool
is_utf8_property (Attr name ty custom uniform default samples connections meta) =
    none_or is_utf8_value default && (list_all is_utf8_sample samples && (is_writable_list is_utf8_path connections && is_utf8_meta meta))
is_utf8_property (Rel name custom targets meta) = is_writable_list is_utf8_path targets && is_utf8_meta meta

-- the paths and assets of the arcs are UTF-8
abbrev pub are_utf8_arcs : ArcPart → Bool
are_utf8_arcs arcs =
    is_writable_list is_utf8_path arcs.inherits
    && (is_writable_list is_utf8_path arcs.specializes && (is_writable_list is_utf8_reference arcs.references && is_writable_list is_utf8_reference arcs.payloads))

-- the assets and paths of a prim or a variant are UTF-8: those of arcs, metadata and properties
unfoldable pub is_utf8_spec : Spec → Bool
is_utf8_spec spec = are_utf8_arcs spec.arcs && (is_utf8_meta spec.body.meta && list_all is_utf8_property spec.body.properties)

-- the assets and paths of a layer's metadata are UTF-8, and the assets of its sublayers
abbrev pub is_utf8_head : Head → Bool
is_utf8_head head = is_utf8_meta head.meta && list_all is_utf8_sublayer head.sublayers

-- the assets and paths of the layer, and those in its values
unfoldable pub is_utf8_layer : LayerTable → Bool
is_utf8_layer layer = is_utf8_head layer.head && list_all (λ e. is_utf8_spec e.1) layer.specs
