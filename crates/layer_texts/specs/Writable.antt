-- Which layers have a text that is their own words.
use Rattle.std.specs.Prelude.{ℕ, ℤ, Bool, true, ◌&&◌, ◌^◌, nat_le, nat_lt, List, unsigned_abs, Option, Some, None}
use Rattle.std.specs.List.{list_all}
use Rattle.std.specs.Str.{is_utf8}
use Rattle.usd_names.specs.Names.{is_name, is_identifier, is_variant}
use Rattle.list_ops.specs.declared.op.ListOp.{ListOp}
use Rattle.sdf_paths.specs.Paths.{printed}
use Rattle.sdf_paths.specs.declared.element.Element.{Element}
use Rattle.sdf_values.specs.Scales.{Offset}
use Rattle.sdf_values.specs.declared.value.Value.{Value}
use Rattle.spec_properties.specs.Entries.{MetaEntries, SelectionEntries}
use Rattle.spec_properties.specs.declared.property.Property.{Property}
use Rattle.spec_properties.specs.declared.property.Property.TheVariants.{Attr, Rel}
use Rattle.spec_parts.specs.declared.items.RefItem.{RefItem}
use Rattle.spec_parts.specs.declared.items.SubLayer.{SubLayer}
use Rattle.spec_parts.specs.declared.items.VariantSet.{VariantSet}
use Rattle.spec_parts.specs.declared.spec.ArcPart.{ArcPart}
use Rattle.spec_parts.specs.declared.spec.BodyPart.{BodyPart}
use Rattle.spec_parts.specs.declared.spec.Head.{Head}
use Rattle.spec_parts.specs.declared.spec.Spec.{Spec}
use Rattle.sdf_specs.specs.Layers.{LayerTable, SpecEntries}
use Rattle.value_texts.specs.Writable.{is_writable, is_writable_asset, is_writable_path}

-- a name of the text: identifiers joined by colons, but not `inf` and `nan`, which are numbers
unfoldable pub is_word : List ℕ → Bool
is_word t = is_utf8 t && is_name t

-- none, or one that can be written
abbrev pub none_or : {T : Type 0} → (T → Bool) → Option T → Bool
none_or w None = true
none_or w (Some x) = w x

-- nothing in the path's text closes it
abbrev pub is_writable_target : List Element → Bool
is_writable_target path = is_writable_path (printed path)

-- at most 34 digits
abbrev pub is_short : ℤ → Bool
is_short n = nat_lt (unsigned_abs n) (10 ^ 34)

-- numbers of at most 34 digits
abbrev pub is_writable_offset : Offset → Bool
is_writable_offset o = is_short o.offset && is_short o.scale

-- its asset and its path have nothing in them that closes them, and its offset is of short numbers
abbrev pub is_writable_reference : RefItem → Bool
is_writable_reference r = none_or is_writable_asset r.asset && (none_or is_writable_target r.path && is_writable_offset r.offset)

-- its asset has nothing in it that closes it, and its offset is of short numbers
abbrev pub is_writable_sublayer : SubLayer → Bool
is_writable_sublayer s = is_writable_asset s.asset && is_writable_offset s.offset

-- each item of each edit can be written
abbrev pub are_writable_edits : {T : Type 0} → (T → Bool) → ListOp T → Bool
are_writable_edits w op = list_all w op.deleted && (list_all w op.added && (list_all w op.prepended && (list_all w op.appended && list_all w op.ordered)))

-- each item of the explicit list and of the edits can be written
abbrev pub is_writable_list : {T : Type 0} → (T → Bool) → ListOp T → Bool
is_writable_list w op = none_or (list_all w) op.explicit && are_writable_edits w op

-- a key is a name
abbrev pub is_writable_entry : List ℕ × Value → Bool
is_writable_entry entry = is_word entry.0 && is_writable entry.1

-- each key is a name, and each value can be written
abbrev pub is_writable_meta : MetaEntries → Bool
is_writable_meta meta = list_all is_writable_entry meta

-- the set and the variant are UTF-8: they stand as a key and a string, and may be any text
abbrev pub is_writable_selection : List ℕ × List ℕ → Bool
is_writable_selection s = is_utf8 s.0 && is_utf8 s.1

-- each of the selected variants can be written
abbrev pub are_writable_selections : SelectionEntries → Bool
are_writable_selections selections = list_all is_writable_selection selections

-- a time within 10^12 of 0, and a value that can be written
abbrev pub is_writable_sample : ℤ × Value → Bool
is_writable_sample s = nat_le (unsigned_abs s.0) (10 ^ 30) && is_writable s.1

-- its name is one, and its values, paths and keys can be written
abbrev pub is_writable_property : Property → Bool
is_writable_property (Attr name ty custom uniform default samples connections meta) =
    is_word name && (none_or is_writable default && (list_all is_writable_sample samples && (is_writable_list is_writable_target connections && is_writable_meta meta)))
is_writable_property (Rel name custom targets meta) = is_word name && (is_writable_list is_writable_target targets && is_writable_meta meta)

-- the names of a set and of its variants have to be such names, since they stand between quotes without escapes
abbrev pub is_writable_set : VariantSet → Bool
is_writable_set s = is_identifier s.set && list_all is_variant s.variants

-- paths, assets and offsets of the arcs can be written, and names of sets and selected variants are UTF-8
abbrev pub are_writable_arcs : ArcPart → Bool
are_writable_arcs arcs =
    is_writable_list is_writable_target arcs.inherits
    && (is_writable_list is_writable_target arcs.specializes
    && (is_writable_list is_writable_reference arcs.references
    && (is_writable_list is_writable_reference arcs.payloads
    && (is_writable_list is_utf8 arcs.variant_sets && are_writable_selections arcs.selections))))

-- type, children and variant sets have names of their kind, lists and orders any UTF-8, and metadata and properties can be written
abbrev pub is_writable_body : BodyPart → Bool
is_writable_body body =
    none_or is_word body.type_name
    && (is_writable_meta body.meta
    && (is_writable_list is_utf8 body.api_schemas
    && (is_writable_list is_utf8 body.clip_sets
    && (list_all is_identifier body.children
    && (list_all is_utf8 body.child_order
    && (list_all is_writable_property body.properties
    && (list_all is_utf8 body.property_order && list_all is_writable_set body.variant_names)))))))

-- the arcs and the body of a prim or a variant can be written
unfoldable pub is_writable_spec : Spec → Bool
is_writable_spec spec = are_writable_arcs spec.arcs && is_writable_body spec.body

-- metadata and sublayers can be written, root prims have names of prims, and the default prim and the order are UTF-8
abbrev pub is_writable_head : Head → Bool
is_writable_head head =
    none_or is_utf8 head.default_prim
    && (is_writable_meta head.meta && (list_all is_writable_sublayer head.sublayers && (list_all is_identifier head.root_names && list_all is_utf8 head.root_order)))

-- each spec of the layer can be written
abbrev pub are_writable_specs : SpecEntries → Bool
are_writable_specs specs = list_all (λ e. is_writable_spec e.1) specs

-- The canonical text of the layer is the words of its parts: what stands there as a name is one, what stands between quotes as it is
-- has nothing to escape, and paths, assets and values do not have in them what closes them.
unfoldable pub is_writable_layer : LayerTable → Bool
is_writable_layer layer = is_writable_head layer.head && are_writable_specs layer.specs
