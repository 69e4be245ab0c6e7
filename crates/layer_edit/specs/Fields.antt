-- Lists of fields, selections, orders and sublayers.
use Rattle.std.specs.Prelude.{ℕ, Bool, true, false, not, ◌||◌, List, [], ◌∷◌, Option, Some, None, Ok}
use Rattle.std.specs.List.{list_any}
use Rattle.list_ops.specs.Blank.{no_edits}
use Rattle.list_ops.specs.declared.op.ListOp.{ListOp}
use Rattle.sdf_paths.specs.Order.{text_cmp}
use Rattle.sdf_paths.specs.Paths.{is_empty}
use Rattle.sdf_paths.specs.declared.element.Element.{Element}
use Rattle.sdf_specs.specs.Layers.{LayerTable}
use Rattle.spec_parts.specs.declared.items.RefItem.{RefItem}
use Rattle.spec_parts.specs.declared.spec.Spec.{Spec}
use Rattle.spec_properties.specs.declared.property.Property.{Property}
use Rattle.spec_properties.specs.declared.property.Property.TheVariants.{Attr, Rel}
use Rattle.spec_tables.specs.Tables.{with_key, without_key}
use Rattle.usda_fields.specs.declared.field.PathField.{PathField}
use Rattle.usda_fields.specs.declared.field.PathField.TheVariants.{Inherits, Specializes}
use Rattle.usda_fields.specs.declared.field.ReferenceField.{ReferenceField}
use Rattle.usda_fields.specs.declared.field.ReferenceField.TheVariants.{References, Payload}
use Rattle.usda_fields.specs.declared.field.TextField.{TextField}
use Rattle.usda_fields.specs.declared.field.TextField.TheVariants.{VariantSets, ApiSchemas, ClipSets}
use Rattle.usda_fields.specs.declared.owner.OrderWord.{OrderWord}
use Rattle.usda_fields.specs.declared.owner.OrderWord.TheVariants.{NameChildren, PropertyNames}
use Rattle.usda_lists.specs.Lists.{with_list}
use Rattle.usda_lists.specs.declared.edit.ListEdit.{ListEdit}
use Rattle.usda_lists.specs.declared.edit.ListEdit.TheVariants.{Explicit}
use Rattle.layer_edit.specs.Outcomes.{Made, passing, given}
use Rattle.layer_edit.specs.Places.{is_spec_path, is_property_path, property_in, has_spec, changed_spec, changed_property}
use Rattle.layer_edit.specs.Offsets.{items_of, sublayers_of, is_bad_target, is_bad_item}
use Rattle.edit_batches.specs.declared.fault.EditFault.TheVariants.{WrongPath, NoSpec, OffsetRange, BadArc}
use Rattle.edit_batches.specs.declared.op.FieldList.{FieldList}
use Rattle.edit_batches.specs.declared.op.FieldList.TheVariants as list
use Rattle.edit_batches.specs.declared.written.WrittenReference.{WrittenReference}
use Rattle.edit_batches.specs.declared.written.WrittenSubLayer.{WrittenSubLayer}

-- ---- lists

-- an explicit list clears the others, and each other list clears the explicit one
abbrev pub given_list : {T : Type 0} → ListEdit → List T → ListOp T → ListOp T
given_list Explicit items op = record no_edits { explicit = Some items }
given_list edit items op = with_list edit items (record op { explicit = None })

-- a spec with a list of the classes that it inherits or specializes
abbrev pub with_paths : PathField → ListEdit → List (List Element) → Spec → Spec
with_paths Inherits edit items s = record s { arcs = record s.arcs { inherits = given_list edit items s.arcs.inherits } }
with_paths Specializes edit items s = record s { arcs = record s.arcs { specializes = given_list edit items s.arcs.specializes } }

-- a spec with a list of its references or its payloads
abbrev pub with_references : ReferenceField → ListEdit → List RefItem → Spec → Spec
with_references References edit items s = record s { arcs = record s.arcs { references = given_list edit items s.arcs.references } }
with_references Payload edit items s = record s { arcs = record s.arcs { payloads = given_list edit items s.arcs.payloads } }

-- a spec with a list of its variant sets, which stand among its arcs, or of its API schemas or clip sets, which stand in its body
abbrev pub with_texts : TextField → ListEdit → List (List ℕ) → Spec → Spec
with_texts VariantSets edit items s = record s { arcs = record s.arcs { variant_sets = given_list edit items s.arcs.variant_sets } }
with_texts ApiSchemas edit items s = record s { body = record s.body { api_schemas = given_list edit items s.body.api_schemas } }
with_texts ClipSets edit items s = record s { body = record s.body { clip_sets = given_list edit items s.body.clip_sets } }

-- the targets of a relationship, the connections of an attribute
abbrev pub with_targets : ListEdit → List (List Element) → Property → Property
with_targets edit items (Attr name ty custom uniform default samples connections meta) = Attr name ty custom uniform default samples (given_list edit items connections) meta
with_targets edit items (Rel name custom targets meta) = Rel name custom (given_list edit items targets) meta

-- there is a property, and it is a relationship
abbrev pub is_relationship : Option Property → Bool
is_relationship (Some (Rel name custom targets meta)) = true
is_relationship p = false

-- there is a property, and it is an attribute
abbrev pub is_attribute : Option Property → Bool
is_attribute (Some (Attr name ty custom uniform default samples connections meta)) = true
is_attribute p = false

-- classes are given to a prim or a variant that is there; each has to be the path of a prim without selections
unfoldable pub paths_set : PathField → ListEdit → List (List Element) → List Element → LayerTable → Made LayerTable
paths_set field edit items path layer =
    passing ((not (is_spec_path path), WrongPath) ∷ (not (has_spec path layer), NoSpec) ∷ (list_any is_bad_target items, BadArc) ∷ [])
    (Ok (changed_spec path (with_paths field edit items) layer))

-- References or payloads are given to a prim or a variant that is there. The offsets of all items are judged first, and then their
-- targets and assets; an asset has to name a layer from the folder of this one, whose name is given.
unfoldable pub references_set : List ℕ → ReferenceField → ListEdit → List WrittenReference → List Element → LayerTable → Made LayerTable
references_set name field edit written path layer =
    passing ((not (is_spec_path path), WrongPath) ∷ (not (has_spec path layer), NoSpec) ∷ [])
    (given OffsetRange (items_of written) (λ items.
    passing ((list_any (is_bad_item name) written, BadArc) ∷ [])
    (Ok (changed_spec path (with_references field edit items) layer))))

-- variant sets, API schemas or clip sets are given to a prim or a variant that is there; any names are taken
unfoldable pub texts_set : TextField → ListEdit → List (List ℕ) → List Element → LayerTable → Made LayerTable
texts_set field edit items path layer =
    passing ((not (is_spec_path path), WrongPath) ∷ (not (has_spec path layer), NoSpec) ∷ [])
    (Ok (changed_spec path (with_texts field edit items) layer))

-- targets are given to a relationship; where an attribute stands there is no spec for them
unfoldable pub targets_set : ListEdit → List (List Element) → List Element → LayerTable → Made LayerTable
targets_set edit items path layer =
    passing ((not (is_property_path path), WrongPath) ∷ (not (is_relationship (property_in path layer)), NoSpec) ∷ [])
    (Ok (changed_property path (with_targets edit items) layer))

-- connections are given to an attribute; where a relationship stands there is no spec for them
unfoldable pub connections_set : ListEdit → List (List Element) → List Element → LayerTable → Made LayerTable
connections_set edit items path layer =
    passing ((not (is_property_path path), WrongPath) ∷ (not (is_attribute (property_in path layer)), NoSpec) ∷ [])
    (Ok (changed_property path (with_targets edit items) layer))

-- one list of a field: targets and connections are those of a property, all others those of a prim or a variant
abbrev pub list_set : List ℕ → List Element → ListEdit → FieldList → LayerTable → Made LayerTable
list_set name path edit (list.Paths field items) layer = paths_set field edit items path layer
list_set name path edit (list.References field items) layer = references_set name field edit items path layer
list_set name path edit (list.Texts field items) layer = texts_set field edit items path layer
list_set name path edit (list.Targets items) layer = targets_set edit items path layer
list_set name path edit (list.Connections items) layer = connections_set edit items path layer

-- ---- selections and orders

-- a spec that selects this variant for a set, or says nothing of the set
abbrev pub with_selection : List ℕ → Option (List ℕ) → Spec → Spec
with_selection set (Some variant) s = record s { arcs = record s.arcs { selections = with_key text_cmp set variant s.arcs.selections } }
with_selection set None s = record s { arcs = record s.arcs { selections = without_key text_cmp set s.arcs.selections } }

-- a variant of a set, or none
unfoldable pub selection_set : List Element → List ℕ → Option (List ℕ) → LayerTable → Made LayerTable
selection_set path set variant layer =
    passing ((not (is_spec_path path), WrongPath) ∷ (not (has_spec path layer), NoSpec) ∷ [])
    (Ok (changed_spec path (with_selection set variant) layer))

-- `/`, a prim and a variant have an order of children, a prim and a variant one of properties too
abbrev pub takes_order : OrderWord → List Element → Bool
takes_order NameChildren path = is_empty path || is_spec_path path
takes_order PropertyNames path = is_spec_path path

-- a spec with this order of its children or of its properties
abbrev pub with_order : OrderWord → List (List ℕ) → Spec → Spec
with_order NameChildren names s = record s { body = record s.body { child_order = names } }
with_order PropertyNames names s = record s { body = record s.body { property_order = names } }

-- the order of root prims stands in the head
abbrev pub reordered : OrderWord → List (List ℕ) → List Element → LayerTable → LayerTable
reordered word names [] layer = record layer { head = record layer.head { root_order = names } }
reordered word names (e ∷ path) layer = changed_spec (e ∷ path) (with_order word names) layer

-- an order takes the place of the one before, at a path that has such an order and a spec
unfoldable pub order_set : List Element → OrderWord → List (List ℕ) → LayerTable → Made LayerTable
order_set path word names layer =
    passing ((not (takes_order word path), WrongPath) ∷ (not (has_spec path layer), NoSpec) ∷ [])
    (Ok (reordered word names path layer))

-- ---- sublayers

-- all sublayers of the layer are given anew; the offset of each has to be in range
unfoldable pub sublayers_set : List WrittenSubLayer → LayerTable → Made LayerTable
sublayers_set written layer = given OffsetRange (sublayers_of written) (λ sublayers. Ok (record layer { head = record layer.head { sublayers = sublayers } }))
