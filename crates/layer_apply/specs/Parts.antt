-- Operations by what they are on: one layer that is present, or the world.
use Rattle.std.specs.Prelude.{ℕ, true, false, List, Option, Some, None, Ok}
use Rattle.sdf_specs.specs.Layers.{LayerTable}
use Rattle.layer_set.specs.Worlds.{WorldData}
use Rattle.layer_edit.specs.Outcomes.{Made}
use Rattle.layer_edit.specs.Prims.{prim_added, variant_added, removed}
use Rattle.layer_edit.specs.Properties.{attribute_added, relationship_added, default_set, default_cleared, sample_set, sample_cleared}
use Rattle.layer_edit.specs.Metadata.{meta_set, meta_cleared}
use Rattle.layer_edit.specs.Fields.{list_set, selection_set, order_set, sublayers_set}
use Rattle.edit_batches.specs.declared.op.Op.{Op}
use Rattle.edit_batches.specs.declared.op.Op.TheVariants as op
use Rattle.layer_apply.specs.Edits.{layer_added, layer_put, rule_set}

-- the layer that has to be present
abbrev pub layer_of : Op → Option (List ℕ)
layer_of (op.NewLayer layer text) = None
layer_of (op.AddPrim layer path specifier type_name) = Some layer
layer_of (op.AddVariant layer path) = Some layer
layer_of (op.AddAttribute layer path ty custom uniform) = Some layer
layer_of (op.AddRelationship layer path custom) = Some layer
layer_of (op.Remove layer path) = Some layer
layer_of (op.SetDefault layer path value) = Some layer
layer_of (op.ClearDefault layer path) = Some layer
layer_of (op.SetSample layer path time value) = Some layer
layer_of (op.ClearSample layer path time) = Some layer
layer_of (op.SetMeta layer path key value) = Some layer
layer_of (op.ClearMeta layer path key) = Some layer
layer_of (op.SetList layer path edit list) = Some layer
layer_of (op.Select layer path set variant) = Some layer
layer_of (op.Unselect layer path set) = Some layer
layer_of (op.SetOrder layer path word names) = Some layer
layer_of (op.SetSublayers layer sublayers) = Some layer
layer_of (op.Load path) = None
layer_of (op.Unload path) = None
layer_of (op.Unrule path) = None
layer_of (op.PutLayer id held) = None

-- what an operation on a layer makes of it
abbrev pub layer_edited : Op → LayerTable → Made LayerTable
layer_edited (op.NewLayer layer text) = Ok
layer_edited (op.AddPrim layer path specifier type_name) = prim_added path specifier type_name
layer_edited (op.AddVariant layer path) = variant_added path
layer_edited (op.AddAttribute layer path ty custom uniform) = attribute_added path ty custom uniform
layer_edited (op.AddRelationship layer path custom) = relationship_added path custom
layer_edited (op.Remove layer path) = removed path
layer_edited (op.SetDefault layer path value) = default_set path value
layer_edited (op.ClearDefault layer path) = default_cleared path
layer_edited (op.SetSample layer path time value) = sample_set path time value
layer_edited (op.ClearSample layer path time) = sample_cleared path time
layer_edited (op.SetMeta layer path key value) = meta_set path key value
layer_edited (op.ClearMeta layer path key) = meta_cleared path key
layer_edited (op.SetList layer path edit list) = list_set layer path edit list
layer_edited (op.Select layer path set variant) = selection_set path set (Some variant)
layer_edited (op.Unselect layer path set) = selection_set path set None
layer_edited (op.SetOrder layer path word names) = order_set path word names
layer_edited (op.SetSublayers layer sublayers) = sublayers_set sublayers
layer_edited (op.Load path) = Ok
layer_edited (op.Unload path) = Ok
layer_edited (op.Unrule path) = Ok
layer_edited (op.PutLayer id held) = Ok

-- what the other operations make of a world
abbrev pub world_edited : Op → WorldData → Made WorldData
world_edited (op.NewLayer layer text) = layer_added layer text
world_edited (op.AddPrim layer path specifier type_name) = Ok
world_edited (op.AddVariant layer path) = Ok
world_edited (op.AddAttribute layer path ty custom uniform) = Ok
world_edited (op.AddRelationship layer path custom) = Ok
world_edited (op.Remove layer path) = Ok
world_edited (op.SetDefault layer path value) = Ok
world_edited (op.ClearDefault layer path) = Ok
world_edited (op.SetSample layer path time value) = Ok
world_edited (op.ClearSample layer path time) = Ok
world_edited (op.SetMeta layer path key value) = Ok
world_edited (op.ClearMeta layer path key) = Ok
world_edited (op.SetList layer path edit list) = Ok
world_edited (op.Select layer path set variant) = Ok
world_edited (op.Unselect layer path set) = Ok
world_edited (op.SetOrder layer path word names) = Ok
world_edited (op.SetSublayers layer sublayers) = Ok
world_edited (op.Load path) = rule_set path (Some true)
world_edited (op.Unload path) = rule_set path (Some false)
world_edited (op.Unrule path) = rule_set path None
world_edited (op.PutLayer id held) = layer_put id held
