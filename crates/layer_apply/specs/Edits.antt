-- What each operation makes of a world, and what a batch of them makes of it, or why it is refused.
use Rattle.std.specs.Prelude.{ℕ, suc, Bool, true, false, not, ◌&&◌, ◌||◌, nat_le, List, [], ◌∷◌, length, Option, Some, None, is_some, Result, Ok, Err}
use Rattle.sdf_paths.specs.declared.element.Element.{Element}
use Rattle.sdf_specs.specs.Layers.{LayerTable}
use Rattle.spec_parts.specs.Blank.{blank_head}
use Rattle.spec_parts.specs.declared.items.Refusal.{Refusal}
use Rattle.spec_properties.specs.Properties.{same_name}
use Rattle.usda_reader.specs.Reading.{read}
use Rattle.layer_set.specs.Named.{at_name}
use Rattle.layer_set.specs.Rules.{with_rule}
use Rattle.layer_set.specs.Worlds.{WorldData, is_present, held_at, present_layer, with_held}
use Rattle.layer_set.specs.declared.held.Held.{Held}
use Rattle.layer_set.specs.declared.held.Held.TheVariants.{Present}
use Rattle.layer_edit.specs.Outcomes.{Made, passing, given}
use Rattle.layer_edit.specs.Places.{is_plain_prim}
use Rattle.layer_edit.specs.Prims.{prim_added, variant_added, removed}
use Rattle.layer_edit.specs.Properties.{attribute_added, relationship_added, default_set, default_cleared, sample_set, sample_cleared}
use Rattle.layer_edit.specs.Metadata.{meta_set, meta_cleared}
use Rattle.layer_edit.specs.Fields.{list_set, selection_set, order_set, sublayers_set}
use Rattle.edit_batches.specs.declared.fault.EditFault.{EditFault}
use Rattle.edit_batches.specs.declared.fault.EditFault.TheVariants.{NoLayer, LayerThere, LayerLimit, RootLayer, LayerText, WrongPath}
use Rattle.edit_batches.specs.declared.op.Op.{Op}
use Rattle.edit_batches.specs.declared.op.Op.TheVariants as op

-- ---- layers that are present

-- the world with what is made of a layer
abbrev pub put_back : List ℕ → Made LayerTable → WorldData → Made WorldData
put_back name (Ok layer) w = Ok (with_held name (Present layer) w)
put_back name (Err fault) w = Err fault

-- an edit of the layer of a name, which has to be present
unfoldable pub in_layer : List ℕ → (LayerTable → Made LayerTable) → WorldData → Made WorldData
in_layer name change w = given NoLayer (present_layer (held_at w name)) (λ layer. put_back name (change layer) w)

-- ---- whole layers

-- the name would be one too many
abbrev pub is_over : List ℕ → WorldData → Bool
is_over name w = not (is_some (at_name name w.layers)) && nat_le 4096 (length w.layers)

-- a layer with nothing in it
abbrev pub blank_layer : LayerTable
blank_layer = record { head = blank_head; specs = [] }

-- the layer of a text, or the fault that tells why the text is refused
abbrev pub layer_or_fault : Result LayerTable Refusal → Made LayerTable
layer_or_fault (Ok layer) = Ok layer
layer_or_fault (Err refusal) = Err (LayerText refusal)

-- an empty layer, or the layer of a text
abbrev pub new_layer : Option (List ℕ) → Made LayerTable
new_layer None = Ok blank_layer
new_layer (Some text) = layer_or_fault (read text)

-- a new layer takes a name where no layer is present, within the limit of names; its text is judged last
unfoldable pub layer_added : List ℕ → Option (List ℕ) → WorldData → Made WorldData
layer_added name text w =
    passing ((is_present (held_at w name), LayerThere) ∷ (is_over name w, LayerLimit) ∷ [])
    (put_back name (new_layer text) w)

-- the name is this other one, if there is one
abbrev pub is_named : List ℕ → Option (List ℕ) → Bool
is_named name (Some other) = same_name name other
is_named name None = false

-- the name of the root or the session layer
abbrev pub is_root_name : List ℕ → WorldData → Bool
is_root_name name w = same_name name w.root || is_named name w.session

-- what stands at a name is given anew; the root and the session layer stay present, and names within their limit
unfoldable pub layer_put : List ℕ → Held → WorldData → Made WorldData
layer_put name held w =
    passing ((is_root_name name w && not (is_present held), RootLayer) ∷ (is_over name w, LayerLimit) ∷ [])
    (Ok (with_held name held w))

-- ---- load rules

-- a load rule at a path of a prim without selections, or none any more; whether a prim is there is not asked
unfoldable pub rule_set : List Element → Option Bool → WorldData → Made WorldData
rule_set path rule w = passing ((not (is_plain_prim path), WrongPath) ∷ []) (Ok (record w { rules = with_rule path rule w.rules }))

-- ---- operations

-- what an operation makes of a world, or why it is refused
abbrev pub edited : Op → WorldData → Made WorldData
edited (op.NewLayer layer text) = layer_added layer text
edited (op.AddPrim layer path specifier type_name) = in_layer layer (prim_added path specifier type_name)
edited (op.AddVariant layer path) = in_layer layer (variant_added path)
edited (op.AddAttribute layer path ty custom uniform) = in_layer layer (attribute_added path ty custom uniform)
edited (op.AddRelationship layer path custom) = in_layer layer (relationship_added path custom)
edited (op.Remove layer path) = in_layer layer (removed path)
edited (op.SetDefault layer path value) = in_layer layer (default_set path value)
edited (op.ClearDefault layer path) = in_layer layer (default_cleared path)
edited (op.SetSample layer path time value) = in_layer layer (sample_set path time value)
edited (op.ClearSample layer path time) = in_layer layer (sample_cleared path time)
edited (op.SetMeta layer path key value) = in_layer layer (meta_set path key value)
edited (op.ClearMeta layer path key) = in_layer layer (meta_cleared path key)
edited (op.SetList layer path edit list) = in_layer layer (list_set layer path edit list)
edited (op.Select layer path set variant) = in_layer layer (selection_set path set (Some variant))
edited (op.Unselect layer path set) = in_layer layer (selection_set path set None)
edited (op.SetOrder layer path word names) = in_layer layer (order_set path word names)
edited (op.SetSublayers layer sublayers) = in_layer layer (sublayers_set sublayers)
edited (op.Load path) = rule_set path (Some true)
edited (op.Unload path) = rule_set path (Some false)
edited (op.Unrule path) = rule_set path None
edited (op.PutLayer id held) = layer_put id held

-- ---- batches

-- a world, or the number of an operation and its fault
abbrev pub Edited : Type 0
Edited = Result WorldData (ℕ × EditFault)

-- what goes on behind an operation of this number
abbrev pub proceed : ℕ → (WorldData → Edited) → Made WorldData → Edited
proceed number rest (Ok w) = rest w
proceed number rest (Err fault) = Err (number, fault)

-- each operation on the world as those before it left it; the first has this number
abbrev pub edit_from : ℕ → List Op → WorldData → Edited
edit_from number [] w = Ok w
edit_from number (op ∷ ops) w = proceed number (edit_from (suc number) ops) (edited op w)

-- the world after a batch, or its first refused operation, counted from 1, with the fault
unfoldable pub edit : WorldData → List Op → Edited
edit w ops = edit_from 1 ops w
