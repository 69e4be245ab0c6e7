-- The parts of a world that each operation may change.
use Rattle.std.specs.Prelude.{ℕ, Bool, false, ◌&&◌, List, [], ◌∷◌, Option, Some, None}
use Rattle.std.specs.BTreeMap.{is_at}
use Rattle.std.specs.List.{list_any}
use Rattle.sdf_paths.specs.Order.{text_cmp}
use Rattle.sdf_paths.specs.Paths.{has_prefix}
use Rattle.sdf_paths.specs.declared.element.Element.{Element}
use Rattle.sdf_paths.specs.declared.element.Element.TheVariants.{Property as Named}
use Rattle.usda_fields.specs.declared.field.TextField.TheVariants.{VariantSets, ApiSchemas, ClipSets}
use Rattle.layer_set.specs.declared.key.Key.{Key}
use Rattle.layer_set.specs.declared.key.Key.TheVariants.{Head, Arcs, Body, Load}
use Rattle.layer_edit.specs.Places.{last_element, above}
use Rattle.edit_batches.specs.declared.op.FieldList.{FieldList}
use Rattle.edit_batches.specs.declared.op.FieldList.TheVariants as list
use Rattle.edit_batches.specs.declared.op.Op.{Op}
use Rattle.edit_batches.specs.declared.op.Op.TheVariants as op
use Rattle.key_sets.specs.Order.{key_cmp}
use Rattle.layer_changes.specs.declared.part.Part.{Part}
use Rattle.layer_changes.specs.declared.part.Part.TheVariants.{At, Below}

-- ---- parts

-- a path of the layer of this name, at the front or below it
abbrev pub is_below : List ℕ → List Element → List ℕ → List Element → Bool
is_below name front n q = is_at (text_cmp n) name && has_prefix front q

-- the key is of the part
abbrev pub is_in : Part → Key → Bool
is_in (At j) k = is_at (key_cmp k) j
is_in (Below name front) (Head n) = false
is_in (Below name front) (Arcs n q) = is_below name front n q
is_in (Below name front) (Body n q) = is_below name front n q
is_in (Below name front) (Load q) = false

-- the key is of one of the parts
abbrev pub is_among : List Part → Key → Bool
is_among parts k = list_any (λ part. is_in part k) parts

-- ---- of operations

-- all of a layer
abbrev pub of_layer : List ℕ → List Part
of_layer name = At (Head name) ∷ Below name [] ∷ []

-- the head of a layer
abbrev pub of_head : List ℕ → List Part
of_head name = At (Head name) ∷ []

-- the arcs at a path
abbrev pub of_arcs : List ℕ → List Element → List Part
of_arcs name path = At (Arcs name path) ∷ []

-- the body at a path
abbrev pub of_body : List ℕ → List Element → List Part
of_body name path = At (Body name path) ∷ []

-- the body of the owner, in which a property stands
abbrev pub of_owner : List ℕ → List Element → List Part
of_owner name path = At (Body name (above path)) ∷ []

-- a spec that is added, and its owner, which names it
abbrev pub of_new : List ℕ → List Element → List Part
of_new name path = At (Arcs name path) ∷ At (Body name path) ∷ At (Body name (above path)) ∷ []

-- what stands at a path and below it, and its owner, which names it no more
abbrev pub of_tree : List ℕ → List Element → List Part
of_tree name path = At (Body name (above path)) ∷ Below name path ∷ []

-- the load rule at a path
abbrev pub of_rule : List Element → List Part
of_rule path = At (Load path) ∷ []

-- the part in which the metadata of a path stand, by what the path ends in
abbrev pub of_meta_by : Option Element → List ℕ → List Element → List Part
of_meta_by None name path = of_head name
of_meta_by (Some (Named property)) name path = of_owner name path
of_meta_by (Some e) name path = of_body name path

-- metadata stand in the head, in a body, or with a property in the body of its owner
abbrev pub of_meta : List ℕ → List Element → List Part
of_meta name path = of_meta_by (last_element path) name path

-- a list stands in the arcs, in the body, or with a property in the body of its owner
abbrev pub of_list : List ℕ → List Element → FieldList → List Part
of_list name path (list.Paths field items) = of_arcs name path
of_list name path (list.References field items) = of_arcs name path
of_list name path (list.Texts VariantSets items) = of_arcs name path
of_list name path (list.Texts ApiSchemas items) = of_body name path
of_list name path (list.Texts ClipSets items) = of_body name path
of_list name path (list.Targets items) = of_owner name path
of_list name path (list.Connections items) = of_owner name path

-- the parts that an operation may change
abbrev pub parts_of : Op → List Part
parts_of (op.NewLayer layer text) = of_layer layer
parts_of (op.AddPrim layer path specifier type_name) = of_new layer path
parts_of (op.AddVariant layer path) = of_new layer path
parts_of (op.AddAttribute layer path ty custom uniform) = of_owner layer path
parts_of (op.AddRelationship layer path custom) = of_owner layer path
parts_of (op.Remove layer path) = of_tree layer path
parts_of (op.SetDefault layer path value) = of_owner layer path
parts_of (op.ClearDefault layer path) = of_owner layer path
parts_of (op.SetSample layer path time value) = of_owner layer path
parts_of (op.ClearSample layer path time) = of_owner layer path
parts_of (op.SetMeta layer path key value) = of_meta layer path
parts_of (op.ClearMeta layer path key) = of_meta layer path
parts_of (op.SetList layer path edit list) = of_list layer path list
parts_of (op.Select layer path set variant) = of_arcs layer path
parts_of (op.Unselect layer path set) = of_arcs layer path
parts_of (op.SetOrder layer path word names) = of_body layer path
parts_of (op.SetSublayers layer sublayers) = of_head layer
parts_of (op.Load path) = of_rule path
parts_of (op.Unload path) = of_rule path
parts_of (op.Unrule path) = of_rule path
parts_of (op.PutLayer id held) = of_layer id
