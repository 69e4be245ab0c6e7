-- Prims, variants and properties that are added and removed. Beside each example stands the line of a script that says so.
use Rattle.std.specs.Prelude.{true, false, [], ◌∷◌, codes, Some, None}
use Rattle.edit_batches.specs.declared.fault.EditFault.TheVariants.{NoLayer, WrongPath, NoParent, NoSpec, SpecThere, NoSuchType}
use Rattle.edit_batches.specs.declared.op.Op.TheVariants as op
use Rattle.sdf_paths.specs.declared.element.Element.TheVariants.{Prim, Property as Named}
use Rattle.sdf_specs.specs.Layers.{LayerTable}
use Rattle.sdf_values.specs.declared.type_name.ElementType.TheVariants as element
use Rattle.sdf_values.specs.declared.type_name.Precision.TheVariants.{Float}
use Rattle.sdf_values.specs.Conforms.{one}
use Rattle.spec_parts.specs.Blank.{blank_head, blank_body, blank_spec, no_edits}
use Rattle.spec_parts.specs.declared.items.Specifier.TheVariants.{Def, Over}
use Rattle.spec_properties.specs.declared.property.Property.TheVariants.{Attr}
use Rattle.edit_examples.specs.Worlds.{a, a_k, a_m, a_chosen, b, of_a, whole, int_x, rel_r, def_a, layer_of, start, root, Makes, Fails}

pub record AddedAreTold : Type 0 where
  -- `spec def @root.usda@ /A/m Xform`: it becomes the last child of its parent
  pub child :
      Makes (op.AddPrim root a_m Def (Some (codes "Xform"))) start
      (layer_of (
      (a, def_a (int_x (Some (whole 1)) [] ∷ rel_r ∷ []) (codes "k" ∷ codes "m" ∷ []))
      ∷ (a_k, blank_spec Def)
      ∷ (a_m, record (blank_spec Def) { body = record (blank_body Def) { type_name = Some (codes "Xform") } })
      ∷ []
      ))
  -- `spec over @root.usda@ /B`: a root prim, which stands below `/`
  pub root_prim : Makes (op.AddPrim root b Over None) (layer_of ((a, blank_spec Def) ∷ []))
      (record { head = record blank_head { root_names = codes "A" ∷ codes "B" ∷ [] }; specs = (a, blank_spec Def) ∷ (b, blank_spec Over) ∷ [] })
  -- `variant @root.usda@ /A{s=v}`: its set comes with it
  pub variant : Makes (op.AddVariant root a_chosen) (layer_of ((a, blank_spec Def) ∷ []))
      (layer_of (
      (a, record (blank_spec Def) { body = record (blank_body Def) { variant_names = record { set = codes "s"; variants = codes "v" ∷ [] } ∷ [] } })
      ∷ (a_chosen, blank_spec Over)
      ∷ []
      ))
  -- `attr @root.usda@ /A.y float custom`: it becomes the last property, without a value
  pub attribute : Makes (op.AddAttribute root (of_a (codes "y")) (Some (one (element.Real Float))) true false) (layer_of ((a, def_a (rel_r ∷ []) []) ∷ []))
      (layer_of ((a, def_a (rel_r ∷ Attr (codes "y") (one (element.Real Float)) true false None [] no_edits [] ∷ []) []) ∷ []))
  -- `rel @root.usda@ /A.r`
  pub relationship : Makes (op.AddRelationship root (of_a (codes "r")) false) (layer_of ((a, blank_spec Def) ∷ [])) (layer_of ((a, def_a (rel_r ∷ []) []) ∷ []))

pub record NotAddedAreTold : Type 0 where
  -- `spec def @root.usda@ /B/k`, where there is no /B
  pub no_parent : Fails (op.AddPrim root (Prim (codes "B") ∷ Prim (codes "k") ∷ []) Def None) start NoParent
  -- `spec over @root.usda@ /A/k`: an `over` too finds the spec there
  pub spec_there : Fails (op.AddPrim root a_k Over None) start SpecThere
  -- `spec def @root.usda@ /A.y` and `/`: a prim has a name
  pub property_path : Fails (op.AddPrim root (of_a (codes "y")) Def None) start WrongPath
  pub root_path : Fails (op.AddPrim root [] Def None) start WrongPath
  -- `variant @root.usda@ /A`: a variant has a set
  pub prim_path : Fails (op.AddVariant root a) start WrongPath
  -- `variant @root.usda@ /B.y`, where there is no /B: the kind of the path is judged before its parent
  pub path_first : Fails (op.AddVariant root (Prim (codes "B") ∷ Named (codes "y") ∷ [])) start WrongPath
  -- `rel @root.usda@ /A.x`: attributes and relationships have one set of names
  pub name_there : Fails (op.AddRelationship root (of_a (codes "x")) false) start SpecThere
  -- `attr @root.usda@ /A.y integer`: there is no such type, which is judged last
  pub no_type : Fails (op.AddAttribute root (of_a (codes "y")) None false false) start NoSuchType
  pub type_last : Fails (op.AddAttribute root (of_a (codes "x")) None false false) start SpecThere
  -- `spec def @m.usda@ /`, where there is no layer m.usda: that is judged before the path
  pub no_layer : Fails (op.AddPrim (codes "m.usda") [] Def None) start NoLayer

-- a layer without prims
abbrev pub nothing : LayerTable
nothing = record { head = blank_head; specs = [] }

pub record RemovedAreTold : Type 0 where
  -- `remove @root.usda@ /A`: all below it goes, too
  pub tree : Makes (op.Remove root a) start nothing
  -- `remove @root.usda@ /A/k`
  pub child : Makes (op.Remove root a_k) start (layer_of ((a, def_a (int_x (Some (whole 1)) [] ∷ rel_r ∷ []) []) ∷ []))
  -- `remove @root.usda@ /A{s=v}`: the last variant takes its set along
  pub variant :
      Makes (op.Remove root a_chosen)
      (layer_of (
      (a, record (blank_spec Def) { body = record (blank_body Def) { variant_names = record { set = codes "s"; variants = codes "v" ∷ [] } ∷ [] } })
      ∷ (a_chosen, blank_spec Over)
      ∷ []
      ))
      (layer_of ((a, blank_spec Def) ∷ []))
  -- `remove @root.usda@ /A.x`
  pub property : Makes (op.Remove root (of_a (codes "x"))) start (layer_of ((a, def_a (rel_r ∷ []) (codes "k" ∷ [])) ∷ (a_k, blank_spec Def) ∷ []))
  -- `remove @root.usda@ /A/m`, `/A.y` and `/`
  pub no_prim : Fails (op.Remove root a_m) start NoSpec
  pub no_property : Fails (op.Remove root (of_a (codes "y"))) start NoSpec
  pub root_path : Fails (op.Remove root []) start WrongPath

pub record AreTold : Type 0 where
  pub added : AddedAreTold
  pub not_added : NotAddedAreTold
  pub removed : RemovedAreTold
