-- Metadata of prims and layers. Beside each example stands the line of a script that says so.
use Rattle.std.specs.Prelude.{pos, true, [], ◌∷◌, codes, Some}
use Rattle.edit_batches.specs.declared.fault.EditFault.TheVariants.{NoSpec, ValueShape}
use Rattle.edit_batches.specs.declared.op.Op.TheVariants as op
use Rattle.sdf_specs.specs.Layers.{LayerTable}
use Rattle.sdf_values.specs.declared.decimal.Num.TheVariants.{Finite}
use Rattle.sdf_values.specs.declared.value.Value.TheVariants as value
use Rattle.spec_parts.specs.Blank.{blank_head, blank_body, blank_spec}
use Rattle.spec_parts.specs.declared.items.Specifier.TheVariants.{Def}
use Rattle.spec_properties.specs.Entries.{MetaEntries}
use Rattle.edit_examples.specs.Fields.{headed}
use Rattle.edit_examples.specs.Worlds.{a, b, whole, layer_of, root, Makes, Fails}

-- def "A", with this metadata
abbrev pub described : MetaEntries → LayerTable
described meta = layer_of ((a, record (blank_spec Def) { body = record (blank_body Def) { meta = meta } }) ∷ [])

pub record GivenAreTold : Type 0 where
  -- `meta @root.usda@ /A kind = "component"`: keys stand in the order of their bytes
  pub text :
      Makes (op.SetMeta root a (codes "kind") (value.Text (codes "component"))) (described ((codes "lod", whole 2) ∷ []))
      (described ((codes "kind", value.Text (codes "component")) ∷ (codes "lod", whole 2) ∷ []))
  -- `meta @root.usda@ /A lod = 2.0`: a number that is whole is kept as such, however it is written
  pub number : Makes (op.SetMeta root a (codes "lod") (value.Number (Finite (record { digits = pos 2; exp = pos 0 })))) (described []) (described ((codes "lod", whole 2) ∷ []))
  -- `meta @root.usda@ /A hidden = 1`, and with "yes": the key wants a truth value
  pub truth : Makes (op.SetMeta root a (codes "hidden") (whole 1)) (described []) (described ((codes "hidden", value.Bool true) ∷ []))
  pub no_truth : Fails (op.SetMeta root a (codes "hidden") (value.Text (codes "yes"))) (described []) ValueShape
  -- `meta @root.usda@ / upAxis = "Y"`: `/` is the layer
  pub layer : Makes (op.SetMeta root [] (codes "upAxis") (value.Text (codes "Y"))) (headed blank_head) (headed (record blank_head { meta = (codes "upAxis", value.Text (codes "Y")) ∷ [] }))
  -- `meta @root.usda@ / comment = 5`: a comment is a string
  pub comment : Fails (op.SetMeta root [] (codes "comment") (whole 5)) (headed blank_head) ValueShape
  -- `meta @root.usda@ /B lod = 2`, where there is no /B
  pub no_prim : Fails (op.SetMeta root b (codes "lod") (whole 2)) (described []) NoSpec

pub record TakenAreTold : Type 0 where
  -- `unmeta @root.usda@ /A lod`: what is not there may be taken away
  pub entry : Makes (op.ClearMeta root a (codes "lod")) (described ((codes "lod", whole 2) ∷ [])) (described [])
  pub no_entry : Makes (op.ClearMeta root a (codes "lod")) (described []) (described [])
  -- `unmeta @root.usda@ / defaultPrim`
  pub default_prim : Makes (op.ClearMeta root [] (codes "defaultPrim")) (headed (record blank_head { default_prim = Some (codes "A") })) (headed blank_head)
  -- `unmeta @root.usda@ /B lod`
  pub no_prim : Fails (op.ClearMeta root b (codes "lod")) (described []) NoSpec

pub record AreTold : Type 0 where
  pub given : GivenAreTold
  pub taken : TakenAreTold
