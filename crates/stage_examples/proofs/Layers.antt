-- Stages as layers: they compute, but for the text of the default prim.
use Rattle.std.proofs.Common.{ℕ, List, [], ◌∷◌, Option, refl, ap}
use Rattle.std.specs.Prelude.{codes, pos}
use Rattle.sdf_specs.specs.Keys.{default_key}
use Rattle.flatten.specs.Flattened.{Stage, flat_body, flat_spec, default_in, beside_default, flat_head, head_of, with_prim, with_prims, flat_layer}
use Rattle.sdf_specs.specs.Layers.{LayerTable}
use Rattle.sdf_values.specs.declared.value.Value.TheVariants as value
use Rattle.spec_parts.specs.declared.spec.Head.{Head}
use Rattle.spec_properties.specs.Entries.{MetaEntries}
use Rattle.stage_examples.proofs.Values.{text_is, whole_is_none}
use Rattle.stage_examples.specs.Flattening.{whole, small_stage, PropertiesAreTold, PrimsAreTold, HeadsAreTold, LayersAreTold, AreTold}

-- what has to be unfolded for a head, a spec and a layer to compute
unfoldable of_heads : Unit {0}
unfolding flat_head default_in default_key beside_default
of_heads = tt

unfoldable of_specs : Unit {0}
unfolding flat_spec flat_body
of_specs = tt

unfoldable of_layers : Unit {0}
unfolding of_heads of_specs flat_layer head_of with_prim
of_layers = tt

-- the head that metadata and children of `/` give, where the metadata names this default prim
abbrev headed : MetaEntries → List (List ℕ) → Option (List ℕ) → Head
headed meta names prim = record { sublayers = []; default_prim = prim; meta = beside_default prim meta; root_names = names; root_order = [] }

-- the same with the specs of a stage
abbrev layered : Stage → MetaEntries → List (List ℕ) → Option (List ℕ) → LayerTable
layered stage meta names prim = record { head = headed meta names prim; specs = with_prims stage [] }

-- the metadata (defaultPrim = "A" upAxis = "Y")
abbrev with_prim_a : MetaEntries
with_prim_a = (codes "defaultPrim", value.Text (codes "A")) ∷ (codes "upAxis", value.Text (codes "Y")) ∷ []

properties : PropertiesAreTold
properties = record {
  default = refl;
  blocked = refl;
  declared = refl;
  sampled = refl;
  marked = refl;
  connected = refl;
  targets = refl;
  no_targets = refl;
  no_opinion = refl;
}

prims : PrimsAreTold
unfolding of_specs
prims = record { spec = refl; class = refl; over = refl }

heads : HeadsAreTold
unfolding of_heads
heads = record {
  blank = refl;
  default_prim = ap (headed with_prim_a []) (text_is (codes "A"));
  no_prim = ap (headed ((codes "defaultPrim", whole 5) ∷ []) []) (whole_is_none (pos 5));
  no_default_prim = refl;
  root_prims = refl;
}

layers : LayersAreTold
unfolding of_layers
layers = record {
  nothing = refl;
  root_alone = refl;
  small = ap (layered small_stage with_prim_a (codes "A" ∷ [])) (text_is (codes "A"));
  ordered = refl;
}

pub are_told : AreTold
are_told = record { properties = properties; prims = prims; heads = heads; layers = layers }
