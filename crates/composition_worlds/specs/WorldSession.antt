-- A world with a session layer, for the root of the stage.
--   s.usda:    ("of the session" defaultPrim = "S")
--              def "S" {}
--   root.usda: ("of the root" subLayers = [@w.usda@] defaultPrim = "R" upAxis = "Y")
--              def "A" {}
--              def "R" {}
--   w.usda:    (metersPerUnit = 1 upAxis = "Z")
--              def "W" {}
use Rattle.std.specs.Prelude.{codes, pos, [], ◌∷◌, Some}
use Rattle.spec_parts.specs.Blank.{blank_head, blank_spec}
use Rattle.spec_parts.specs.declared.items.Specifier.TheVariants.{Def}
use Rattle.sdf_values.specs.declared.value.Value.TheVariants as value
use Rattle.composition.specs.World.{World}
use Rattle.composition_worlds.specs.Listed.{present, listed_world}
use Rattle.composition_worlds.specs.Short.{prims, sublayer}

abbrev pub world : World
world = listed_world (codes "root.usda") (Some (codes "s.usda")) ((
  codes "s.usda",
  present (record {
    head = record blank_head { default_prim = Some (codes "S"); meta = (codes "comment", value.Text (codes "of the session")) ∷ []; root_names = codes "S" ∷ [] };
    specs = (prims (codes "S" ∷ []), blank_spec Def) ∷ [];
  }),
)
    ∷ (
      codes "root.usda",
      present (record {
        head = record blank_head {
          sublayers = sublayer (codes "w.usda") (pos 1) ∷ [];
          default_prim = Some (codes "R");
          meta = (codes "comment", value.Text (codes "of the root")) ∷ (codes "upAxis", value.Text (codes "Y")) ∷ [];
          root_names = codes "A" ∷ codes "R" ∷ [];
        };
        specs = (prims (codes "A" ∷ []), blank_spec Def) ∷ (prims (codes "R" ∷ []), blank_spec Def) ∷ [];
      }),
    )
    ∷ (
      codes "w.usda",
      present (record {
        head = record blank_head { meta = (codes "metersPerUnit", value.Whole (pos 1)) ∷ (codes "upAxis", value.Text (codes "Z")) ∷ []; root_names = codes "W" ∷ [] };
        specs = (prims (codes "W" ∷ []), blank_spec Def) ∷ [];
      }),
    )
    ∷ [])
