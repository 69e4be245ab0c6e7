-- A world for specifiers and types.
--   root.usda: (subLayers = [@w.usda@])
--              class Cube "_t" {}
--              over "A" (inherits = </_t>) {}
--              over "B" {}
--              def Sphere "C" {}
--              over "D" (inherits = </_t> references = </C>) {}
--              class "E" (references = </C>) {}
--              over "F" {}
--              def Mesh "G" {}
--              over "H" (references = </I>) {}
--   w.usda:    def Xform "F" {}
--              class Xform "G" {}
--              over "I" (inherits = </_t>) {}
use Rattle.std.specs.Prelude.{codes, pos, [], ◌∷◌, None}
use Rattle.spec_parts.specs.Blank.{blank_arcs, blank_spec}
use Rattle.spec_parts.specs.declared.items.Specifier.TheVariants.{Def, Over, Class}
use Rattle.composition.specs.World.{World}
use Rattle.composition.specs.Paths.{Path}
use Rattle.composition_worlds.specs.Listed.{listed_world}
use Rattle.composition_worlds.specs.Short.{prims, only, plain_item, with_arcs, typed, layer, layer_over, sublayer}

abbrev the_class : Path
the_class = prims (codes "_t" ∷ [])

abbrev the_sphere : Path
the_sphere = prims (codes "C" ∷ [])

abbrev pub world : World
world = listed_world (codes "root.usda") None ((
  codes "root.usda",
  layer_over (sublayer (codes "w.usda") (pos 1)) (codes "_t" ∷ codes "A" ∷ codes "B" ∷ codes "C" ∷ codes "D" ∷ codes "E" ∷ codes "F" ∷ codes "G" ∷ codes "H" ∷ []) (
      (the_class, typed Class (codes "Cube"))
      ∷ (prims (codes "A" ∷ []), with_arcs Over (record blank_arcs { inherits = only (the_class ∷ []) }))
      ∷ (prims (codes "B" ∷ []), blank_spec Over)
      ∷ (the_sphere, typed Def (codes "Sphere"))
      ∷ (prims (codes "D" ∷ []), with_arcs Over (record blank_arcs { inherits = only (the_class ∷ []); references = only (plain_item None the_sphere ∷ []) }))
      ∷ (prims (codes "E" ∷ []), with_arcs Class (record blank_arcs { references = only (plain_item None the_sphere ∷ []) }))
      ∷ (prims (codes "F" ∷ []), blank_spec Over)
      ∷ (prims (codes "G" ∷ []), typed Def (codes "Mesh"))
      ∷ (prims (codes "H" ∷ []), with_arcs Over (record blank_arcs { references = only (plain_item None (prims (codes "I" ∷ [])) ∷ []) }))
      ∷ []),
)
    ∷ (
      codes "w.usda",
      layer (codes "F" ∷ codes "G" ∷ codes "I" ∷ []) (
          (prims (codes "F" ∷ []), typed Def (codes "Xform"))
          ∷ (prims (codes "G" ∷ []), typed Class (codes "Xform"))
          ∷ (prims (codes "I" ∷ []), with_arcs Over (record blank_arcs { inherits = only (the_class ∷ []) }))
          ∷ []),
    )
    ∷ [])
