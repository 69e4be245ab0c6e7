-- A world for arcs whose offset is out of range, and for one without a target.
--   root.usda: def "A" (references = </B> (scale = 1000000)) {}
--              def "B" (references = </C> (scale = 2)) {}
--              def "C" {}
--              def "D" (references = @v.usda@</V>) {}
--              def "E" (references = @t.usda@</T> (scale = 1000000)) {}
--              def "F" (references = </G> (offset = 1000000000)) {}
--              def "G" (references = </C> (offset = 1)) {}
--              def "H" (references = </G> (offset = 999999999)) {}
--              def "N" (references = @n.usda@) {}
--   v.usda:    (subLayers = [@s.usda@ (scale = 1000000)])
--   s.usda:    def "V" (references = @c.usda@</C> (scale = 2)) {}
--   c.usda:    def "C" {}
--   t.usda:    (subLayers = [@c.usda@ (scale = 2)])
--              def "T" {}
--   n.usda:
use Rattle.std.specs.Prelude.{codes, ℤ, pos, [], ◌∷◌, Option, Some, None}
use Rattle.spec_parts.specs.Blank.{blank_arcs, blank_spec}
use Rattle.spec_parts.specs.declared.items.RefItem.{RefItem}
use Rattle.spec_parts.specs.declared.items.Specifier.TheVariants.{Def}
use Rattle.spec_parts.specs.declared.spec.Spec.{Spec}
use Rattle.composition.specs.Texts.{Text}
use Rattle.composition.specs.World.{World}
use Rattle.composition_worlds.specs.Listed.{listed_world}
use Rattle.composition_worlds.specs.Short.{prims, only, item, with_arcs, layer, layer_over, sublayer}

abbrev refers : RefItem → Spec
refers i = with_arcs Def (record blank_arcs { references = only (i ∷ []) })

-- a reference to a root prim, with its offset and scale
abbrev refers_to : Option Text → Text → ℤ → ℤ → Spec
refers_to asset name offset scale = refers (item asset (prims (name ∷ [])) offset scale)

abbrev pub world : World
world = listed_world (codes "root.usda") None ((
  codes "root.usda",
  layer (codes "A" ∷ codes "B" ∷ codes "C" ∷ codes "D" ∷ codes "E" ∷ codes "F" ∷ codes "G" ∷ codes "H" ∷ codes "N" ∷ []) (
      (prims (codes "A" ∷ []), refers_to None (codes "B") (pos 0) (pos 1000000))
      ∷ (prims (codes "B" ∷ []), refers_to None (codes "C") (pos 0) (pos 2))
      ∷ (prims (codes "C" ∷ []), blank_spec Def)
      ∷ (prims (codes "D" ∷ []), refers_to (Some (codes "v.usda")) (codes "V") (pos 0) (pos 1))
      ∷ (prims (codes "E" ∷ []), refers_to (Some (codes "t.usda")) (codes "T") (pos 0) (pos 1000000))
      ∷ (prims (codes "F" ∷ []), refers_to None (codes "G") (pos 1000000000) (pos 1))
      ∷ (prims (codes "G" ∷ []), refers_to None (codes "C") (pos 1) (pos 1))
      ∷ (prims (codes "H" ∷ []), refers_to None (codes "G") (pos 999999999) (pos 1))
      ∷ (prims (codes "N" ∷ []), refers (record { asset = Some (codes "n.usda"); path = None; offset = record { offset = pos 0; scale = pos 1 } }))
      ∷ []),
)
    ∷ (codes "v.usda", layer_over (sublayer (codes "s.usda") (pos 1000000)) [] [])
    ∷ (codes "s.usda", layer (codes "V" ∷ []) ((prims (codes "V" ∷ []), refers_to (Some (codes "c.usda")) (codes "C") (pos 0) (pos 2)) ∷ []))
    ∷ (codes "c.usda", layer (codes "C" ∷ []) ((prims (codes "C" ∷ []), blank_spec Def) ∷ []))
    ∷ (codes "t.usda", layer_over (sublayer (codes "c.usda") (pos 2)) (codes "T" ∷ []) ((prims (codes "T" ∷ []), blank_spec Def) ∷ []))
    ∷ (codes "n.usda", layer [] [])
    ∷ [])
