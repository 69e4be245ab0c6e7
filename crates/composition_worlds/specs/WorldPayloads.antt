-- A world for load rules.
--   root.usda: def "A" (payload = @p.usda@</P>) { def "B" (payload = @p.usda@</Q>) {} }
--              def "C" (payload = @no.usda@</X>) {}
--   p.usda:    def "P" { def "k" {} }
--              def "Q" { def "m" {} }
use Rattle.std.specs.Prelude.{codes, Bool, [], ◌∷◌, List, Some, None}
use Rattle.spec_parts.specs.Blank.{blank_arcs, blank_spec}
use Rattle.spec_parts.specs.declared.items.Specifier.TheVariants.{Def}
use Rattle.spec_parts.specs.declared.spec.ArcPart.{ArcPart}
use Rattle.composition.specs.Texts.{Text}
use Rattle.composition.specs.Paths.{Path}
use Rattle.composition.specs.World.{World}
use Rattle.composition_worlds.specs.Listed.{listed_world}
use Rattle.composition_worlds.specs.Short.{prims, only, plain_item, with_arcs, with_children, layer, ruled}

abbrev loading : Text → Text → ArcPart
loading asset name = record blank_arcs { payloads = only (plain_item (Some asset) (prims (name ∷ [])) ∷ []) }

abbrev pub world : World
world = listed_world (codes "root.usda") None ((
  codes "root.usda",
  layer (codes "A" ∷ codes "C" ∷ []) (
      (prims (codes "A" ∷ []), with_children Def (codes "B" ∷ []) (loading (codes "p.usda") (codes "P")))
      ∷ (prims (codes "A" ∷ codes "B" ∷ []), with_arcs Def (loading (codes "p.usda") (codes "Q")))
      ∷ (prims (codes "C" ∷ []), with_arcs Def (loading (codes "no.usda") (codes "X")))
      ∷ []),
)
    ∷ (
      codes "p.usda",
      layer (codes "P" ∷ codes "Q" ∷ []) (
          (prims (codes "P" ∷ []), with_children Def (codes "k" ∷ []) blank_arcs)
          ∷ (prims (codes "P" ∷ codes "k" ∷ []), blank_spec Def)
          ∷ (prims (codes "Q" ∷ []), with_children Def (codes "m" ∷ []) blank_arcs)
          ∷ (prims (codes "Q" ∷ codes "m" ∷ []), blank_spec Def)
          ∷ []),
    )
    ∷ [])

-- the same world with load rules
abbrev pub world_with : List (Path × Bool) → World
world_with rules = ruled world rules
