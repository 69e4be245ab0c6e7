-- A world of 1 layers.
use Rattle.std.specs.Prelude.{codes, pos, [], ◌∷◌, None}
use Rattle.sdf_paths.specs.declared.element.Element.TheVariants.{Prim}
use Rattle.composition.specs.World.{World}
use Rattle.composition_worlds.specs.Listed.{present, listed_world}

abbrev pub world : World
world = listed_world (codes "root.usda") None (
    ((codes "root.usda"), present (record { head = record { sublayers = ((record { asset = (codes "root.usda"); offset = (record { offset = (pos 0); scale = (pos 1) }) }) ∷ (record { asset = (codes "no.usda"); offset = (record { offset = (pos 0); scale = (pos 1) }) }) ∷ []); default_prim = None; meta = ([]); root_names = ([]); root_order = ([]) }; specs = ([]) })) ∷
    [])
