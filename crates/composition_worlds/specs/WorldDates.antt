-- A world that edits change: the value of `B.y` is given, and whether there is a third prim.
--   root.usda: def "A" { int x = 1 }
--              def "B" { int y = .. }
--              def "C" {}
use Rattle.std.specs.Prelude.{codes, ℤ, pos, false, List, [], ◌∷◌, ◌++◌, Some, None}
use Rattle.spec_parts.specs.Blank.{blank_body, blank_spec, no_edits}
use Rattle.spec_parts.specs.declared.items.Specifier.TheVariants.{Def}
use Rattle.spec_parts.specs.declared.spec.Spec.{Spec}
use Rattle.spec_properties.specs.declared.property.Property.TheVariants.{Attr}
use Rattle.sdf_values.specs.declared.value.Value.TheVariants as value
use Rattle.sdf_specs.specs.Layers.{SpecEntries}
use Rattle.composition.specs.Texts.{Text}
use Rattle.composition.specs.World.{World}
use Rattle.composition.specs.Dates.{Version}
use Rattle.composition_worlds.specs.Listed.{listed_world}
use Rattle.composition_worlds.specs.Short.{prims, int, layer}

-- a prim with one attribute
abbrev with_value : Text → ℤ → Spec
with_value name n = record (blank_spec Def) { body = record (blank_body Def) { properties = Attr name int false false (Some (value.Whole n)) [] no_edits [] ∷ [] } }

abbrev of_prims : ℤ → List Text → SpecEntries → World
of_prims y names more = listed_world (codes "root.usda") None ((
  codes "root.usda",
  layer (codes "A" ∷ codes "B" ∷ names) ((prims (codes "A" ∷ []), with_value (codes "x") (pos 1)) ∷ (prims (codes "B" ∷ []), with_value (codes "y") y) ∷ more),
)
    ∷ [])

-- two prims, and the value of the second
abbrev pub two : ℤ → World
two y = of_prims y [] []

-- a third prim beside them
abbrev pub three : ℤ → World
three y = of_prims y (codes "C" ∷ []) ((prims (codes "C" ∷ []), blank_spec Def) ∷ [])

-- the first version of the stage
abbrev pub opened : World → Version
opened w = record { world = w; steps = [] }

-- a later one, after batches that gave these worlds and then its own
abbrev pub after : List World → World → Version
after steps w = record { world = w; steps = steps ++ w ∷ [] }
