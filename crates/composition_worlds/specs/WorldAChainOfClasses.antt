-- A world of one layer with a chain of fifteen inherits; the value of `c15.y` is given.
--   root.usda: def "c0" (inherits = </c1>) {}
--              def "c1" (inherits = </c2>) {}
--              ..
--              def "c15" { int y = .. }
use Rattle.std.specs.Prelude.{codes, ℤ, false, List, [], ◌∷◌, Some, None}
use Rattle.spec_parts.specs.Blank.{blank_arcs, blank_body, blank_spec, no_edits}
use Rattle.spec_parts.specs.declared.items.Specifier.TheVariants.{Def}
use Rattle.spec_parts.specs.declared.spec.Spec.{Spec}
use Rattle.spec_properties.specs.declared.property.Property.TheVariants.{Attr}
use Rattle.sdf_values.specs.declared.value.Value.TheVariants as value
use Rattle.sdf_specs.specs.Layers.{SpecEntries}
use Rattle.composition.specs.Texts.{Text}
use Rattle.composition.specs.World.{World}
use Rattle.composition_worlds.specs.Listed.{listed_world}
use Rattle.composition_worlds.specs.Short.{prims, int, layer, only, with_arcs}

-- each prim of these inherits the next, and the last is this one
abbrev chained : List Text → Spec → SpecEntries
chained [] last = []
chained (a ∷ []) last = (prims (a ∷ []), last) ∷ []
chained (a ∷ b ∷ names) last = (prims (a ∷ []), with_arcs Def (record blank_arcs { inherits = only (prims (b ∷ []) ∷ []) })) ∷ chained (b ∷ names) last

abbrev names : List Text
names = codes "c0" ∷ codes "c1" ∷ codes "c2" ∷ codes "c3" ∷ codes "c4" ∷ codes "c5" ∷ codes "c6" ∷ codes "c7" ∷ codes "c8" ∷ codes "c9" ∷ codes "c10" ∷ codes "c11" ∷ codes "c12" ∷ codes "c13" ∷ codes "c14" ∷ codes "c15" ∷ []

abbrev with_value : ℤ → Spec
with_value y = record (blank_spec Def) { body = record (blank_body Def) { properties = Attr (codes "y") int false false (Some (value.Whole y)) [] no_edits [] ∷ [] } }

-- the chain, with the value in the deepest class
abbrev pub chain : ℤ → World
chain y = listed_world (codes "root.usda") None ((codes "root.usda", layer names (chained names (with_value y))) ∷ [])
