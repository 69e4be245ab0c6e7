-- Layers and specs in few words: what they do not say is blank.
use Rattle.std.specs.Prelude.{ℕ, ℤ, pos, Bool, false, List, [], ◌∷◌, map, Option, Some}
use Rattle.list_ops.specs.declared.op.ListOp.{ListOp}
use Rattle.sdf_paths.specs.declared.element.Element.TheVariants.{Prim}
use Rattle.spec_parts.specs.Blank.{blank_head, blank_body, blank_spec, no_edits}
use Rattle.spec_parts.specs.declared.items.RefItem.{RefItem}
use Rattle.spec_parts.specs.declared.items.Specifier.{Specifier}
use Rattle.spec_parts.specs.declared.items.SubLayer.{SubLayer}
use Rattle.spec_parts.specs.declared.spec.ArcPart.{ArcPart}
use Rattle.spec_parts.specs.declared.spec.Spec.{Spec}
use Rattle.sdf_values.specs.declared.type_name.ElementType.TheVariants as element
use Rattle.sdf_values.specs.declared.type_name.TypeName.{TypeName}
use Rattle.sdf_specs.specs.Layers.{SpecEntries}
use Rattle.composition.specs.Texts.{Text, find_at}
use Rattle.composition.specs.Paths.{Path, Limits, limits, same_path}
use Rattle.composition.specs.World.{World}
use Rattle.composition_worlds.specs.Listed.{Held, present}

-- the path of a prim by the names on it
abbrev pub prims : List Text → Path
prims names = map (λ name. Prim name) names

-- an explicit list
abbrev pub only : {T : Type 0} → List T → ListOp T
only items = record no_edits { explicit = Some items }

-- an item of references or payloads
abbrev pub item : Option Text → Path → ℤ → ℤ → RefItem
item asset path offset scale = record { asset = asset; path = Some path; offset = record { offset = offset; scale = scale } }

-- the same with the offset that changes no time
abbrev pub plain_item : Option Text → Path → RefItem
plain_item asset path = item asset path (pos 0) (pos 1)

-- a spec with its arcs
abbrev pub with_arcs : Specifier → ArcPart → Spec
with_arcs specifier arcs = record (blank_spec specifier) { arcs = arcs }

-- a spec with a type
abbrev pub typed : Specifier → Text → Spec
typed specifier name = record (blank_spec specifier) { body = record (blank_body specifier) { type_name = Some name } }

-- a spec with the names of the prims below it, and its arcs
abbrev pub with_children : Specifier → List Text → ArcPart → Spec
with_children specifier names arcs = record { arcs = arcs; body = record (blank_body specifier) { children = names } }

-- a layer of root prims and specs
abbrev pub layer : List Text → SpecEntries → Held
layer names specs = present (record { head = record blank_head { root_names = names }; specs = specs })

-- the same above a sublayer
abbrev pub layer_over : SubLayer → List Text → SpecEntries → Held
layer_over sub names specs = present (record { head = record blank_head { sublayers = sub ∷ []; root_names = names }; specs = specs })

-- a sublayer whose times are scaled
abbrev pub sublayer : Text → ℤ → SubLayer
sublayer asset scale = record { asset = asset; offset = record { offset = pos 0; scale = scale } }

-- the type of a whole number
abbrev pub int : TypeName
int = record { element = element.Int; array = false }

-- a world with load rules
abbrev pub ruled : World → List (Path × Bool) → World
ruled w rules = record w { rule = λ p. find_at same_path p rules }

-- the limits of the program, but for so many nodes in a listing
abbrev pub with_room_for : ℕ → Limits
with_room_for nodes = record limits { nodes = nodes }
