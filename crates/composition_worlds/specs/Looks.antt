-- What is asked of a composed prim as values, beside the replies to questions.
use Rattle.std.specs.Prelude.{Bool, List, map, Option, Some, None}
use Rattle.spec_parts.specs.declared.items.Specifier.{Specifier}
use Rattle.composition.specs.Texts.{Text}
use Rattle.composition.specs.Paths.{Path, limits}
use Rattle.composition.specs.World.{World}
use Rattle.composition.specs.Views.{PrimView, PropertyView, attribute, relationship, view, stage}

-- specifier and type
abbrev pub kind_at : World → Path → Specifier × Option Text
kind_at w p =
    let v : PrimView = view limits w p in
    (v.specifier, v.type_name)

-- the lists `apiSchemas` and `clipSets`
abbrev pub lists_at : World → Path → Option (List Text) × Option (List Text)
lists_at w p =
    let v : PrimView = view limits w p in
    (v.api_schemas, v.clip_sets)

-- of a property its name, whether it is custom and, where it is an attribute, whether it is uniform
abbrev pub marks : PropertyView → Text × Bool × Option Bool
marks (attribute n ty c u d s cs m) = (n, c, Some u)
marks (relationship n c ts m) = (n, c, None)

-- the properties in their order
abbrev pub marks_at : World → Path → List (Text × Bool × Option Bool)
marks_at w p = map marks (view limits w p).properties

-- the prims of the stage, depth first
abbrev pub stage_paths : World → List Path
stage_paths w = map (λ e. e.0) (stage limits w)
