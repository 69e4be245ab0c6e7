-- The paths of prims and variants below their owners.
use Rattle.std.specs.Prelude.{ℕ, List, Option, Result}
use Rattle.sdf_paths.specs.declared.element.Element.{Element}
use Rattle.sdf_values.specs.declared.refusal.RefusalKind.{RefusalKind}
use Rattle.usda_fields.specs.Names.{prim_below, variant_below}

-- the path of a prim; none where it would be the 65th inside each other
unfoldable pub prim_place : List Element → List ℕ → Result (Option (List Element)) RefusalKind
prim_place owner name = prim_below owner name

-- the path of a variant of a set
unfoldable pub variant_place : List Element → List ℕ → List ℕ → Result (List Element) RefusalKind
variant_place owner set variant = variant_below owner set variant
