-- The places below a place, and what is composed there.
-- docs/COMPOSITION.md, 'The stage'.
use Rattle.std.specs.Prelude.{List, [], ◌∷◌, ◌++◌, map}
use Rattle.sdf_paths.specs.declared.element.Element.{Element}
use Rattle.sdf_paths.specs.declared.element.Element.TheVariants.{Prim}
use Rattle.prim_view.specs.declared.view.PrimView.{PrimView}
use Rattle.layer_set.specs.LookUps.{look_ups}
use Rattle.layer_set.specs.Worlds.{WorldData}
use Rattle.prim_compose.specs.Composed.{view_at}

-- the composed prim at a path
unfoldable pub entry_at : WorldData → List Element → PrimView
entry_at w p = view_at (look_ups w) p

-- the paths of the children that a composed prim lists
abbrev pub listed_below : List Element → PrimView → List (List Element)
listed_below p v = map (λ name. p ++ Prim name ∷ []) v.children
