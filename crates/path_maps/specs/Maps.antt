-- How a composition arc moves paths: from the prim that it leads to, to the prim that authored it.
use Rattle.std.specs.Prelude.{Bool, true, false, List, Option, Some, None, unwrap_or}
use Rattle.sdf_paths.specs.Paths.{plain, has_prefix, replaced}
use Rattle.sdf_paths.specs.declared.element.Element.{Element}
use Rattle.path_maps.specs.declared.kind.ArcKind.{ArcKind}
use Rattle.path_maps.specs.declared.kind.ArcKind.TheVariants.{Inherits, Variant, Reference, Payload, Specializes}

-- an arc: what it is, the path that it leads to, and the path that it was authored at
pub record ArcPaths : Type 0 where
  pub kind : ArcKind
  pub target : List Element
  pub author : List Element

-- the path stands at or below the author, where the selections of both are passed over
abbrev pub is_under : List Element → List Element → Bool
is_under author path = has_prefix (plain author) (plain path)

-- a class has no name for what lies below the author outside the class; all else has the same name on both sides
abbrev pub outside_class : List Element → List Element → Option (List Element)
outside_class author path = elim (is_under author path) [ true ↦ None | false ↦ Some path ]

-- through a class: below the target as ever, and else what the author does not hide
abbrev pub through_class : List Element → List Element → List Element → Option (List Element)
through_class target author path =
    elim (replaced target author path) [ Some moved ↦ Some moved | None ↦ outside_class author path ]

-- the path on the author's side, where it has one
abbrev pub translated : ArcKind → List Element → List Element → List Element → Option (List Element)
translated Inherits target author path = through_class target author path
translated Specializes target author path = through_class target author path
translated Reference target author path = replaced target author path
translated Payload target author path = replaced target author path
translated Variant target author path = Some (plain path)

-- the class that the author has in place of one of the target's: a path below the target moves, and others stay
abbrev pub lifted : List Element → List Element → List Element → List Element
lifted target author path = unwrap_or (replaced target author path) path
