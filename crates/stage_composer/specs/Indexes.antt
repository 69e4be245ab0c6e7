-- What an index is seen as, and the tree that stands behind it.
-- docs/COMPOSITION.md, 'The stage'.
use Rattle.std.specs.Prelude.{◌≡◌, List, Option, option_map}
use Rattle.sdf_paths.specs.declared.element.Element.{Element}
use Rattle.composition.specs.Paths.{limits}
use Rattle.layer_set.specs.LookUps.{look_ups}
use Rattle.layer_set.specs.Worlds.{WorldData}
use Rattle.prim_trees.specs.declared.tree.Tree.{Tree}
use Rattle.prim_trees.specs.Meant.{meant}
use Rattle.prim_compose.specs.Trees.{tree_at}

-- what an index is seen as: the world and the path that it is of
abbrev pub at : WorldData → List Element → WorldData × List Element
at w p = (w, p)

-- a path of prims, or `/`, has its tree, and any other path has none
abbrev pub HasTree : WorldData → List Element → Option Tree → Type 0
HasTree w p t = option_map meant t ≡ tree_at (look_ups w) p
