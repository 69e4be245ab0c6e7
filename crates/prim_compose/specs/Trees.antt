-- The trees of the paths of a stage.
-- docs/COMPOSITION.md, 'The stage'.
use Rattle.std.specs.Prelude.{true, false, Option, Some, None}
use Rattle.std.specs.List.{list_all}
use Rattle.sdf_paths.specs.Paths.{is_prim_name}
use Rattle.composition.specs.Paths.{Path, limits}
use Rattle.composition.specs.Trees.{Tree}
use Rattle.composition.specs.World.{World}
use Rattle.prim_index.specs.Answer.{stage_tree_at}

-- the tree of a plain prim path, or of `/`; other paths have none
abbrev pub tree_at : World → Path → Option Tree
tree_at w p = elim (list_all is_prim_name p) [ true ↦ Some (stage_tree_at limits w p) | false ↦ None ]
