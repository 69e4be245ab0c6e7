-- A tree that is composed from the root is one that extends that of the path above.
use Rattle.std.specs.Prelude.{◌≡◌, ℕ, suc, ◌≤◌, [], ◌∷◌, ◌++◌}
use Rattle.sdf_paths.specs.declared.element.Element.TheVariants.{Prim}
use Rattle.composition.specs.Texts.{Text}
use Rattle.composition.specs.Paths.{Path, Limits}
use Rattle.composition.specs.World.{World, is_loaded}
use Rattle.composition.specs.Nodes.{Node, Frame, here}
use Rattle.composition.specs.Trees.{tree_with}
use Rattle.composition.specs.Compose.{stage_tree}
use Rattle.composition.specs.Faults.{index, index_of}
use Rattle.laws_extending.specs.Extending.{lowered, here_below, here_at_0, extended, below_depth, fresh_tree, child_of}

-- Whatever the limits and the world are, as long as a tree may have a node.
pub record TreesExtend : Type 0 where
  -- what is said at a node one level down is told by what was said at the node, and by what is said at the new level
  pub said_below : (l : Limits) (w : World) (f : Frame) (name : Text) (n : Node) →
      here l w (lowered f name n) ≡ here_below l (lowered f name n) (here l w n) (here_at_0 l w (lowered f name n))
  -- the tree of a node one level down extends the node's, cut or not, for however many nodes there is room in either
  pub one_level : (l : Limits) (w : World) (f : Frame) (name : Text) (n : Node) (room more : ℕ) → suc room ≤ l.nodes → suc more ≤ l.nodes →
      extended l (here_at_0 l w) (fresh_tree l (here l w)) f name (tree_with l (here l w) (below_depth l (here l w) n.depth) l.nodes (suc room) n) (suc more)
      ≡ tree_with l (here l w) (below_depth l (here l w) n.depth) l.nodes (suc more) (lowered f name n)
  -- the tree of a child on the stage extends its parent's, and so does the tree of each of its rounds
  pub on_the_stage : (l : Limits) (w : World) (p : Path) (name : Text) → 1 ≤ l.nodes →
      stage_tree l (here l w) (is_loaded w) (p ++ Prim name ∷ [])
      ≡ child_of l (here_at_0 l w) (fresh_tree l (here l w)) name (stage_tree l (here l w) (is_loaded w) p) (is_loaded w (p ++ Prim name ∷ []))
  -- so the child's index is told by its parent's tree
  pub same_index : (l : Limits) (w : World) (p : Path) (name : Text) → 1 ≤ l.nodes →
      index l w (p ++ Prim name ∷ [])
      ≡ index_of l (child_of l (here_at_0 l w) (fresh_tree l (here l w)) name (stage_tree l (here l w) (is_loaded w) p) (is_loaded w (p ++ Prim name ∷ [])))
