-- What composition makes at each depth: its definitions under names of their own.
use Rattle.std.specs.Prelude.{ℕ, zero, suc, Bool, List}
use Rattle.composition.specs.Paths.{Path, Limits}
use Rattle.composition.specs.Nodes.{Node, Here, Frame}
use Rattle.composition.specs.Trees.{Branch, Tree, Trees, Meaning, grown, child_tree, tree_with}
use Rattle.composition.specs.Compose.{bottom, meaning, frames_along, rounds, round}

module _ (l : Limits) (here : Node → Here) where
  -- the meanings to which the arcs at a depth lead
  unfoldable pub deeper : ℕ → Meaning
  deeper zero = bottom
  deeper (suc d) = meaning l here d

  -- the tree of a node at a depth, where so many variants may follow each other and so many nodes have room
  unfoldable pub tree_below : ℕ → ℕ → ℕ → Node → Tree
  tree_below d steps room n = tree_with l here (deeper d) steps room n

  -- the tree to which an arc of a node leads
  unfoldable pub child_below : ℕ → ℕ → Node → Branch → ℕ → Tree
  child_below d steps n b room = child_tree (deeper d) (tree_below d steps) n b room

  -- the trees to which some arcs of a node lead
  unfoldable pub grown_below : ℕ → ℕ → Node → ℕ → List Branch → Trees
  grown_below d steps n room bs = grown (child_below d steps n) room bs

  -- with all the room that there is
  unfoldable pub full_tree : ℕ → Node → Tree
  full_tree d n = tree_below d l.nodes l.nodes n

  -- the frames of the first names of a node's path
  unfoldable pub frames_below : ℕ → (Path → Bool) → Node → ℕ → List Frame
  frames_below d loaded n k = frames_along l (full_tree d) loaded n k

  -- one round of variant choices
  unfoldable pub round_below : ℕ → Node → List Frame → Frame → Frame
  round_below d n above f = round l (full_tree d) n above f

  -- so many rounds of variant choices, up to one that decides nothing
  unfoldable pub rounds_below : ℕ → ℕ → Node → List Frame → Frame → Frame
  rounds_below d k n above f = rounds l (full_tree d) k n above f
