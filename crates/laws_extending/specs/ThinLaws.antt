-- What an index keeps of a prim is enough to make that of its children.
use Rattle.std.specs.Prelude.{◌≡◌, ◌≤◌, false, [], ◌∷◌, ◌++◌, map}
use Rattle.sdf_paths.specs.declared.element.Element.TheVariants.{Prim}
use Rattle.composition.specs.Texts.{Text}
use Rattle.composition.specs.Paths.{Path, Limits}
use Rattle.composition.specs.World.{World, is_loaded}
use Rattle.composition.specs.Nodes.{here, bare, Choices}
use Rattle.composition.specs.Trees.{Tree, node_of, is_overgrown}
use Rattle.composition.specs.Strength.{listing, sites}
use Rattle.composition.specs.Compose.{stage_tree, decided, is_overgrown_on_the_way}
use Rattle.composition.specs.Faults.{site_of, index, index_of}
use Rattle.laws_extending.specs.Extending.{here_at_0, fresh_tree}
use Rattle.laws_extending.specs.Thin.{thin, bared, thin_child, thin_fresh, AllShort}

-- Whatever the limits and the world are, as long as a tree may have a node.
pub record ThinTreesExtend : Type 0 where
  -- a parent's thin tree that was not cut gives the child's thin tree
  pub on_the_stage : (l : Limits) (w : World) (p : Path) (name : Text) → 1 ≤ l.nodes → is_overgrown (stage_tree l (here l w) (is_loaded w) p) ≡ false →
      thin (stage_tree l (here l w) (is_loaded w) (p ++ Prim name ∷ []))
      ≡ thin_child l (here_at_0 l w) (thin_fresh l (here l w)) name (thin (stage_tree l (here l w) (is_loaded w) p)) (is_loaded w (p ++ Prim name ∷ []))
  -- a thin tree tells the listing in the order of strength
  pub same_listing : (l : Limits) (t : Tree) → listing l (thin t) ≡ map thin (listing l t)
  -- and the sites
  pub same_sites : (l : Limits) (t : Tree) → map site_of (sites l (thin t)) ≡ map site_of (sites l t)
  -- what a round decides
  pub same_choices : (l : Limits) (t : Tree) (cs : Choices) → decided l (thin t) cs ≡ decided l t cs
  -- the node at the top, with its frames
  pub same_top : (t : Tree) → node_of (thin t) ≡ node_of t
  -- and whether it is overgrown
  pub same_growth : (t : Tree) → is_overgrown_on_the_way (thin t) ≡ is_overgrown_on_the_way t

-- What an index keeps misses no fault either, where no arc of the parent's nodes was refused for a path that is too long, and none leads to
-- such a path one level down.
pub record IndexExtends : Type 0 where
  pub same_index : (l : Limits) (w : World) (p : Path) (name : Text) → 1 ≤ l.nodes → is_overgrown (stage_tree l (here l w) (is_loaded w) p) ≡ false →
      AllShort l bare name (stage_tree l (here l w) (is_loaded w) p) →
      index l w (p ++ Prim name ∷ [])
      ≡ index_of l (thin_child l (here_at_0 l w) (fresh_tree l (here l w)) name (thin (stage_tree l (here l w) (is_loaded w) p)) (is_loaded w (p ++ Prim name ∷ [])))
  -- for that, nodes and arcs alone need be kept
  pub by_nodes : (l : Limits) (w : World) (p : Path) (name : Text) → 1 ≤ l.nodes → is_overgrown (stage_tree l (here l w) (is_loaded w) p) ≡ false →
      AllShort l bare name (stage_tree l (here l w) (is_loaded w) p) →
      index l w (p ++ Prim name ∷ [])
      ≡ index_of l (thin_child l (here_at_0 l w) (fresh_tree l (here l w)) name (bared (stage_tree l (here l w) (is_loaded w) p)) (is_loaded w (p ++ Prim name ∷ [])))
