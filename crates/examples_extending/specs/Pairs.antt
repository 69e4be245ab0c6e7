-- A child's index by its parent's, on a world.
use Rattle.std.specs.Prelude.{[], ◌∷◌, ◌++◌, List, map, Option, Some, None}
use Rattle.sdf_paths.specs.declared.element.Element.TheVariants.{Prim}
use Rattle.composition.specs.Texts.{Text}
use Rattle.composition.specs.Paths.{Path, Limits}
use Rattle.composition.specs.World.{World, StackName, is_loaded}
use Rattle.composition.specs.Nodes.{here}
use Rattle.composition.specs.Trees.{Tree}
use Rattle.composition.specs.Compose.{stage_tree}
use Rattle.composition.specs.Faults.{Index, index_of}
use Rattle.laws_extending.specs.Extending.{here_at_0, fresh_tree, child_of}
use Rattle.laws_extending.specs.Thin.{thin, thin_child}

-- the stage's tree at a path
abbrev pub composed : Limits → World → Path → Tree
composed l w p = stage_tree l (here l w) (is_loaded w) p

-- the index of a child by its parent's tree
abbrev pub by_parent : Limits → World → Path → Text → Option Index
by_parent l w p name = index_of l (child_of l (here_at_0 l w) (fresh_tree l (here l w)) name (composed l w p) (is_loaded w (p ++ Prim name ∷ [])))

-- and by what an index keeps of it
abbrev pub by_index : Limits → World → Path → Text → Option Index
by_index l w p name = index_of l (thin_child l (here_at_0 l w) (fresh_tree l (here l w)) name (thin (composed l w p)) (is_loaded w (p ++ Prim name ∷ [])))

-- the sites of an index, each by its stack and its path
abbrev pub places : Option Index → List (StackName × Path)
places None = []
places (Some i) = map (λ s. (s.stack, s.path)) i.sites
