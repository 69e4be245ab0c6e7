-- The children that some arcs have.
use Rattle.std.specs.Prelude.{List, [], ◌∷◌, ◌++◌, ◌||◌}
use Rattle.composition.specs.Paths.{Limits}
use Rattle.composition.specs.Nodes.{Frame}
use Rattle.composition.specs.Trees.{Tree, Trees, child}
use Rattle.composition.specs.Compose.{decided, is_overgrown_on_the_way}
use Rattle.prim_trees.specs.Meant.{Led}

-- children, and then others
abbrev pub before : List Led → Trees → Trees
before [] ts = ts
before (c ∷ cs) ts = child c.0 c.1 (before cs ts)

-- a frame with what a round decides in its tree
unfoldable pub with_round : Limits → Tree → Frame → Frame
with_round l t f = record f { choices = f.choices ++ decided l t f.choices; overgrown = f.overgrown || is_overgrown_on_the_way t }
