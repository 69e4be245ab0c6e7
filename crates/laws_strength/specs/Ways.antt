-- The ways from the top of a tree to its nodes, and whether a specializes arc stands on them.
use Rattle.std.specs.Prelude.{◌≡◌, Bool, true, false, ◌||◌, List, [], ◌∷◌}
use Rattle.std.specs.List.{list_any}
use Rattle.path_maps.specs.declared.kind.ArcKind.{ArcKind}
use Rattle.path_maps.specs.declared.kind.ArcKind.TheVariants.{Specializes}
use Rattle.composition.specs.Arcs.{same_kind}
use Rattle.composition.specs.Nodes.{Node, Here}
use Rattle.composition.specs.Strength.{same_place}
use Rattle.composition.specs.Trees.{Tree, node, Trees, child, Branch}

-- a child with its arc stands among the children of a node
pub data Among : Branch → Tree → Trees → Type 0 where
  first : (b : Branch) (t : Tree) (ts : Trees) → Among b t (child b t ts)
  later : (b c : Branch) (t u : Tree) (ts : Trees) → Among b t ts → Among b t (child c u ts)

-- a node is reached from the top of a tree, with its own tree; whether a specializes arc stands on the way
pub data Reached : Tree → Bool → Tree → Type 0 where
  itself : (t : Tree) → Reached t false t
  by_own : (n : Node) (h : Here) (own lifted : Trees) (b : Branch) (c s : Tree) (on_the_way : Bool)
      → Among b c own → Reached c on_the_way s → Reached (node n h own lifted) (same_kind Specializes b.kind || on_the_way) s
  by_lifted : (n : Node) (h : Here) (own lifted : Trees) (b : Branch) (c s : Tree) (on_the_way : Bool)
      → Among b c lifted → Reached c on_the_way s → Reached (node n h own lifted) (same_kind Specializes b.kind || on_the_way) s

-- each element of a list is such
abbrev pub Each : {X : Type 0} → (X → Type 0) → List X → Type 0
Each P [] = Unit {0}
Each P (x ∷ xs) = P x × Each P xs

-- no two of these trees stand at one site
abbrev pub AreApart : List Tree → Type 0
AreApart [] = Unit {0}
AreApart (t ∷ ts) = (list_any (same_place t) ts ≡ false) × AreApart ts
