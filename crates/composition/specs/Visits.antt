-- The nodes that are visited for a tree: its own, and those of each listing that is made on the way.
-- docs/COMPOSITION.md, 'What a prim reads'.
use Rattle.std.specs.Prelude.{ℕ, zero, suc, Bool, true, false, List, [], ◌∷◌, ◌++◌, take, length}
use Rattle.path_maps.specs.declared.kind.ArcKind.TheVariants.{Variant}
use Rattle.sdf_values.specs.Scales.{Offset, composed}
use Rattle.composition.specs.Paths.{Path, Limits, up}
use Rattle.composition.specs.World.{identity, StackName, Root}
use Rattle.composition.specs.Arcs.{same_kind}
use Rattle.composition.specs.Nodes.{Node, Here, Frame, bare, bare_node, child_chain}
use Rattle.composition.specs.Trees.{Tree, node, Trees, none, cut, child, Branch, Meaning, tree_with}
use Rattle.composition.specs.Compose.{tree_in_round, round, decides_nothing, frames_along, bottom, meaning, stage_tree, tree_of}

-- what is visited at one depth for the frames of a prim of a stack, and for a tree
pub record Visits : Type 0 where
  pub for_frames : StackName → Path → List (StackName × Path) → Offset → List Node
  pub for_tree : Tree → List Node

module _ (deeper : Visits) where
  -- for the target's ancestors of an arc of a node
  abbrev pub for_ancestors : Node → Branch → List Node
  for_ancestors n b = deeper.for_frames b.lead.stack (up b.lead.target 1) (child_chain n b.level) (composed b.lead.offset n.offset)

  abbrev mutual
    -- the nodes that are visited for a tree: its own, and those of the listings for the ancestors of its targets
    pub visited : Tree → List Node
    visited (node n h own lifted) = n ∷ visited_among n own ++ visited_among n lifted

    -- those of a node's children; a variant asks no ancestors of its target
    pub visited_among : Node → Trees → List Node
    visited_among n none = []
    visited_among n cut = []
    visited_among n (child b t ts) =
        elim (same_kind Variant b.kind) [ true ↦ visited t | false ↦ for_ancestors n b ++ deeper.for_tree t ]
        ++ visited_among n ts

module _ (l : Limits) (tree : Node → Tree) (seen : Tree → List Node) where
  -- the nodes that are visited in a prim's rounds of choices, also in the one that decides nothing
  abbrev pub visited_in_rounds : ℕ → Node → List Frame → Frame → List Node
  visited_in_rounds zero n above f = []
  visited_in_rounds (suc k) n above f =
      let g = round l tree n above f in
      seen (tree_in_round l tree n above f)
      ++ elim (decides_nothing f g) [ true ↦ [] | false ↦ visited_in_rounds k n above g ]

  -- the nodes that are visited to make the frames of the first k names of a path
  abbrev pub visited_along : (Path → Bool) → Node → ℕ → List Node
  visited_along loaded n zero = []
  visited_along loaded n (suc k) =
      let q = take (suc k) n.path in
      visited_along loaded n k
      ++ visited_in_rounds l.rounds (record n { path = q }) (frames_along l tree loaded n k) (record bare { loaded = loaded q })

-- where no arc is left nothing deeper is visited
abbrev pub no_visits : Visits
no_visits = record { for_frames = λ s p chain offset. []; for_tree = λ t. [] }

module _ (l : Limits) (here : Node → Here) where
  -- what is visited at depth d, by the frames, trees and visits of the depth below
  abbrev pub visits_at : ℕ → Meaning → Visits → Visits
  visits_at d deeper below =
      let seen : Tree → List Node = visited below in
      record {
        for_frames = λ s p chain offset. visited_along l (tree_with l here deeper l.nodes l.nodes) seen (λ q. true) (bare_node s p chain d offset) (length p);
        for_tree = seen;
      }

  -- what is visited with so many arcs left
  unfoldable pub visits : ℕ → Visits
  visits zero = visits_at zero bottom no_visits
  visits (suc d) = visits_at (suc d) (meaning l here d) (visits d)

  -- all that is visited for the tree of the stage's node at a path
  abbrev pub stage_visits : (Path → Bool) → Path → List Node
  stage_visits loaded p =
      let seen = (visits l.depth).for_tree in
      visited_along l (tree_of l here) seen loaded (bare_node Root p [] l.depth identity) (length p) ++ seen (stage_tree l here loaded p)
