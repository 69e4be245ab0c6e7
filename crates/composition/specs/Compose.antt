-- Choices by rounds, the meanings by depth, and what composition gives at a path of the stage.
-- docs/COMPOSITION.md, 'Variant choices'; what is overgrown stands in 'Strength'.
use Rattle.std.specs.Prelude.{ℕ, zero, suc, ◌==◌, ◌||◌, Bool, true, false, List, [], ◌∷◌, ◌++◌, map, flat_map, take, length, Option, filter_map, option_map}
use Rattle.std.specs.List.{list_any}
use Rattle.composition.specs.Texts.{Text, same_text, find_at, first_of}
use Rattle.composition.specs.Paths.{Path, Limits}
use Rattle.list_ops.specs.ListEdits.{firsts, without}
use Rattle.composition.specs.World.{identity, Root}
use Rattle.composition.specs.Nodes.{Node, Here, nothing_said, Frame, Choices, bare, bare_node}
use Rattle.composition.specs.Trees.{Tree, node, none, Meaning, tree_with, nodes_of, here_of, is_overgrown}
use Rattle.composition.specs.Strength.{listing, sites}

-- a listing made for the frames of a node of the tree was overgrown
abbrev pub rests_on_overgrown : Tree → Bool
rests_on_overgrown t = list_any (λ n. list_any (λ f. f.overgrown) n.frames) (nodes_of t)

-- a listing was overgrown: the tree's own, or one made for the frames on which it stands
abbrev pub is_overgrown_on_the_way : Tree → Bool
is_overgrown_on_the_way t = elim (is_overgrown t) [ true ↦ true | false ↦ rests_on_overgrown t ]

-- of the frames before and after a round: it made no choice
abbrev pub decides_nothing : Frame → Frame → Bool
decides_nothing f g = length g.choices == length f.choices

module _ (l : Limits) where
  -- the sets that the nodes of a listing have at level 0
  abbrev pub sets_met : Tree → List Text
  sets_met t = firsts same_text (flat_map (λ s. (here_of s).sets) (listing l t))

  -- the first opinion for a set in the order of the sites
  abbrev pub first_selection : List Tree → Text → Option (Text × Text)
  first_selection places set = option_map (λ v. (set, v)) (first_of (λ s. find_at same_text set (here_of s).selections) places)

  -- what a round decides beside the choices so far
  abbrev pub decided : Tree → Choices → Choices
  decided t cs =
      elim (is_overgrown t) [
        | true ↦ []
        | false ↦
            let places = sites l t in
            filter_map (first_selection places) (without same_text (sets_met t) (map (λ c. c.0) cs))
      ]

  module _ (tree : Node → Tree) where
    -- the tree of a prim in one round, with the choices so far and the frames of the prims above it
    abbrev pub tree_in_round : Node → List Frame → Frame → Tree
    tree_in_round n above f = tree (record n { frames = (record f { overgrown = false }) ∷ above })

    -- one round at a prim, given the frames above it: what it decides in its tree joins the choices so far
    abbrev pub round : Node → List Frame → Frame → Frame
    round n above f =
        let t = tree_in_round n above f in
        record f { choices = f.choices ++ decided t f.choices; overgrown = f.overgrown || is_overgrown_on_the_way t }

    -- so many rounds; after one that decides nothing another would be the same
    abbrev pub rounds : ℕ → Node → List Frame → Frame → Frame
    rounds zero n above f = f
    rounds (suc k) n above f =
        let g = round n above f in
        elim (decides_nothing f g) [ true ↦ g | false ↦ rounds k n above g ]

    -- so many rounds, made to the end also where one decides nothing
    abbrev pub all_rounds : ℕ → Node → List Frame → Frame → Frame
    all_rounds zero n above f = f
    all_rounds (suc k) n above f = all_rounds k n above (round n above f)

    -- the frames of the first k names of a node's path, that of the longest first; `loaded` says of which payloads are followed
    abbrev pub frames_along : (Path → Bool) → Node → ℕ → List Frame
    frames_along loaded n zero = []
    frames_along loaded n (suc k) =
        let above = frames_along loaded n k in
        let q = take (suc k) n.path in
        rounds l.rounds (record n { path = q }) above (record bare { loaded = loaded q }) ∷ above

    -- the frames of a prim and of each prim above it, its own first
    abbrev pub frames_of : (Path → Bool) → Node → List Frame
    frames_of loaded n = frames_along loaded n (length n.path)

-- at depth 0 no arc is followed, so that nothing deeper is asked
abbrev pub bottom : Meaning
bottom = record { frames = λ s p chain offset. []; tree = λ room n. node n nothing_said none none }

module _ (l : Limits) (here : Node → Here) where
  -- the meanings at depth d, from those at d - 1; a target's ancestors are loaded
  abbrev pub level : ℕ → Meaning → Meaning
  level d deeper =
      let tree : ℕ → Node → Tree = tree_with l here deeper l.nodes in
      record {
        frames = λ s p chain offset. frames_of l (tree l.nodes) (λ q. true) (bare_node s p chain d offset);
        tree = tree;
      }

  -- the frames of prims and the trees of nodes with so many arcs left
  unfoldable pub meaning : ℕ → Meaning
  meaning zero = level zero bottom
  meaning (suc d) = level (suc d) (meaning d)

  -- the tree of a node at the depth of the stage's nodes
  abbrev pub tree_of : Node → Tree
  tree_of = (meaning l.depth).tree l.nodes

  -- the stage's node at a path, and its tree
  abbrev pub stage_node : (Path → Bool) → Path → Node
  stage_node loaded p =
      let n = bare_node Root p [] l.depth identity in
      record n { frames = frames_of l tree_of loaded n }

  -- the tree of a path of the stage, from which its sites, choices and faults are told
  abbrev pub stage_tree : (Path → Bool) → Path → Tree
  stage_tree loaded p = tree_of (stage_node loaded p)
