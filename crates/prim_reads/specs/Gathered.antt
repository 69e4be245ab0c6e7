-- The keys that are gathered for a tree, in the order in which the code comes to them.
-- docs/COMPOSITION.md, 'What a prim reads'.
use Rattle.std.specs.Prelude.{ℕ, zero, suc, ◌-◌, ◌==◌, Bool, true, false, not, List, [], ◌∷◌, ◌++◌, map, flat_map, filter, take, length}
use Rattle.path_maps.specs.declared.kind.ArcKind.TheVariants.{Variant}
use Rattle.prim_nodes.specs.declared.here.Tried.{Tried}
use Rattle.sdf_values.specs.Scales.{Offset}
use Rattle.composition.specs.Texts.{Text}
use Rattle.composition.specs.Paths.{Path, limits, up, below, levels_of}
use Rattle.composition.specs.World.{World, Heading, headed, no_layer, refused, StackName, Root, stack_of, identity}
use Rattle.composition.specs.Arcs.{Source, own as of_own, named, unanchored, same_kind}
use Rattle.composition.specs.Nodes.{Node, Here, Frame, bare, bare_node}
use Rattle.composition.specs.Trees.{Tree, node, Trees, none, cut, child, nodes_of, node_of}
use Rattle.composition.specs.Opinions.{Site}
use Rattle.composition.specs.Strength.{sites}
use Rattle.composition.specs.Faults.{wants_prim, site_of}
use Rattle.composition.specs.Compose.{decides_nothing, is_overgrown_on_the_way}
use Rattle.layer_set.specs.declared.key.Key.{Key}
use Rattle.layer_set.specs.declared.key.Key.TheVariants.{Head, Arcs, Body, Load}
use Rattle.layer_stack.specs.Meant.{defined_stack, each_once}
use Rattle.node_branches.specs.Children.{above_target, node_at, node_in_round}
use Rattle.prim_trees.specs.Meant.{Led}
use Rattle.prim_index.specs.Reading.{said}
use Rattle.prim_index.specs.Depths.{full_tree, frames_below, round_below}

-- the arcs at a path of these layers
abbrev pub arcs_of : List (Text × Offset) → Path → List Key
arcs_of layers p = map (λ e. Arcs e.0 p) layers

-- the bodies at a path of these layers
abbrev pub bodies_of : List (Text × Offset) → Path → List Key
bodies_of layers p = map (λ e. Body e.0 p) layers

-- the arcs at the first levels of a path
unfoldable pub first_levels : List (Text × Offset) → Path → ℕ → List Key
first_levels layers p n = flat_map (λ j. arcs_of layers (up p j)) (below n)

-- the arcs at each level of a path
unfoldable pub level_arcs : List (Text × Offset) → Path → List Key
level_arcs layers p = flat_map (λ j. arcs_of layers (up p j)) (levels_of p)

-- the children of a node as a list
abbrev pub led_of : Trees → List Led
led_of none = []
led_of cut = []
led_of (child b t ts) = (b, t) ∷ led_of ts

-- a frame that chooses nothing, for which no listing was overgrown
abbrev pub is_plain : Frame → Bool
is_plain f = elim (length f.choices == 0) [ true ↦ not f.overgrown | false ↦ false ]

-- the key is none of a body
abbrev pub is_no_body : Key → Bool
is_no_body (Head name) = true
is_no_body (Arcs name path) = true
is_no_body (Body name path) = false
is_no_body (Load path) = true

-- those of the keys that are none of bodies
unfoldable pub without_bodies : List Key → List Key
without_bodies keys = filter is_no_body keys

module _ (w : World) where
  -- ---- a node

  -- the heads that a stack asks
  unfoldable pub asked_heads : StackName → List Key
  asked_heads s = map Head (each_once (defined_stack w s).asked)

  -- those of the stack of a layer that is there
  abbrev pub heads_if_there : Text → Heading → List Key
  heads_if_there name (headed h) = asked_heads (stack_of w name)
  heads_if_there name no_layer = []
  heads_if_there name (refused r) = []

  -- the layer that an item names, and what its stack asks
  abbrev pub source_heads : Source → List Key
  source_heads of_own = []
  source_heads (named name) = Head name ∷ heads_if_there name (w.heading name)
  source_heads (unanchored t) = []

  -- of items of references and payloads alone
  unfoldable pub item_heads : Tried → List Key
  item_heads a = elim (wants_prim a.kind) [ true ↦ source_heads a.authored.item.source | false ↦ [] ]

  -- those of some items
  unfoldable pub items_heads : List Tried → List Key
  items_heads items = flat_map item_heads items

  -- the arcs at each level of a node, and the heads that its stack asks
  unfoldable pub stack_keys : Node → List Key
  stack_keys n = level_arcs (defined_stack w n.stack).layers n.path ++ asked_heads n.stack

  -- what is read at a node at which this is said
  unfoldable pub node_keys : Node → Here → List Key
  node_keys n h = stack_keys n ++ items_heads h.arcs

  -- ---- what stands below a node

  -- what is gathered at the depth below: for the prim above a target and those above it, and for a tree
  pub record Gathers : Type 0 where
    pub for_frames : Node → List Key
    pub for_tree : Tree → List Key

  -- where no arc is left there is nothing deeper
  abbrev pub nothing_gathered : Gathers
  nothing_gathered = record { for_frames = λ n. []; for_tree = λ t. [] }

  -- for a child: a variant's tree is of the same depth
  abbrev pub for_child : Gathers → ℕ → (Tree → List Key) → Node → Led → List Key
  for_child deeper d variant n c =
      elim (same_kind Variant c.0.kind) [
        | true ↦ variant c.1
        | false ↦ deeper.for_frames (above_target d n c.0) ++ deeper.for_tree c.1
      ]

  -- for a tree, where so many variants may follow each other
  abbrev pub for_tree : Gathers → ℕ → ℕ → Tree → List Key
  for_tree deeper d zero (node n h own lifted) =
      node_keys n h ++ (flat_map (for_child deeper d (λ t. []) n) (led_of own) ++ flat_map (for_child deeper d (λ t. []) n) (led_of lifted))
  for_tree deeper d (suc steps) (node n h own lifted) =
      node_keys n h ++ (flat_map (for_child deeper d (for_tree deeper d steps) n) (led_of own) ++ flat_map (for_child deeper d (for_tree deeper d steps) n) (led_of lifted))

  -- for rounds of choices
  abbrev pub for_rounds : (Tree → List Key) → ℕ → ℕ → Node → List Frame → Frame → List Key
  for_rounds seen d zero n above f = []
  for_rounds seen d (suc k) n above f =
      let g = round_below limits (said limits w) d n above f in
      seen (full_tree limits (said limits w) d (node_in_round n above f)) ++ elim (decides_nothing f g) [ true ↦ [] | false ↦ for_rounds seen d k n above g ]

  -- for the frames of the first names of a path
  abbrev pub for_names : (Tree → List Key) → ℕ → (Path → Bool) → Node → ℕ → List Key
  for_names seen d loaded n zero = []
  for_names seen d loaded n (suc k) =
      let q = take (suc k) n.path in
      for_names seen d loaded n k
      ++ for_rounds seen d 16 (node_at q n) (frames_below limits (said limits w) d loaded n k) (record bare { loaded = loaded q })

  -- what is gathered at a depth, by that of the depth below
  abbrev pub at_depth : ℕ → Gathers → Gathers
  at_depth d deeper = record {
    for_frames = λ n. for_names (for_tree deeper (d - 1) 4096) d (λ q. true) n (length n.path);
    for_tree = for_tree deeper (d - 1) 4096;
  }

  -- what is gathered with so many arcs left
  unfoldable pub gathers : ℕ → Gathers
  gathers zero = at_depth zero nothing_gathered
  gathers (suc d) = at_depth (suc d) (gathers d)

  -- that to which the arcs of a depth lead
  unfoldable pub gathers_below : ℕ → Gathers
  gathers_below zero = nothing_gathered
  gathers_below (suc d) = gathers d

  -- ---- the same, under names of their own

  -- for a tree
  unfoldable pub tree_keys : ℕ → ℕ → Tree → List Key
  tree_keys d steps t = for_tree (gathers_below d) (d - 1) steps t

  -- for the tree of a variant
  unfoldable pub variant_keys : ℕ → ℕ → Tree → List Key
  variant_keys d zero t = []
  variant_keys d (suc steps) t = tree_keys d steps t

  -- for a child of a node
  unfoldable pub child_keys : ℕ → ℕ → Node → Led → List Key
  child_keys d steps n c = for_child (gathers_below d) (d - 1) (variant_keys d steps) n c

  -- for children of a node
  unfoldable pub children_keys : ℕ → ℕ → Node → List Led → List Key
  children_keys d steps n cs = flat_map (child_keys d steps n) cs

  -- for rounds of choices
  unfoldable pub rounds_keys : ℕ → ℕ → Node → List Frame → Frame → List Key
  rounds_keys d k n above f = for_rounds (tree_keys d 4096) d k n above f

  -- for the frames of the first names of a path
  unfoldable pub names_keys : ℕ → (Path → Bool) → Node → ℕ → List Key
  names_keys d loaded n k = for_names (tree_keys d 4096) d loaded n k

  -- ---- a prim of the stage

  -- the bodies at a site
  unfoldable pub bodies_at : StackName → Path → List Key
  bodies_at s p = bodies_of (defined_stack w s).layers p

  -- those at sites
  unfoldable pub sites_bodies : List Site → List Key
  sites_bodies ss = flat_map (λ s. bodies_at s.stack s.path) ss

  -- those at the nodes of a tree
  unfoldable pub nodes_bodies : Tree → List Key
  nodes_bodies t = flat_map (λ n. bodies_at n.stack n.path) (nodes_of t)

  -- those at the nodes of the trees of children
  unfoldable pub led_bodies : List Led → List Key
  led_bodies cs = flat_map (λ c. nodes_bodies c.1) cs

  -- those that a prim reads, by its tree
  unfoldable pub own_bodies : Tree → List Key
  own_bodies t = elim (is_overgrown_on_the_way t) [ true ↦ nodes_bodies t | false ↦ sites_bodies (map site_of (sites limits t)) ]

  -- ---- a prim by the prim above it

  -- what is read in a prim's rounds of choices, by the frames of its node; none where they made the prim's own tree alone
  unfoldable pub own_rounds : Path → List Frame → List Key
  own_rounds p [] = []
  own_rounds p (f ∷ above) = elim (is_plain f) [ true ↦ [] | false ↦ rounds_keys 64 16 (bare_node Root p [] 64 identity) above (record bare { loaded = f.loaded }) ]

  -- what a prim reads and the prim above it does not, by its tree
  unfoldable pub own_keys : Path → Tree → List Key
  own_keys p t = Load p ∷ (own_rounds p (node_of t).frames ++ (tree_keys 64 4096 t ++ own_bodies t))
