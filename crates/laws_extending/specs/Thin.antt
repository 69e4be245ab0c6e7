-- Trees that keep of what is said at a node what is said at its own path, and how they are extended.
--
-- So much an index keeps of a prim: of the arcs of higher levels only those that were followed, as the arcs of a node's children.
use Rattle.std.specs.Prelude.{◌≡◌, ℕ, zero, suc, ◌==◌, ◌-◌, ◌||◌, Bool, true, false, List, [], ◌∷◌, ◌++◌, flat_map, filter, filter_map, Option, Some, None}
use Rattle.path_maps.specs.declared.kind.ArcKind.{ArcKind}
use Rattle.path_maps.specs.declared.kind.ArcKind.TheVariants.{Inherits, Variant, Reference, Payload, Specializes}
use Rattle.composition.specs.Texts.{Text}
use Rattle.composition.specs.Paths.{Limits, fits}
use Rattle.std.specs.List.{AllByRecursion}
use Rattle.composition.specs.Faults.{is_path_too_long}
use Rattle.composition.specs.Arcs.{same_kind, Reason}
use Rattle.composition.specs.Nodes.{Node, Frame, bare, Here, nothing_said, child_path}
use Rattle.composition.specs.Trees.{Tree, node, Trees, none, cut, child, Branch, size_among, grown, own_branches, lifted_branches}
use Rattle.laws_extending.specs.Extending.{lowered, lowered_branch, tried_below, Known, known_or, fresh_tree}
use Rattle.composition.specs.Compose.{decided, decides_nothing, is_overgrown_on_the_way}

-- what is said at the node's own path
abbrev pub level_0 : Here → Here
level_0 h = record h { arcs = filter (λ a. a.level == 0) h.arcs; variants = filter (λ c. c.level == 0) h.variants }

abbrev mutual
  -- a tree that keeps so much at each node
  pub thin : Tree → Tree
  thin (node n h own lifted) = node n (level_0 h) (thin_among own) (thin_among lifted)

  pub thin_among : Trees → Trees
  thin_among none = none
  thin_among cut = cut
  thin_among (child b t ts) = child b (thin t) (thin_among ts)

-- the arcs of some children, in order
abbrev pub branches : Trees → List Branch
branches none = []
branches cut = []
branches (child b t ts) = b ∷ branches ts

-- all kinds of arcs, in the order of a node's children
abbrev pub all_kinds : List ArcKind
all_kinds = Inherits ∷ Variant ∷ Reference ∷ Payload ∷ Specializes ∷ []

module _ (l : Limits) (m : Node) where
  -- an arc of a child, one level down, unless the path to which it leads is too long there
  abbrev pub branch_below : Branch → Option Branch
  branch_below b = elim (fits l (child_path m (suc b.level) b.lead.target)) [ true ↦ Some (lowered_branch b) | false ↦ None ]

  -- the arcs of the node one level down, by those of the new level and those of the node's own children: of each kind the new ones come first
  abbrev pub branches_below : List Branch → List Branch → List Branch
  branches_below new old = flat_map (λ k. filter (λ b. same_kind k b.kind) new ++ filter_map branch_below (filter (λ b. same_kind k b.kind) old)) all_kinds

module _ (l : Limits) (new : Node → Here) (fresh : Node → Branch → ℕ → Tree) (f : Frame) (name : Text) where
  abbrev mutual
    -- the thin tree one level down, of so many nodes at most
    pub extended_thin : Tree → ℕ → Tree
    extended_thin (node n h own lifted) = λ room.
        let m = lowered f name n in
        let tree = known_or (fresh m) (known_thin own ++ known_thin lifted) in
        let own_below = grown tree (room - 1) (branches_below l m (own_branches m (new m)) (branches own)) in
        let lifted_below = grown tree (room - 1 - size_among own_below) (lifted_branches l m own_below) in
        node m (new m) own_below lifted_below

    pub known_thin : Trees → Known
    known_thin none = []
    known_thin cut = []
    known_thin (child b t ts) = (lowered_branch b, extended_thin t) ∷ known_thin ts

-- ---- a child on the stage

-- `parent` is the thin tree of the stage's node at the path above
module _ (l : Limits) (new : Node → Here) (fresh : Node → Branch → ℕ → Tree) (name : Text) (parent : Tree) where
  -- the child's thin tree by the frame of its own level
  abbrev pub thin_child_by : Frame → Tree
  thin_child_by f = extended_thin l new fresh f name parent l.nodes

  -- one round of choices, in a thin tree
  abbrev pub thin_round : Frame → Frame
  thin_round f =
      let t = thin_child_by (record f { overgrown = false }) in
      record f { choices = f.choices ++ decided l t f.choices; overgrown = f.overgrown || is_overgrown_on_the_way t }

  -- so many rounds, up to one that decides nothing
  abbrev pub thin_rounds : ℕ → Frame → Frame
  thin_rounds zero f = f
  thin_rounds (suc k) f =
      let g = thin_round f in
      elim (decides_nothing f g) [ true ↦ g | false ↦ thin_rounds k g ]

  -- the thin tree of a child that is loaded or not
  abbrev pub thin_child : Bool → Tree
  thin_child loaded = thin_child_by (thin_rounds l.rounds (record bare { loaded = loaded }))

-- the thin tree of an arc of a node, grown from nothing
abbrev pub thin_fresh : Limits → (Node → Here) → Node → Branch → ℕ → Tree
thin_fresh l here n b room = thin (fresh_tree l here n b room)

-- ---- what an index keeps misses no fault

-- the reason is that the child's path passes a limit of paths
abbrev pub is_long : Option Reason → Bool
is_long None = false
is_long (Some r) = is_path_too_long r

module _ (l : Limits) (f : Frame) (name : Text) where
  abbrev mutual
    -- one level down no arc of a node of the tree leads to a path that is too long
    pub AllShort : Tree → Type 0
    AllShort (node n h own lifted) = AllByRecursion (λ a. is_long (tried_below l (lowered f name n) a).fault ≡ false) h.arcs × AllShortAmong own × AllShortAmong lifted

    pub AllShortAmong : Trees → Type 0
    AllShortAmong none = Unit {0}
    AllShortAmong cut = Unit {0}
    AllShortAmong (child b t ts) = AllShort t × AllShortAmong ts

-- ---- nodes and arcs alone

abbrev mutual
  -- a tree of which nodes and arcs alone are kept
  pub bared : Tree → Tree
  bared (node n h own lifted) = node n nothing_said (bared_among own) (bared_among lifted)

  pub bared_among : Trees → Trees
  bared_among none = none
  bared_among cut = cut
  bared_among (child b t ts) = child b (bared t) (bared_among ts)
