-- The tree of a node, and the classes that its arcs hand up.
-- docs/COMPOSITION.md, 'Nodes, and which arcs are followed' and 'Class lists'.
pub use Rattle.prim_nodes.specs.declared.arcs.Branch.{Branch}
use Rattle.std.specs.Prelude.{ℕ, zero, suc, ◌+◌, ◌==◌, ◌-◌, nat_le, Bool, true, false, List, [], ◌∷◌, ◌++◌, map, flat_map, take, drop, length, filter, Option, Some, None, filter_map}
use Rattle.path_maps.specs.declared.kind.ArcKind.{ArcKind}
use Rattle.path_maps.specs.declared.kind.ArcKind.TheVariants.{Inherits, Variant, Reference, Payload, Specializes}
use Rattle.composition.specs.Texts.{both}
use Rattle.composition.specs.Paths.{Path, Limits, fits, is_prefix, same_path, up, has_selections}
use Rattle.list_ops.specs.ListEdits.{firsts}
use Rattle.sdf_values.specs.Scales.{Offset, composed}
use Rattle.composition.specs.World.{identity, StackName}
use Rattle.composition.specs.Arcs.{same_kind, Outcome, leads, Lead, Reason}
use Rattle.composition.specs.Nodes.{Node, Frame, Tried, Chosen, Here, author, child_path, child_chain, refusal}

mutual
  -- a node, what its layers say, its own children and its lifted ones, each in the order of the tree
  pub data Tree : Type 0 where
    node : Node → Here → Trees → Trees → Tree

  -- children of a node, each with its arc and its tree; `cut` where there was no room for further ones
  pub data Trees : Type 0 where
    none : Trees
    cut : Trees
    child : Branch → Tree → Trees → Trees

-- the node at the top of a tree
abbrev pub node_of : Tree → Node
node_of (node n h own lifted) = n

-- what the layers say at the node at the top of a tree
abbrev pub here_of : Tree → Here
here_of (node n h own lifted) = h

-- some child passes a test of its arc and its tree
abbrev pub any_child : (Branch → Tree → Bool) → Trees → Bool
any_child test none = false
any_child test cut = false
any_child test (child b t ts) = elim (test b t) [ true ↦ true | false ↦ any_child test ts ]

abbrev mutual
  -- the nodes of a tree in its order
  pub nodes_of : Tree → List Node
  nodes_of (node n h own lifted) = n ∷ nodes_among own ++ nodes_among lifted

  -- the nodes of some children in order, each with what stands below it
  pub nodes_among : Trees → List Node
  nodes_among none = []
  nodes_among cut = []
  nodes_among (child b t ts) = nodes_of t ++ nodes_among ts

abbrev mutual
  -- how many nodes a tree has
  pub size : Tree → ℕ
  size (node n h own lifted) = suc (size_among own + size_among lifted)

  -- how many nodes some children have, with all below them
  pub size_among : Trees → ℕ
  size_among none = 0
  size_among cut = 0
  size_among (child b t ts) = size t + size_among ts

abbrev mutual
  -- a tree is overgrown where it was cut
  pub is_overgrown : Tree → Bool
  is_overgrown (node n h own lifted) = elim (is_overgrown_among own) [ true ↦ true | false ↦ is_overgrown_among lifted ]

  -- children were cut, here or further below
  pub is_overgrown_among : Trees → Bool
  is_overgrown_among none = false
  is_overgrown_among cut = true
  is_overgrown_among (child b t ts) = elim (is_overgrown t) [ true ↦ true | false ↦ is_overgrown_among ts ]

abbrev mutual
  -- some node of a tree has a spec
  pub has_spec_in : Tree → Bool
  has_spec_in (node n h own lifted) = elim h.has_spec [ true ↦ true | false ↦ elim (has_spec_among own) [ true ↦ true | false ↦ has_spec_among lifted ] ]

  -- some node at or below these children has a spec
  pub has_spec_among : Trees → Bool
  has_spec_among none = false
  has_spec_among cut = false
  has_spec_among (child b t ts) = elim (has_spec_in t) [ true ↦ true | false ↦ has_spec_among ts ]

-- a class of a node: the level of its arc, and the target
abbrev pub Class : Type 0
Class = ℕ × Path

-- two classes are one: level and target are the same
abbrev pub same_class : Class → Class → Bool
same_class c d = both (c.0 == d.0) (same_path c.1 d.1)

-- the children that hand up their classes, beside those of the kind itself
abbrev pub hands_up : ArcKind → ArcKind → Bool
hands_up Inherits Variant = true
hands_up Inherits Reference = true
hands_up Inherits Payload = true
hands_up Specializes Inherits = true
hands_up Specializes Variant = true
hands_up Specializes Reference = true
hands_up Specializes Payload = true
hands_up _ _ = false

module _ (l : Limits) where
  -- a class's path through an arc, given the arc's target and author: the target at its front becomes the author, other paths stay
  abbrev pub lifted_target : Path → Path → Path → Path
  lifted_target target by p = elim (is_prefix target p) [ true ↦ by ++ drop (length target) p | false ↦ p ]

  -- a class of a child, taken through the arc to the parent; dropped where its level is above the arc's, or its path passes a limit
  abbrev pub lifted_class : Branch → Path → Class → Option Class
  lifted_class b by c =
      elim (nat_le c.0 b.level) [
        | false ↦ None
        | true ↦ elim (fits l (lifted_target b.lead.target by c.1)) [ true ↦ Some (c.0, lifted_target b.lead.target by c.1) | false ↦ None ]
      ]

  -- the class list of a child, taken through its arc to the node
  abbrev pub lifted_through : Node → Branch → List Class → List Class
  lifted_through n b cs = filter_map (lifted_class b (author n b.level)) cs

  abbrev mutual
    -- the class list of a node, of one kind
    pub classes : ArcKind → Tree → List Class
    classes k (node n h own lifted) = firsts same_class (own_classes k n own ++ handed_up k n own)

    -- each own arc of the kind, and then the list of its child
    pub own_classes : ArcKind → Node → Trees → List Class
    own_classes k n none = []
    own_classes k n cut = []
    own_classes k n (child b t ts) =
        elim (same_kind k b.kind) [
          | true ↦ (b.level, b.lead.target) ∷ lifted_through n b (classes k t) ++ own_classes k n ts
          | false ↦ own_classes k n ts
        ]

    -- the lifted lists of the children of other kinds, which hand up their classes
    pub handed_up : ArcKind → Node → Trees → List Class
    handed_up k n none = []
    handed_up k n cut = []
    handed_up k n (child b t ts) =
        elim (hands_up k b.kind) [
          | true ↦ lifted_through n b (classes k t) ++ handed_up k n ts
          | false ↦ handed_up k n ts
        ]

  -- the class list of a node that is given with its own children alone
  abbrev pub classes_from : ArcKind → Node → Trees → List Class
  classes_from k n own = firsts same_class (own_classes k n own ++ handed_up k n own)

-- the arc of an item, if it leads somewhere and is followed
abbrev pub if_followed : Tried → Outcome → Option Reason → List Branch
if_followed a (leads lead) None = (record { kind = a.kind; level = a.level; lead = lead; lifted = false }) ∷ []
if_followed a _ _ = []

-- the arcs of a kind that a node follows
abbrev pub followed : List Tried → ArcKind → List Branch
followed arcs k = flat_map (λ a. if_followed a a.authored.outcome a.fault) (filter (λ a. same_kind k a.kind) arcs)

-- a target in the node's own stack, with the offset that changes no time
abbrev pub in_own_stack : Node → Path → Lead
in_own_stack n target = record { stack = n.stack; target = target; offset = identity }

-- the arc to a chosen variant
abbrev pub variant_branch : Node → Chosen → Branch
variant_branch n c = record { kind = Variant; level = c.level; lead = in_own_stack n c.target; lifted = false }

-- the arcs of a node in the order of its tree: inherits, variants, references, payloads and specializes
abbrev pub own_branches : Node → Here → List Branch
own_branches n h =
    followed h.arcs Inherits
    ++ map (variant_branch n) h.variants
    ++ flat_map (followed h.arcs) (Reference ∷ Payload ∷ Specializes ∷ [])

-- the child comes by the arc of a class: of this kind, level and target
abbrev pub is_class_of : ArcKind → Class → Branch → Bool
is_class_of k c b = both (same_kind k b.kind) (same_class (b.level, b.lead.target) c)

module _ (l : Limits) where
  -- a lifted class has a child where it is no own arc, has no selections and is followed
  abbrev pub lifted_branch : ArcKind → Node → Trees → Class → List Branch
  lifted_branch k n own c =
      elim (any_child (λ b t. is_class_of k c b) own) [
        | true ↦ []
        | false ↦ elim (has_selections c.1) [
          | true ↦ []
          | false ↦ elim (refusal l n c.0 (in_own_stack n c.1)) [
            | Some r ↦ []
            | None ↦ (record { kind = k; level = c.0; lead = in_own_stack n c.1; lifted = true }) ∷ []
          ]
        ]
      ]

  -- the arcs to lifted classes: of the inherits list, and then of the specializes list
  abbrev pub lifted_branches : Node → Trees → List Branch
  lifted_branches n own = flat_map (λ k. flat_map (lifted_branch k n own) (classes_from l k n own)) (Inherits ∷ Specializes ∷ [])

-- the meanings at one depth: the frames of a prim of a stack, and the tree of a node, of so many nodes at most
pub record Meaning : Type 0 where
  pub frames : StackName → Path → List (StackName × Path) → Offset → List Frame
  pub tree : ℕ → Node → Tree

-- the children of some arcs, each being told for how many nodes there is room
module _ (tree : Branch → ℕ → Tree) where
  -- children in order, each with its tree; cut where there is no room for one more node
  abbrev pub grown : ℕ → List Branch → Trees
  grown room [] = none
  grown zero (b ∷ bs) = cut
  grown (suc room) (b ∷ bs) =
      let t = tree b (suc room) in
      child b t (grown (suc room - size t) bs)

module _ (deeper : Meaning) where
  -- the child of an arc: the frames of its own levels come from the node, those of the target's ancestors from the target's stack
  abbrev pub arc_child : Node → Branch → Node
  arc_child n b =
      let chain = child_chain n b.level in
      let offset = composed b.lead.offset n.offset in
      record {
        stack = b.lead.stack;
        path = child_path n b.level b.lead.target;
        frames = take (b.level + 1) n.frames ++ deeper.frames b.lead.stack (up b.lead.target 1) chain offset;
        chain = chain;
        depth = n.depth - 1;
        offset = offset;
        maps = (record { kind = b.kind; target = b.lead.target; author = author n b.level }) ∷ n.maps;
      }

  -- a variant keeps stack, chain, depth and offset
  abbrev pub variant_child : Node → Branch → Node
  variant_child n b = record n {
    path = child_path n b.level b.lead.target;
    frames = take (b.level + 1) n.frames;
    maps = (record { kind = Variant; target = b.lead.target; author = author n b.level }) ∷ n.maps;
  }

  -- the tree of an arc's child: with one arc less left, but a variant's with as many
  abbrev pub child_tree : (ℕ → Node → Tree) → Node → Branch → ℕ → Tree
  child_tree tree n b room =
      elim (same_kind Variant b.kind) [
        | true ↦ tree room (variant_child n b)
        | false ↦ deeper.tree room (arc_child n b)
      ]

module _ (l : Limits) (here : Node → Here) (deeper : Meaning) where
  -- `steps` bounds how many variant arcs follow each other, which is no more than there is room
  abbrev pub tree_with : ℕ → ℕ → Node → Tree
  tree_with zero room n = node n (here n) cut none
  tree_with (suc steps) room n =
      let h = here n in
      let own = grown (child_tree deeper (tree_with steps) n) (room - 1) (own_branches n h) in
      let lifted = grown (child_tree deeper (tree_with steps) n) (room - 1 - size_among own) (lifted_branches l n own) in
      node n h own lifted
