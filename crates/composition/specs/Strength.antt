-- The strength order of the nodes of a tree, and the sites of a listing.
-- docs/COMPOSITION.md, 'Strength'.
use Rattle.std.specs.Prelude.{ℕ, ◌+◌, nat_lt, nat_le, Bool, true, false, not, cond, List, [], ◌∷◌, ◌++◌, map, flat_map, filter}
use Rattle.std.specs.List.{list_any}
use Rattle.path_maps.specs.declared.kind.ArcKind.{ArcKind}
use Rattle.path_maps.specs.declared.kind.ArcKind.TheVariants.{Inherits, Variant, Reference, Payload, Specializes}
use Rattle.composition.specs.Texts.{both}
use Rattle.composition.specs.Paths.{Limits, same_path}
use Rattle.composition.specs.World.{same_stack}
use Rattle.composition.specs.Arcs.{same_kind}
use Rattle.composition.specs.Nodes.{Node}
use Rattle.composition.specs.Trees.{Tree, node, Trees, none, cut, child, Branch, Class, is_class_of, classes, any_child, node_of}

-- two nodes visit one site: stack and path are the same
abbrev pub same_site : Node → Node → Bool
same_site m n = both (same_stack m.stack n.stack) (same_path m.path n.path)

-- two places are of one site
abbrev pub same_place : Tree → Tree → Bool
same_place s t = same_site (node_of s) (node_of t)

-- the child comes by a lifted inherits arc
abbrev pub is_lifted_inherits : Branch → Bool
is_lifted_inherits b = both b.lifted (same_kind Inherits b.kind)

-- an own variant, reference or payload child
abbrev pub leads_on : Branch → Bool
leads_on b = elim (same_kind Variant b.kind) [ true ↦ true | false ↦ elim (same_kind Reference b.kind) [ true ↦ true | false ↦ same_kind Payload b.kind ] ]

-- an inherits child that visits the site of a node
abbrev pub is_class_child : Node → Branch → Tree → Bool
is_class_child n b t = both (same_kind Inherits b.kind) (same_site (node_of t) n)

-- an inherits child, own or lifted, with the stack and path of a node
abbrev pub has_class_child : Node → Tree → Bool
has_class_child n (node m h own lifted) = elim (any_child (is_class_child n) own) [ true ↦ true | false ↦ any_child (is_class_child n) lifted ]

-- a node's class is also a class of a variant, reference or payload among its own siblings
abbrev pub is_shared : Node → Trees → Bool
is_shared n siblings = any_child (λ b t. both (leads_on b) (has_class_child n t)) siblings

-- 1 where it holds, else 0
abbrev pub one_if : Bool → ℕ
one_if b = cond b 1 0

-- a node of a tree, with what stands below it, and its rank
abbrev pub Ranked : Type 0
Ranked = Tree × ℕ

-- how many lifted inherits nodes stand at a child or above it
abbrev pub above_child : ℕ → Branch → ℕ
above_child above b = above + one_if (is_lifted_inherits b)

-- a child's rank: the lifted inherits nodes strictly above it, and one more where it is one itself and its class is shared
abbrev pub rank_of : ℕ → Trees → Branch → Node → ℕ
rank_of above siblings b n = above + one_if (both (is_lifted_inherits b) (is_shared n siblings))

-- what stands under the branches of a node
abbrev pub Parts : Type 0
Parts = List (Branch × List Ranked)

-- what stands under the child of a class: the first one of that kind, level and target
abbrev pub part_of : ArcKind → Class → Parts → List Ranked
part_of k c [] = []
part_of k c (e ∷ es) =
    elim (is_class_of k c e.0) [ true ↦ e.1 | false ↦ part_of k c es ]

-- the children of a class list, in its order
abbrev pub by_classes : ArcKind → List Class → Parts → List Ranked
by_classes k cs parts = flat_map (λ c. part_of k c parts) cs

-- what stands under the children of a kind, in the order of the tree
abbrev pub by_kind : ArcKind → Parts → List Ranked
by_kind k parts = flat_map (λ e. e.1) (filter (λ e. same_kind k e.0.kind) parts)

-- what stands under inherits, in the order of their list, under variants, references and payloads; specializes are left to the weak part
abbrev pub by_strength : List Class → Parts → List Ranked
by_strength cs parts = by_classes Inherits cs parts ++ by_kind Variant parts ++ by_kind Reference parts ++ by_kind Payload parts

module _ (l : Limits) where
  abbrev mutual
    -- the strong part: the node, and then the strong parts of its children, but for those by specializes arcs.
    -- `above`: the lifted inherits nodes at the node or above it
    pub strong : ℕ → ℕ → Tree → List Ranked
    strong above rank (node n h own lifted) =
        (node n h own lifted, rank) ∷ by_strength (classes l Inherits (node n h own lifted)) (strong_parts above own own ++ strong_parts above own lifted)

    -- the strong part of each child
    pub strong_parts : ℕ → Trees → Trees → Parts
    strong_parts above siblings none = []
    strong_parts above siblings cut = []
    strong_parts above siblings (child b t ts) =
        (b, strong (above_child above b) (rank_of above siblings b (node_of t)) t) ∷ strong_parts above siblings ts

  -- the child comes by a specializes arc
  abbrev pub specialized : ArcKind → Bool
  specialized k = same_kind Specializes k

  abbrev mutual
    -- the weak part: what the specializes list leads to, and then the weak parts of all other children
    pub weak : ℕ → ℕ → Tree → List Ranked
    weak above rank (node n h own lifted) =
        let parts = weak_parts above own own ++ weak_parts above own lifted in
        by_classes Specializes (classes l Specializes (node n h own lifted)) parts
        ++ by_strength (classes l Inherits (node n h own lifted)) parts

    -- of a specializes child strong and weak, of others weak
    pub weak_parts : ℕ → Trees → Trees → Parts
    weak_parts above siblings none = []
    weak_parts above siblings cut = []
    weak_parts above siblings (child b t ts) =
        let rank = rank_of above siblings b (node_of t) in (
          b,
          elim (specialized b.kind) [
            | true ↦ strong (above_child above b) rank t ++ weak (above_child above b) rank t
            | false ↦ weak (above_child above b) rank t
          ],
        )
        ∷ weak_parts above siblings ts

  -- the strong part of a prim's tree, with the ranks
  abbrev pub strong_of : Tree → List Ranked
  strong_of t = strong 0 0 t

  -- the weak part of a prim's tree, with the ranks
  abbrev pub weak_of : Tree → List Ranked
  weak_of t = weak 0 0 t

  -- the nodes of a tree from strong to weak
  abbrev pub listing : Tree → List Tree
  listing t = map (λ e. e.0) (strong_of t ++ weak_of t)

  -- an earlier place beats one that is not of lesser rank, a later one only one of greater rank
  abbrev pub best_places : List Ranked → List Ranked → List Ranked
  best_places before [] = []
  best_places before (e ∷ after) =
      elim (list_any (λ x. both (nat_le x.1 e.1) (same_place x.0 e.0)) before) [
        | true ↦ best_places (e ∷ before) after
        | false ↦ elim (list_any (λ x. both (nat_lt x.1 e.1) (same_place x.0 e.0)) after) [
          | true ↦ best_places (e ∷ before) after
          | false ↦ e ∷ best_places (e ∷ before) after
        ]
      ]

  -- the site of a place has none among others
  abbrev pub not_among : List Ranked → Ranked → Bool
  not_among es x = not (list_any (λ e. same_place e.0 x.0) es)

  -- the sites of a tree that is not overgrown, each by the node at the place that it keeps
  abbrev pub sites : Tree → List Tree
  sites t =
      let strong_places = strong_of t in
      map (λ e. e.0) (best_places [] strong_places ++ best_places [] (filter (not_among strong_places) (weak_of t)))
