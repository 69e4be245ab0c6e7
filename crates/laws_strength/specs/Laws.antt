-- What a USD engineer expects of the strength order, whatever the limits, the tree and its nodes are.
use Rattle.std.specs.Prelude.{◌≡◌, false, true, List, [], ◌∷◌, ◌++◌, map}
use Rattle.std.specs.List.{list_any}
use Rattle.path_maps.specs.declared.kind.ArcKind.{ArcKind}
use Rattle.path_maps.specs.declared.kind.ArcKind.TheVariants.{Inherits, Variant, Reference, Payload, Specializes}
use Rattle.composition.specs.Paths.{Limits}
use Rattle.composition.specs.Nodes.{Node, Here}
use Rattle.composition.specs.Trees.{Tree, node, Trees, none, child, Branch}
use Rattle.composition.specs.Strength.{strong_of, weak_of, listing, sites, same_place}
use Rattle.laws_strength.specs.Ways.{Reached, Each, AreApart}

-- a listing is a strong part, and then a weak one
pub record SpecializesComeLast : Type 0 where
  pub parts : (l : Limits) (t : Tree) → listing l t ≡ map (λ e. e.0) (strong_of l t) ++ map (λ e. e.0) (weak_of l t)
  -- to each node of the strong part leads a way without a specializes arc
  pub strong : (l : Limits) (t : Tree) → Each (λ s. Reached t false s) (map (λ e. e.0) (strong_of l t))
  -- to each node of the weak part leads a way with one
  pub weak : (l : Limits) (t : Tree) → Each (λ s. Reached t true s) (map (λ e. e.0) (weak_of l t))

-- no two sites of a tree are of one layer stack and path
abbrev pub EachSiteOnce : Type 0
EachSiteOnce = (l : Limits) (t : Tree) → AreApart (sites l t)

-- and each node of the listing stands at one of the sites
abbrev pub EachNodeAtASite : Type 0
EachNodeAtASite = (l : Limits) (t : Tree) → Each (λ s. list_any (λ k. same_place k s) (sites l t) ≡ true) (listing l t)

-- a node on which nothing stands
abbrev pub leaf : Node → Here → Tree
leaf n h = node n h none none

-- an arc as it would be if it were of this kind
abbrev pub of_kind : ArcKind → Branch → Branch
of_kind k b = record b { kind = k }

-- a node with one arc of each kind, none of which leads on: its own children stand in the order in which composition follows arcs, or in
-- the reverse one
pub record StrengthIsLivrps : Type 0 where
  pub in_order : (l : Limits) (n i v r p s : Node) (h hi hv hr hp hs : Here) (inherits variant reference payload specializes : Branch)
      → (let own : Trees =
      child (of_kind Inherits inherits) (leaf i hi)
      (child (of_kind Variant variant) (leaf v hv)
      (child (of_kind Reference reference) (leaf r hr) (child (of_kind Payload payload) (leaf p hp) (child (of_kind Specializes specializes) (leaf s hs) none)))) in
      let top : Tree = node n h own none in
      listing l top ≡ top ∷ leaf i hi ∷ leaf v hv ∷ leaf r hr ∷ leaf p hp ∷ leaf s hs ∷ [])
  pub reversed : (l : Limits) (n i v r p s : Node) (h hi hv hr hp hs : Here) (inherits variant reference payload specializes : Branch)
      → (let own : Trees =
      child (of_kind Specializes specializes) (leaf s hs)
      (child (of_kind Payload payload) (leaf p hp)
      (child (of_kind Reference reference) (leaf r hr) (child (of_kind Variant variant) (leaf v hv) (child (of_kind Inherits inherits) (leaf i hi) none)))) in
      let top : Tree = node n h own none in
      listing l top ≡ top ∷ leaf i hi ∷ leaf v hv ∷ leaf r hr ∷ leaf p hp ∷ leaf s hs ∷ [])
