-- What holds of each node of a tree holds of its sites.
use Rattle.std.proofs.Common.{ℕ, nat_le, nat_lt, Bool, true, false, List, [], ◌∷◌, ◌++◌, filter}
use Rattle.std.specs.List.{list_any}
use Rattle.path_maps.specs.declared.kind.ArcKind.{ArcKind}
use Rattle.path_maps.specs.declared.kind.ArcKind.TheVariants.{Inherits, Variant, Reference, Payload, Specializes}
use Rattle.composition.specs.Texts.{both}
use Rattle.composition.specs.Paths.{Limits}
use Rattle.composition.specs.Arcs.{same_kind}
use Rattle.composition.specs.Nodes.{Node}
use Rattle.composition.specs.Trees.{Tree, node, Trees, none, cut, child, Branch, Class, is_class_of, classes, node_of}
use Rattle.composition.specs.Strength.{Ranked, Parts, above_child, rank_of, part_of, by_classes, by_kind, by_strength, strong, strong_parts, specialized, weak, weak_parts, strong_of, weak_of, best_places, not_among, same_place, sites}
use Rattle.agreeing_worlds.proofs.Each.{Each, joined, kept, in_map, in_parts}
use Rattle.agreeing_worlds.proofs.Growing.{InTree, InAmong}

module _ (P : Node → Type 0) where
  -- it holds of the node at a place
  abbrev At : Ranked → Type 0
  At e = P (node_of e.0)

  abbrev InParts : Parts → Type 0
  InParts parts = Each (λ e. Each At e.1) parts

  in_part : (k : ArcKind) (c : Class) (parts : Parts) → InParts parts → Each At (part_of k c parts)
  in_part k c [] h = tt
  in_part k c (e ∷ es) h = by (is_class_of k c e.0) (in_part k c es h.1)
    where
      by : (b : Bool) → Each At (part_of k c es) → Each At (elim b as (λ _. List Ranked) [ true ↦ e.1 | false ↦ part_of k c es ])
      by true rest = h.0
      by false rest = rest

  in_classes : (k : ArcKind) (cs : List Class) (parts : Parts) → InParts parts → Each At (by_classes k cs parts)
  in_classes k [] parts h = tt
  in_classes k (c ∷ cs) parts h = joined At (part_of k c parts) (by_classes k cs parts) (in_part k c parts h) (in_classes k cs parts h)

  in_kind : (k : ArcKind) (parts : Parts) → InParts parts → Each At (by_kind k parts)
  in_kind k parts h =
      in_parts At (λ e. e.1) (filter (λ e. same_kind k e.0.kind) parts) (kept (λ (e : Branch × List Ranked). Each At e.1) (λ e. same_kind k e.0.kind) parts h)

  in_strength : (cs : List Class) (parts : Parts) → InParts parts → Each At (by_strength cs parts)
  in_strength cs parts h =
      let first : List Ranked = by_classes Inherits cs parts in
      let second : List Ranked = by_kind Variant parts in
      let third : List Ranked = by_kind Reference parts in
      joined At ((first ++ second) ++ third) (by_kind Payload parts)
      (joined At (first ++ second) third (joined At first second (in_classes Inherits cs parts h) (in_kind Variant parts h)) (in_kind Reference parts h))
      (in_kind Payload parts h)

  module _ (l : Limits) where
    mutual
      in_strong : (above rank : ℕ) (t : Tree) → InTree P t → Each At (strong l above rank t)
      in_strong above rank (node n h own lifted) is =
          let mine : Parts = strong_parts l above own own in
          let others : Parts = strong_parts l above own lifted in (
            is.0,
            in_strength (classes l Inherits (node n h own lifted)) (mine ++ others)
                (joined (λ (e : Branch × List Ranked). Each At e.1) mine others (in_strong_parts above own own is.1) (in_strong_parts above own lifted is.2)),
          )

      in_strong_parts : (above : ℕ) (siblings ts : Trees) → InAmong P ts → InParts (strong_parts l above siblings ts)
      in_strong_parts above siblings none is = tt
      in_strong_parts above siblings cut is = tt
      in_strong_parts above siblings (child b t ts) is =
          (in_strong (above_child above b) (rank_of above siblings b (node_of t)) t is.0, in_strong_parts above siblings ts is.1)

    weak_by : (c : Bool) (s w : List Ranked) → Each At s → Each At w → Each At (elim c as (λ _. List Ranked) [ true ↦ s ++ w | false ↦ w ])
    weak_by true s w h k = joined At s w h k
    weak_by false s w h k = k

    mutual
      in_weak : (above rank : ℕ) (t : Tree) → InTree P t → Each At (weak l above rank t)
      in_weak above rank (node n h own lifted) is =
          let mine : Parts = weak_parts l above own own in
          let others : Parts = weak_parts l above own lifted in
          let both_parts : InParts (mine ++ others) =
          joined (λ (e : Branch × List Ranked). Each At e.1) mine others (in_weak_parts above own own is.1) (in_weak_parts above own lifted is.2) in
          joined At (by_classes Specializes (classes l Specializes (node n h own lifted)) (mine ++ others)) (by_strength (classes l Inherits (node n h own lifted)) (mine ++ others))
          (in_classes Specializes (classes l Specializes (node n h own lifted)) (mine ++ others) both_parts)
          (in_strength (classes l Inherits (node n h own lifted)) (mine ++ others) both_parts)

      in_weak_parts : (above : ℕ) (siblings ts : Trees) → InAmong P ts → InParts (weak_parts l above siblings ts)
      in_weak_parts above siblings none is = tt
      in_weak_parts above siblings cut is = tt
      in_weak_parts above siblings (child b t ts) is =
          let rank : ℕ = rank_of above siblings b (node_of t) in (
            weak_by (specialized l b.kind) (strong l (above_child above b) rank t) (weak l (above_child above b) rank t)
                (in_strong (above_child above b) rank t is.0) (in_weak (above_child above b) rank t is.0),
            in_weak_parts above siblings ts is.1,
          )

    in_best : (before after : List Ranked) → Each At after → Each At (best_places l before after)
    in_best before [] h = tt
    in_best before (e ∷ after) h =
        by (list_any (λ x. both (nat_le x.1 e.1) (same_place x.0 e.0)) before) (list_any (λ x. both (nat_lt x.1 e.1) (same_place x.0 e.0)) after) (in_best (e ∷ before) after h.1)
      where
        by : (a b : Bool) → Each At (best_places l (e ∷ before) after)
            → Each At (elim a as (λ _. List Ranked) [
              | true ↦ best_places l (e ∷ before) after
              | false ↦ elim b as (λ _. List Ranked) [ true ↦ best_places l (e ∷ before) after | false ↦ e ∷ best_places l (e ∷ before) after ]
            ])
        by true b rest = rest
        by false true rest = rest
        by false false rest = (h.0, rest)

    pub in_sites : (t : Tree) → InTree P t → Each (λ s. P (node_of s)) (sites l t)
    in_sites t is =
        let places : List Ranked = strong_of l t in
        let others : List Ranked = filter (not_among l places) (weak_of l t) in
        in_map (λ (s : Tree). P (node_of s)) (λ e. e.0) (best_places l [] places ++ best_places l [] others)
        (joined At (best_places l [] places) (best_places l [] others) (in_best [] places (in_strong 0 0 t is))
        (in_best [] others (kept At (not_among l places) (weak_of l t) (in_weak 0 0 t is))))
