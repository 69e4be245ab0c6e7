-- A child that is listed has no more names than a path may have, so a walk of as many levels as are left is whole.
use Rattle.std.proofs.Common.{◌≡◌, refl, ap, ℕ, zero, suc, ◌+◌, ◌≤◌, nat_le, Bool, true, false, List, [], ◌∷◌, length, flat_map, Option, Some, None, All, Contains, arith}
use Rattle.std.specs.List.{list_all}
use Rattle.std.proofs.lemmas.Bool.{leb-true}
use Rattle.std.proofs.lemmas.List.Elements.{All-nil, All-head, All-contains, filter_passes}
use Rattle.sdf_paths.specs.declared.element.Element.{Element}
use Rattle.sdf_paths.specs.Paths.{depth, printed, is_prim_name}
use Rattle.composition.specs.Texts.{Text, both}
use Rattle.composition.specs.Paths.{Path, Limits, fits}
use Rattle.composition.specs.World.{World}
use Rattle.composition.specs.Faults.{Index, index}
use Rattle.composition.specs.Fields.{child_path, listed_children, is_inactive, all_children, meta_of}
use Rattle.composition.specs.Opinions.{Said, said_at_all}
use Rattle.composition.specs.Views.{PrimView, empty_view, view, view_by_index, root_children, walked}
use Rattle.prim_compose.specs.Laws.{depth_below}
use Rattle.stage_walks.proofs.Members.{all_alike}

first : (a b : Bool) → both a b ≡ true → a ≡ true
first true b h = refl
first false b h = absurd cc

-- so many names deep from a path is one less from its child
pub fewer_left : (most names : ℕ) (p : Path) (name : Text) → most ≤ depth p + suc names → most ≤ depth (child_path p name) + names
fewer_left most names p name enough = let more : depth (child_path p name) ≡ depth p + 1 = depth_below p name in omega (arith, more, enough)

module _ (l : Limits) where
  -- each of these names gives a child whose path is within the limits
  abbrev pub Fit : Path → List Text → Type 0
  Fit p names = All (λ name. fits l (child_path p name) ≡ true) names

  fitting : (p : Path) (names : List Text) → Fit p (listed_children l p names)
  fitting p names = filter_passes (λ name. fits l (child_path p name)) names

  none_fit : (p : Path) → Fit p []
  none_fit p = All-nil (λ name. fits l (child_path p name) ≡ true)

  by_activity : (p : Path) (b : Bool) (said : List Said) → Fit p (listed_children l p (elim b [ true ↦ [] | false ↦ all_children said ]))
  by_activity p true said = none_fit p
  by_activity p false said = fitting p (all_children said)

  by_index : (w : World) (p : Path) (i : Option Index) → Fit p (view_by_index l w p i).children
  by_index w p None = none_fit p
  by_index w p (Some i) = by_activity p (is_inactive (meta_of (said_at_all l w i.sites))) (said_at_all l w i.sites)

  by_plain : (w : World) (e : Element) (p : Path) (b : Bool)
      → Fit (e ∷ p) (elim b as (λ _. PrimView) [ true ↦ view_by_index l w (e ∷ p) (index l w (e ∷ p)) | false ↦ empty_view ]).children
  by_plain w e p true = by_index w (e ∷ p) (index l w (e ∷ p))
  by_plain w e p false = none_fit (e ∷ p)

  in_view : (w : World) (p : Path) → Fit p (view l w p).children
  in_view w [] = fitting [] (root_children l w)
  in_view w (e ∷ p) = by_plain w e p (list_all is_prim_name (e ∷ p))

  few_names : (p : Path) (name : Text) → fits l (child_path p name) ≡ true → depth (child_path p name) ≤ l.names
  few_names p name h =
      leb-true (depth (child_path p name)) l.names (first (nat_le (depth (child_path p name)) l.names) (nat_le (length (printed (child_path p name))) l.bytes) h)

  pub within : (w : World) (p : Path) (name : Text) → Contains (view l w p).children name → (depth (child_path p name) ≡ depth p + 1) × (depth (child_path p name) ≤ l.names)
  within w p name has = (depth_below p name, few_names p name (All-contains (λ n. fits l (child_path p n) ≡ true) (view l w p).children name (in_view w p) has))

  none_left : (p : Path) (names : List Text) → l.names ≤ depth p → Fit p names → names ≡ []
  none_left p [] full fit = refl
  none_left p (name ∷ names) full fit =
      let more : depth (child_path p name) ≡ depth p + 1 = depth_below p name in
      let few : depth (child_path p name) ≤ l.names = few_names p name (All-head (λ n. fits l (child_path p n) ≡ true) name names fit) in
      absurd (omega (arith, more, few, full))

  -- a path of as many names as a path may have lists no child
  pub lists_none : (w : World) (p : Path) → l.names ≤ depth p → (view l w p).children ≡ []
  lists_none w p full = none_left p (view l w p).children full (in_view w p)

  pub no_deeper : (w : World) (names deeper : ℕ) (p : Path) → l.names ≤ depth p + names → names ≤ deeper → walked l w deeper p ≡ walked l w names p
  no_deeper w zero zero p enough more = refl
  no_deeper w zero (suc deeper) p enough more =
      ap (λ (names : List Text). (p, view l w p) ∷ flat_map (λ name. walked l w deeper (child_path p name)) names) (lists_none w p (omega (arith, enough)))
  no_deeper w (suc names) zero p enough more = absurd (omega (arith, more))
  no_deeper w (suc names) (suc deeper) p enough more =
      ap (λ (below : List (Path × PrimView)). (p, view l w p) ∷ below) (
      all_alike (λ name. walked l w deeper (child_path p name)) (λ name. walked l w names (child_path p name))
      (λ name. no_deeper w names deeper (child_path p name) (fewer_left l.names names p name enough) (omega (arith, more))) (view l w p).children)
