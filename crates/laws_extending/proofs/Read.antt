-- The keys that are read at a node one level down.
use Rattle.std.proofs.Common.{◌≡◌, refl, sym, ap, ◌∙◌, ℕ, suc, Bool, true, false, cond, List, [], ◌∷◌, ◌++◌, map, flat_map, filter}
use Rattle.path_maps.specs.declared.kind.ArcKind.{ArcKind}
use Rattle.path_maps.specs.declared.kind.ArcKind.TheVariants.{Inherits, Reference, Payload, Specializes}
use Rattle.sdf_paths.specs.declared.element.Element.TheVariants.{Prim}
use Rattle.composition.specs.Texts.{Text}
use Rattle.composition.specs.Paths.{Path, Limits, up, levels_of}
use Rattle.composition.specs.World.{World}
use Rattle.composition.specs.Stacks.{stack}
use Rattle.composition.specs.Arcs.{same_kind}
use Rattle.composition.specs.Nodes.{Node, Frame, Tried, Here, here}
use Rattle.composition.specs.Faults.{wants_prim}
use Rattle.composition.specs.Keys.{Key, arcs, head, asked_by_source, asked_at, keys_at}
use Rattle.agreeing_worlds.proofs.Each.{Each, always, front_of, back_of, joined, kept, of_map, in_map, of_parts, in_parts, of_kept}
use Rattle.agreeing_worlds.proofs.Levels.{at_zero}
use Rattle.laws_extending.specs.Extending.{lowered, kinds, tried_below, here_at_0}
use Rattle.laws_extending.specs.KeyLaws.{keys_at_0, KeysExtend}
use Rattle.laws_extending.proofs.Lowered.{levels_of_below, up_below}
use Rattle.laws_extending.proofs.Heres.{said_below, kept_kinds, new_part, new_kinds, old_part, old_kinds}

module _ (P : Key → Type 0) (l : Limits) (w : World) where
  -- what holds of the heads that an item asks, if its kind asks any
  abbrev Asks : Tried → Type 0
  Asks a = wants_prim a.kind ≡ true → Each (λ name. P (head name)) (asked_by_source l w a.authored.item.source)

  abbrev named : List Tried → List Key
  named xs = map head (flat_map (λ a. asked_by_source l w a.authored.item.source) (filter (λ a. wants_prim a.kind) xs))

  to_items : (xs : List Tried) → Each P (named xs) → Each Asks xs
  to_items xs h =
      of_kept (λ name. P (head name)) (λ (a : Tried). wants_prim a.kind) (λ a. asked_by_source l w a.authored.item.source) xs
      (of_map P head (flat_map (λ a. asked_by_source l w a.authored.item.source) (filter (λ a. wants_prim a.kind) xs)) h)

  all_kept : (xs : List Tried) → Each Asks xs → Each (λ a. Each (λ name. P (head name)) (asked_by_source l w a.authored.item.source)) (filter (λ a. wants_prim a.kind) xs)
  all_kept [] h = tt
  all_kept (x ∷ xs) h = by (wants_prim x.kind) refl (all_kept xs h.1)
    where
      by : (b : Bool) → wants_prim x.kind ≡ b → Each (λ a. Each (λ name. P (head name)) (asked_by_source l w a.authored.item.source)) (filter (λ a. wants_prim a.kind) xs)
          → Each (λ a. Each (λ name. P (head name)) (asked_by_source l w a.authored.item.source)) (cond b (x ∷ filter (λ a. wants_prim a.kind) xs) (filter (λ a. wants_prim a.kind) xs))
      by true is rest = (h.0 is, rest)
      by false is rest = rest

  from_items : (xs : List Tried) → Each Asks xs → Each P (named xs)
  from_items xs h =
      in_map P head (flat_map (λ a. asked_by_source l w a.authored.item.source) (filter (λ a. wants_prim a.kind) xs))
      (in_parts (λ name. P (head name)) (λ (a : Tried). asked_by_source l w a.authored.item.source) (filter (λ a. wants_prim a.kind) xs) (all_kept xs h))

  module _ (f : Frame) (name : Text) (n : Node) where
    abbrev m : Node
    m = lowered f name n

    abbrev new : Here
    new = here_at_0 l w m

    abbrev old : Here
    old = here l w n

    abbrev part : ArcKind → List Tried
    part k = filter (λ a. same_kind k a.kind) new.arcs ++ map (tried_below l m) (filter (λ a. same_kind k a.kind) old.arcs)

    abbrev arc_keys : Path → List Key
    arc_keys q = map (λ e. arcs e.0 q) (stack l w n.stack).layers

    -- ---- items

    both_items : Each Asks new.arcs → Each Asks old.arcs → Each Asks (flat_map part kinds)
    both_items h k = in_parts Asks part kinds (always (λ g. Each Asks (part g)) each kinds)
      where
        each : (g : ArcKind) → Each Asks (part g)
        each g = joined Asks (filter (λ a. same_kind g a.kind) new.arcs) (map (tried_below l m) (filter (λ a. same_kind g a.kind) old.arcs))
            (kept Asks (λ a. same_kind g a.kind) new.arcs h) (in_map Asks (tried_below l m) (filter (λ a. same_kind g a.kind) old.arcs) (kept Asks (λ a. same_kind g a.kind) old.arcs k))

    moved : (xs ys : List Tried) → xs ≡ ys → Each Asks xs → Each Asks ys
    moved xs ys e h = rw (← e) h

    new_items : Each Asks (flat_map part kinds) → Each Asks new.arcs
    new_items h =
        let parts : Each (λ k. Each Asks (part k)) kinds = of_parts Asks part kinds h in
        let same : Each (λ k. filter (λ a. same_kind k a.kind) new.arcs ≡ new_part l w f name n k) kinds = kept_kinds (new_part l w f name n) (new_kinds l w f name n) in
        let one : (k : ArcKind) → Each Asks (part k) → filter (λ a. same_kind k a.kind) new.arcs ≡ new_part l w f name n k → Each Asks (new_part l w f name n k) =
        λ k p e. moved (filter (λ a. same_kind k a.kind) new.arcs) (new_part l w f name n k) e
        (front_of Asks (filter (λ a. same_kind k a.kind) new.arcs) (map (tried_below l m) (filter (λ a. same_kind k a.kind) old.arcs)) p) in
        in_parts Asks (new_part l w f name n) kinds
        (one Inherits parts.0 same.0, (one Reference parts.1.0 same.1.0, (one Payload parts.1.1.0 same.1.1.0, (one Specializes parts.1.1.1.0 same.1.1.1.0, tt))))

    old_items : Each Asks (flat_map part kinds) → Each Asks old.arcs
    old_items h =
        let parts : Each (λ k. Each Asks (part k)) kinds = of_parts Asks part kinds h in
        let same : Each (λ k. filter (λ a. same_kind k a.kind) old.arcs ≡ old_part l w f name n k) kinds = kept_kinds (old_part l w f name n) (old_kinds l w f name n) in
        let one : (k : ArcKind) → Each Asks (part k) → filter (λ a. same_kind k a.kind) old.arcs ≡ old_part l w f name n k → Each Asks (old_part l w f name n k) =
        λ k p e. moved (filter (λ a. same_kind k a.kind) old.arcs) (old_part l w f name n k) e
        (of_map Asks (tried_below l m) (filter (λ a. same_kind k a.kind) old.arcs)
        (back_of Asks (filter (λ a. same_kind k a.kind) new.arcs) (map (tried_below l m) (filter (λ a. same_kind k a.kind) old.arcs)) p)) in
        in_parts Asks (old_part l w f name n) kinds
        (one Inherits parts.0 same.0, (one Reference parts.1.0 same.1.0, (one Payload parts.1.1.0 same.1.1.0, (one Specializes parts.1.1.1.0 same.1.1.1.0, tt))))

    same_items : (here l w m).arcs ≡ flat_map part kinds
    same_items = ap (λ (h : Here). h.arcs) (said_below l w f name n)

    -- ---- arcs of each level

    old_levels : (js : List ℕ) → flat_map (λ j. arc_keys (up m.path j)) (map suc js) ≡ flat_map (λ j. arc_keys (up n.path j)) js
    old_levels [] = refl
    old_levels (j ∷ js) = let one = ap arc_keys (up_below n.path (Prim name) j) in let rest = old_levels js in λ i. one i ++ rest i

    all_levels : flat_map (λ j. arc_keys (up m.path j)) (levels_of m.path) ≡ arc_keys m.path ++ flat_map (λ j. arc_keys (up n.path j)) (levels_of n.path)
    all_levels =
        ap (λ (js : List ℕ). flat_map (λ j. arc_keys (up m.path j)) js) (levels_of_below n.path name)
        ∙ (λ i. arc_keys (at_zero m.path i) ++ old_levels (levels_of n.path) i)

    -- ---- keys

    abbrev asked : List Key
    asked = map head (stack l w n.stack).asked

    abbrev old_arcs : List Key
    old_arcs = flat_map (λ j. arc_keys (up n.path j)) (levels_of n.path)

    -- the keys at a node, in three parts
    to_parts : (x : Node) (levels : List Key) → Each P (levels ++ map head (asked_at l w x)) → Each P levels × Each P (map head (stack l w x.stack).asked) × Each P (named (here l w x).arcs)
    to_parts x levels h =
        let heads : Each (λ s. P (head s)) (asked_at l w x) = of_map P head (asked_at l w x) (back_of P levels (map head (asked_at l w x)) h) in
        let by_items = flat_map (λ a. asked_by_source l w a.authored.item.source) (filter (λ a. wants_prim a.kind) (here l w x).arcs) in (
          front_of P levels (map head (asked_at l w x)) h,
          in_map P head (stack l w x.stack).asked (front_of (λ s. P (head s)) (stack l w x.stack).asked by_items heads),
          in_map P head by_items (back_of (λ s. P (head s)) (stack l w x.stack).asked by_items heads),
        )

    from_parts : (x : Node) (levels : List Key) → Each P levels → Each P (map head (stack l w x.stack).asked) → Each P (named (here l w x).arcs) → Each P (levels ++ map head (asked_at l w x))
    from_parts x levels a b c =
        let by_items = flat_map (λ e. asked_by_source l w e.authored.item.source) (filter (λ e. wants_prim e.kind) (here l w x).arcs) in
        joined P levels (map head (asked_at l w x)) a
        (in_map P head (asked_at l w x) (joined (λ s. P (head s)) (stack l w x.stack).asked by_items (of_map P head (stack l w x.stack).asked b) (of_map P head by_items c)))

    abbrev levels_m : List Key
    levels_m = flat_map (λ j. arc_keys (up m.path j)) (levels_of m.path)

    moved_keys : (xs ys : List Key) → xs ≡ ys → Each P xs → Each P ys
    moved_keys xs ys e h = rw (← e) h

    enough : Each P (keys_at l w n) → Each P (keys_at_0 l w m) → Each P (keys_at l w m)
    enough h k =
        let before = to_parts n old_arcs h in
        let first : Each P (arc_keys m.path) = front_of P (arc_keys m.path) (named new.arcs) k in
        let items : Each Asks new.arcs = to_items new.arcs (back_of P (arc_keys m.path) (named new.arcs) k) in
        from_parts m levels_m (moved_keys (arc_keys m.path ++ old_arcs) levels_m (sym all_levels) (joined P (arc_keys m.path) old_arcs first before.0)) before.1
        (from_items (here l w m).arcs (moved (flat_map part kinds) (here l w m).arcs (sym same_items) (both_items items (to_items old.arcs before.2))))

    no_more_old : Each P (keys_at l w m) → Each P (keys_at l w n)
    no_more_old h =
        let parts = to_parts m levels_m h in
        let levels : Each P (arc_keys m.path ++ old_arcs) = moved_keys levels_m (arc_keys m.path ++ old_arcs) all_levels parts.0 in
        let items : Each Asks (flat_map part kinds) = moved (here l w m).arcs (flat_map part kinds) same_items (to_items (here l w m).arcs parts.2) in
        from_parts n old_arcs (back_of P (arc_keys m.path) old_arcs levels) parts.1 (from_items old.arcs (old_items items))

    no_more_new : Each P (keys_at l w m) → Each P (keys_at_0 l w m)
    no_more_new h =
        let parts = to_parts m levels_m h in
        let levels : Each P (arc_keys m.path ++ old_arcs) = moved_keys levels_m (arc_keys m.path ++ old_arcs) all_levels parts.0 in
        let items : Each Asks (flat_map part kinds) = moved (here l w m).arcs (flat_map part kinds) same_items (to_items (here l w m).arcs parts.2) in
        joined P (arc_keys m.path) (named new.arcs) (front_of P (arc_keys m.path) old_arcs levels) (from_items new.arcs (new_items items))

pub keys_extend : KeysExtend
keys_extend = record {
  enough = λ test l w f name n h k. enough (λ k. test k ≡ true) l w f name n h k;
  no_more_old = λ test l w f name n h. no_more_old (λ k. test k ≡ true) l w f name n h;
  no_more_new = λ test l w f name n h. no_more_new (λ k. test k ≡ true) l w f name n h;
}
