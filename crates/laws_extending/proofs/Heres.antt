-- What is said at a node one level down is what was said at the node, with what is said at the new level.
use Rattle.std.proofs.Common.{◌≡◌, refl, sym, ap, ◌∙◌, ℕ, suc, ◌==◌, Bool, true, false, true≢false, not, cond, List, [], ◌∷◌, ◌++◌, map, flat_map, filter, filter_map, Option, Some, None}
use Rattle.std.specs.List.{list_any, cons_option}
use Rattle.std.proofs.lemmas.List.{append-nil, map-append}
use Rattle.std.proofs.lemmas.List.Elements.{filter_map-append}
use Rattle.path_maps.specs.declared.kind.ArcKind.{ArcKind}
use Rattle.path_maps.specs.declared.kind.ArcKind.TheVariants.{Inherits, Reference, Payload, Specializes}
use Rattle.sdf_paths.specs.declared.element.Element.TheVariants.{Prim, Selection}
use Rattle.sdf_values.specs.Scales.{composed}
use Rattle.composition.specs.Names.{is_name, is_variant_name}
use Rattle.composition.specs.Texts.{Text, same_text, find_at, both}
use Rattle.composition.specs.Paths.{Path, Limits, fits, levels_of}
use Rattle.composition.specs.World.{World, in_range, StackName, same_stack}
use Rattle.composition.specs.Stacks.{stack}
use Rattle.composition.specs.Arcs.{same_kind, Outcome, leads, gives_no_arc, Lead, Reason, arc_cycle, too_deep, offset_range, path_too_long, Authored, Opinion, opinions_at, arcs_of, variant_sets_of, selections_of, is_empty}
use Rattle.composition.specs.Nodes.{Node, Frame, Tried, Chosen, author, child_path, frame_at, is_related, is_cyclic, first_reason, refusal, fault_of, is_looked_at, tried_item, tried_at, variant_target, chosen_at, here}
use Rattle.agreeing_worlds.proofs.Each.{Each, same_parts, always, in_map, in_parts}
use Rattle.agreeing_worlds.proofs.Levels.{at_zero}
use Rattle.laws_extending.specs.Extending.{lowered, kinds, refused_below, tried_below, chosen_below, here_below, here_at_0}
use Rattle.laws_extending.proofs.Lowered.{levels_of_below, shorter_fits, author_below, path_below, chain_below}

-- ---- of each kind its own part

filter_both : {X : Type 0} (test : X → Bool) (xs ys : List X) → filter test (xs ++ ys) ≡ filter test xs ++ filter test ys
filter_both test [] ys = refl
filter_both {X} test (x ∷ xs) ys = by (test x) (filter_both test xs ys)
  where
    by : (b : Bool) → filter test (xs ++ ys) ≡ filter test xs ++ filter test ys
        → cond b (x ∷ filter test (xs ++ ys)) (filter test (xs ++ ys)) ≡ (cond b (x ∷ filter test xs) (filter test xs)) ++ filter test ys
    by true h = ap (λ (zs : List X). x ∷ zs) h
    by false h = h

filter_parts : {X K : Type 0} (test : X → Bool) (part : K → List X) (ks : List K) → filter test (flat_map part ks) ≡ flat_map (λ k. filter test (part k)) ks
filter_parts test part [] = refl
filter_parts {X} test part (k ∷ ks) = filter_both test (part k) (flat_map part ks) ∙ ap (λ (zs : List X). filter test (part k) ++ zs) (filter_parts test part ks)

abbrev OfKind : ArcKind → List Tried → Type 0
OfKind k xs = Each (λ a. a.kind ≡ k) xs

one_kind : (k g : ArcKind) (xs : List Tried) → OfKind g xs → filter (λ a. same_kind k a.kind) xs ≡ elim (same_kind k g) as (λ _. List Tried) [ true ↦ xs | false ↦ [] ]
one_kind k g [] h = by (same_kind k g)
  where
    by : (b : Bool) → [] ≡ elim b as (λ _. List Tried) [ true ↦ [] | false ↦ [] ]
    by true = refl
    by false = refl
one_kind k g (x ∷ xs) h =
    ap (λ (c : ArcKind). cond (same_kind k c) (x ∷ filter (λ a. same_kind k a.kind) xs) (filter (λ a. same_kind k a.kind) xs)) h.0
    ∙ by (same_kind k g) (one_kind k g xs h.1)
  where
    by : (b : Bool) → filter (λ a. same_kind k a.kind) xs ≡ elim b as (λ _. List Tried) [ true ↦ xs | false ↦ [] ]
        → cond b (x ∷ filter (λ a. same_kind k a.kind) xs) (filter (λ a. same_kind k a.kind) xs) ≡ elim b as (λ _. List Tried) [ true ↦ x ∷ xs | false ↦ [] ]
    by true e = ap (λ (zs : List Tried). x ∷ zs) e
    by false e = e

module _ (part : ArcKind → List Tried) (each : (k : ArcKind) → OfKind k (part k)) where
  abbrev only : ArcKind → ArcKind → List Tried
  only k g = elim (same_kind k g) [ true ↦ part g | false ↦ [] ]

  of_one : (k : ArcKind) → filter (λ a. same_kind k a.kind) (flat_map part kinds) ≡ flat_map (only k) kinds
  of_one k =
      filter_parts (λ a. same_kind k a.kind) part kinds
      ∙ same_parts (λ g. filter (λ a. same_kind k a.kind) (part g)) (only k) kinds
      (always (λ g. filter (λ a. same_kind k a.kind) (part g) ≡ only k g) (λ g. one_kind k g (part g) (each g)) kinds)

  -- of the parts of all kinds, that of one
  pub kept_kinds : Each (λ k. filter (λ a. same_kind k a.kind) (flat_map part kinds) ≡ part k) kinds
  kept_kinds = (
    of_one Inherits ∙ append-nil (part Inherits),
    (
      of_one Reference ∙ append-nil (part Reference),
      (
        of_one Payload ∙ append-nil (part Payload),
        (of_one Specializes ∙ append-nil (part Specializes), tt),
      ),
    ),
  )

-- ---- a level

module _ (l : Limits) (w : World) (f : Frame) (name : Text) (n : Node) where
  abbrev m : Node
  m = lowered f name n

  reason_below : (cyclic deep far short long : Bool) → (long ≡ true → short ≡ true)
      → first_reason ((cyclic, arc_cycle) ∷ (deep, too_deep) ∷ (far, offset_range) ∷ (not long, path_too_long) ∷ [])
      ≡ elim (first_reason ((cyclic, arc_cycle) ∷ (deep, too_deep) ∷ (far, offset_range) ∷ (not short, path_too_long) ∷ [])) as (λ _. Option Reason) [
        | None ↦ elim long as (λ _. Option Reason) [ true ↦ None | false ↦ Some path_too_long ]
        | Some r ↦ Some r
      ]
  reason_below true deep far short long mono = refl
  reason_below false true far short long mono = refl
  reason_below false false true short long mono = refl
  reason_below false false false true true mono = refl
  reason_below false false false true false mono = refl
  reason_below false false false false true mono = absurd (true≢false (sym (mono refl)))
  reason_below false false false false false mono = refl

  fits_shorter : (j : ℕ) (target : Path) → fits l (child_path m (suc j) target) ≡ true → fits l (child_path n j target) ≡ true
  fits_shorter j target h = shorter_fits l (child_path n j target) name (ap (λ (q : Path). fits l q) (sym (path_below f name n j target)) ∙ h)

  refused_is : (j : ℕ) (a : Lead) (r : Option Reason) → refused_below l m j (leads a) r ≡ elim r as (λ _. Option Reason) [
    | None ↦ elim (fits l (child_path m (suc j) a.target)) as (λ _. Option Reason) [ true ↦ None | false ↦ Some path_too_long ]
    | Some x ↦ Some x
  ]
  refused_is j a None = refl
  refused_is j a (Some x) = refl

  fault_below : (j : ℕ) (o : Outcome) → fault_of l m (suc j) o ≡ refused_below l m j o (fault_of l n j o)
  fault_below j (gives_no_arc r) = refl
  fault_below j (leads a) =
      ap (λ (chain : List (StackName × Path)). first_reason (
      (list_any (λ x. both (same_stack x.0 a.stack) (is_related a.target x.1)) chain, arc_cycle)
      ∷ (n.depth == 0, too_deep)
      ∷ (not (in_range (composed a.offset n.offset)), offset_range)
      ∷ (not (fits l (child_path m (suc j) a.target)), path_too_long) ∷ [])) (chain_below f name n j)
      ∙ reason_below (is_cyclic n j a) (n.depth == 0) (not (in_range (composed a.offset n.offset))) (fits l (child_path n j a.target)) (fits l (child_path m (suc j) a.target)) (fits_shorter j a.target)
      ∙ sym (refused_is j a (refusal l n j a))

  item_below : (k : ArcKind) (j : ℕ) (a : Authored) → tried_item l w k m (suc j) a ≡ tried_below l m (tried_item l w k n j a)
  item_below k j a = ap (λ (r : Option Reason). record (tried_item l w k m (suc j) a) { fault = r }) (fault_below j a.outcome)

  items_below : (k : ArcKind) (j : ℕ) (them : List Authored) → map (tried_item l w k m (suc j)) them ≡ map (tried_below l m) (map (tried_item l w k n j) them)
  items_below k j [] = refl
  items_below k j (a ∷ them) =
      let one : tried_item l w k m (suc j) a ≡ tried_below l m (tried_item l w k n j a) = item_below k j a in
      let rest : map (tried_item l w k m (suc j)) them ≡ map (tried_below l m) (map (tried_item l w k n j) them) = items_below k j them in
      λ i. one i ∷ rest i

  level_tried : (k : ArcKind) (j : ℕ) (os : List Opinion) → tried_at l w m k (suc j, os) ≡ map (tried_below l m) (tried_at l w n k (j, os))
  level_tried k j os = by (is_looked_at l w k (frame_at n j))
    where
      by : (b : Bool) → (elim b as (λ _. List Tried) [ true ↦ map (tried_item l w k m (suc j)) (arcs_of l w n.stack os k) | false ↦ [] ])
          ≡ map (tried_below l m) (elim b as (λ _. List Tried) [ true ↦ map (tried_item l w k n j) (arcs_of l w n.stack os k) | false ↦ [] ])
      by true = items_below k j (arcs_of l w n.stack os k)
      by false = refl

  -- ---- variants

  bound : (a b short long : Bool) (c d : Chosen) (g : Chosen → Option Chosen) → (long ≡ true → short ≡ true)
      → g c ≡ elim long as (λ _. Option Chosen) [ true ↦ Some d | false ↦ None ]
      → (elim (both a (both b long)) as (λ _. Option Chosen) [ true ↦ Some d | false ↦ None ])
      ≡ elim (elim (both a (both b short)) as (λ _. Option Chosen) [ true ↦ Some c | false ↦ None ]) as (λ _. Option Chosen) [
        | None ↦ None
        | Some x ↦ g x
      ]
  bound false b short long c d g mono is = refl
  bound true false short long c d g mono is = refl
  bound true true true true c d g mono is = sym is
  bound true true true false c d g mono is = sym is
  bound true true false true c d g mono is = absurd (true≢false (sym (mono refl)))
  bound true true false false c d g mono is = refl

  target_below : (j : ℕ) (set : Text) (v : Option Text) → variant_target l w m (suc j) set v ≡ elim (variant_target l w n j set v) as (λ _. Option Chosen) [
    | None ↦ None
    | Some c ↦ chosen_below l m c
  ]
  target_below j set None = refl
  target_below j set (Some v) =
      let target : Path = author n j ++ Selection set v ∷ [] in
      ap (λ (q : Path). elim (both (is_name set) (both (is_variant_name v) (fits l (child_path m (suc j) (q ++ Selection set v ∷ []))))) as (λ _. Option Chosen) [
        | true ↦ Some (record { level = suc j; target = q ++ Selection set v ∷ [] })
        | false ↦ None
      ]) (author_below f name n j)
      ∙ bound (is_name set) (is_variant_name v) (fits l (child_path n j target)) (fits l (child_path m (suc j) target))
      (record { level = j; target = target }) (record { level = suc j; target = target }) (chosen_below l m) (fits_shorter j target) refl

  mapped : {X Y Z : Type 0} (h : X → Option Y) (g : X → Option Z) (k : Y → Option Z)
      → ((x : X) → g x ≡ elim (h x) as (λ _. Option Z) [ None ↦ None | Some y ↦ k y ]) → (xs : List X) → filter_map g xs ≡ filter_map k (filter_map h xs)
  mapped h g k e [] = refl
  mapped {X} {Y} {Z} h g k e (x ∷ xs) = ap (λ (o : Option Z). cons_option o (filter_map g xs)) (e x) ∙ by (h x) (mapped h g k e xs)
    where
      by : (o : Option Y) → filter_map g xs ≡ filter_map k (filter_map h xs)
          → cons_option (elim o as (λ _. Option Z) [ None ↦ None | Some y ↦ k y ]) (filter_map g xs) ≡ filter_map k (cons_option o (filter_map h xs))
      by None rest = rest
      by (Some y) rest = ap (λ (zs : List Z). cons_option (k y) zs) rest

  level_chosen : (j : ℕ) (os : List Opinion) → chosen_at l w m (suc j, os) ≡ filter_map (chosen_below l m) (chosen_at l w n (j, os))
  level_chosen j os =
      mapped (λ set. variant_target l w n j set (find_at same_text set (frame_at n j).choices)) (λ set. variant_target l w m (suc j) set (find_at same_text set (frame_at n j).choices))
      (chosen_below l m) (λ set. target_below j set (find_at same_text set (frame_at n j).choices)) (variant_sets_of os)

  -- ---- all levels

  abbrev said_m : ℕ → ℕ × List Opinion
  said_m j = (j, opinions_at l w (stack l w n.stack) (author m j))

  abbrev said_n : ℕ → ℕ × List Opinion
  said_n j = (j, opinions_at l w (stack l w n.stack) (author n j))

  abbrev own : List Opinion
  own = opinions_at l w (stack l w n.stack) m.path

  old_tried : (k : ArcKind) (js : List ℕ) → flat_map (tried_at l w m k) (map said_m (map suc js)) ≡ map (tried_below l m) (flat_map (tried_at l w n k) (map said_n js))
  old_tried k [] = refl
  old_tried k (j ∷ js) =
      let one : tried_at l w m k (said_m (suc j)) ≡ map (tried_below l m) (tried_at l w n k (said_n j)) =
      ap (λ (q : Path). tried_at l w m k (suc j, opinions_at l w (stack l w n.stack) q)) (author_below f name n j) ∙ level_tried k j (opinions_at l w (stack l w n.stack) (author n j)) in
      let rest : flat_map (tried_at l w m k) (map said_m (map suc js)) ≡ map (tried_below l m) (flat_map (tried_at l w n k) (map said_n js)) = old_tried k js in
      (λ i. one i ++ rest i) ∙ sym (map-append (tried_below l m) (tried_at l w n k (said_n j)) (flat_map (tried_at l w n k) (map said_n js)))

  old_chosen : (js : List ℕ) → flat_map (chosen_at l w m) (map said_m (map suc js)) ≡ filter_map (chosen_below l m) (flat_map (chosen_at l w n) (map said_n js))
  old_chosen [] = refl
  old_chosen (j ∷ js) =
      let one : chosen_at l w m (said_m (suc j)) ≡ filter_map (chosen_below l m) (chosen_at l w n (said_n j)) =
      ap (λ (q : Path). chosen_at l w m (suc j, opinions_at l w (stack l w n.stack) q)) (author_below f name n j) ∙ level_chosen j (opinions_at l w (stack l w n.stack) (author n j)) in
      let rest : flat_map (chosen_at l w m) (map said_m (map suc js)) ≡ filter_map (chosen_below l m) (flat_map (chosen_at l w n) (map said_n js)) = old_chosen js in
      (λ i. one i ++ rest i) ∙ sym (filter_map-append (chosen_below l m) (chosen_at l w n (said_n j)) (flat_map (chosen_at l w n) (map said_n js)))

  first_said : said_m 0 ≡ (0, own)
  first_said = ap (λ (q : Path). (0, opinions_at l w (stack l w n.stack) q)) (at_zero m.path)

  abbrev pub new_part : ArcKind → List Tried
  new_part k = tried_at l w m k (0, own)

  abbrev pub old_part : ArcKind → List Tried
  old_part k = flat_map (tried_at l w n k) (map said_n (levels_of n.path))

  kind_tried : (k : ArcKind) → flat_map (tried_at l w m k) (map said_m (levels_of m.path)) ≡ new_part k ++ map (tried_below l m) (old_part k)
  kind_tried k =
      ap (λ (js : List ℕ). flat_map (tried_at l w m k) (map said_m js)) (levels_of_below n.path name)
      ∙ ap (λ (s : ℕ × List Opinion). tried_at l w m k s ++ flat_map (tried_at l w m k) (map said_m (map suc (levels_of n.path)))) first_said
      ∙ ap (λ (ts : List Tried). new_part k ++ ts) (old_tried k (levels_of n.path))

  all_chosen : flat_map (chosen_at l w m) (map said_m (levels_of m.path)) ≡ chosen_at l w m (0, own) ++ filter_map (chosen_below l m) (flat_map (chosen_at l w n) (map said_n (levels_of n.path)))
  all_chosen =
      ap (λ (js : List ℕ). flat_map (chosen_at l w m) (map said_m js)) (levels_of_below n.path name)
      ∙ ap (λ (s : ℕ × List Opinion). chosen_at l w m s ++ flat_map (chosen_at l w m) (map said_m (map suc (levels_of n.path)))) first_said
      ∙ ap (λ (cs : List Chosen). chosen_at l w m (0, own) ++ cs) (old_chosen (levels_of n.path))

  -- what is tried of a kind is of that kind
  pub tried_kind : (x : Node) (k : ArcKind) (s : ℕ × List Opinion) → OfKind k (tried_at l w x k s)
  tried_kind x k s = by (is_looked_at l w k (frame_at x s.0))
    where
      by : (b : Bool) → OfKind k (elim b as (λ _. List Tried) [ true ↦ map (tried_item l w k x s.0) (arcs_of l w x.stack s.1 k) | false ↦ [] ])
      by true = in_map (λ (a : Tried). a.kind ≡ k) (tried_item l w k x s.0) (arcs_of l w x.stack s.1 k) (always (λ (a : Authored). k ≡ k) (λ a. refl) (arcs_of l w x.stack s.1 k))
      by false = tt

  pub new_kinds : (k : ArcKind) → OfKind k (new_part k)
  new_kinds k = tried_kind m k (0, own)

  pub old_kinds : (k : ArcKind) → OfKind k (old_part k)
  old_kinds k = in_parts (λ (a : Tried). a.kind ≡ k) (tried_at l w n k) (map said_n (levels_of n.path)) (always (λ s. OfKind k (tried_at l w n k s)) (tried_kind n k) (map said_n (levels_of n.path)))

  abbrev joint : ArcKind → List Tried
  joint k = new_part k ++ map (tried_below l m) (old_part k)

  abbrev parted : ArcKind → List Tried
  parted k = filter (λ a. same_kind k a.kind) (flat_map new_part kinds) ++ map (tried_below l m) (filter (λ a. same_kind k a.kind) (flat_map old_part kinds))

  one_parted : (k : ArcKind) → filter (λ a. same_kind k a.kind) (flat_map new_part kinds) ≡ new_part k → filter (λ a. same_kind k a.kind) (flat_map old_part kinds) ≡ old_part k → joint k ≡ parted k
  one_parted k new old = sym (λ i. new i ++ map (tried_below l m) (old i))

  all_parted : Each (λ k. joint k ≡ parted k) kinds
  all_parted =
      let new : Each (λ k. filter (λ a. same_kind k a.kind) (flat_map new_part kinds) ≡ new_part k) kinds = kept_kinds new_part new_kinds in
      let old : Each (λ k. filter (λ a. same_kind k a.kind) (flat_map old_part kinds) ≡ old_part k) kinds = kept_kinds old_part old_kinds in (
        one_parted Inherits new.0 old.0,
        (
          one_parted Reference new.1.0 old.1.0,
          (
            one_parted Payload new.1.1.0 old.1.1.0,
            (one_parted Specializes new.1.1.1.0 old.1.1.1.0, tt),
          ),
        ),
      )

  -- what is said at the node one level down
  pub said_below : here l w m ≡ here_below l m (here l w n) (here_at_0 l w m)
  said_below =
      let arcs : flat_map (λ k. flat_map (tried_at l w m k) (map said_m (levels_of m.path))) kinds ≡ flat_map parted kinds =
      same_parts (λ k. flat_map (tried_at l w m k) (map said_m (levels_of m.path))) joint kinds
      (always (λ k. flat_map (tried_at l w m k) (map said_m (levels_of m.path)) ≡ joint k) kind_tried kinds)
      ∙ same_parts joint parted kinds all_parted in
      let variants : flat_map (chosen_at l w m) (map said_m (levels_of m.path)) ≡ chosen_at l w m (0, own) ++ filter_map (chosen_below l m) (flat_map (chosen_at l w n) (map said_n (levels_of n.path))) = all_chosen in
      λ i. record {
        arcs = arcs i;
        variants = variants i;
        sets = variant_sets_of own;
        selections = selections_of own;
        has_spec = not (is_empty own);
      }
