-- An index that is extended has the faults of one that is made from the root.
use Rattle.std.proofs.Common.{◌≡◌, ◌≤◌, refl, sym, ap, ◌∙◌, ℕ, zero, suc, ◌==◌, ◌-◌, ◌||◌, Bool, true, false, not, List, [], ◌∷◌, ◌++◌, map, flat_map, filter, zip, Option, Some, None}
use Rattle.std.proofs.lemmas.List.{append-nil}
use Rattle.std.proofs.lemmas.Grind.{flat_map-append}
use Rattle.std.proofs.lemmas.List.Elements.{filter-append}
use Rattle.path_maps.specs.declared.kind.ArcKind.{ArcKind}
use Rattle.sdf_paths.specs.declared.element.Element.TheVariants.{Prim}
use Rattle.composition.specs.Texts.{Text, both}
use Rattle.composition.specs.Paths.{Path, Limits}
use Rattle.composition.specs.World.{World, is_loaded}
use Rattle.composition.specs.Arcs.{same_kind, Reason, unresolved_prim}
use Rattle.composition.specs.Nodes.{Node, Frame, Tried, Here, here, bare, frame_at, Choices}
use Rattle.composition.specs.Trees.{is_overgrown, Tree, node, Trees, none, cut, child, Branch, size_among, has_spec_in, node_of, grown, own_branches, lifted_branches}
use Rattle.composition.specs.Strength.{listing, sites}
use Rattle.composition.specs.Compose.{decides_nothing, is_overgrown_on_the_way, decided, stage_node, stage_tree}
use Rattle.composition.specs.Faults.{index, Fault, Index, index_of, site_of, same_fault, sublayer, is_level_0, gives_arc, is_path_too_long, is_followed, own_children, wants_prim, arc_fault, fault_if, faults_of, any_reason, unresolved, unresolved_of, kind_faults, node_faults}
use Rattle.list_ops.specs.ListEdits.{firsts}
use Rattle.agreeing_worlds.proofs.Each.{Each, same_parts, always, in_map, kept, weaker}
use Rattle.laws_extending.specs.Extending.{lowered, lowered_branch, kinds, tried_below, here_below, here_at_0, Known, same_arc, known_or, extended, known, fresh_tree, child_round, child_rounds, child_of}
use Rattle.laws_extending.specs.Thin.{thin, thin_among, branches, branches_below, extended_thin, known_thin, thin_child_by, thin_round, thin_rounds, thin_child, bared, bared_among, is_long, AllShort, AllShortAmong}
use Rattle.laws_extending.specs.ThinLaws.{IndexExtends}
use Rattle.laws_extending.proofs.Owned.{own_below, among_authored, tried_part, kinds_of_part}
use Rattle.laws_extending.proofs.Levelled.{not_0, none_passes, new_is_level_0, all_at_0}
use Rattle.laws_extending.proofs.Thinned.{IsWhole, AreWhole, whole_at, thin_branches}
use Rattle.laws_extending.proofs.Strengths.{thin_sites, thin_decided, thin_on_the_way, thin_shown}
use Rattle.laws_extending.proofs.Stages.{on_stage}
use Rattle.laws_extending.proofs.Alike.{Alike, AreAlike, same_faults, alike_node, alike_itself, alike_thin, alike_sizes, alike_grown, alike_lifted, alike_unresolved}

-- ---- faults of items of higher levels

module _ (n : Node) (ts : Trees) (ys : List Tried) (higher : Each (λ a. is_level_0 a ≡ false) ys) (short : Each (λ a. is_long a.fault ≡ false) ys) where
  abbrev Q : Type 0
  Q = List Fault

  front_kept : {Y : Type 0} (among : Tried → Bool) (g : Tried → List Y) (xs : List Tried) → Each (λ a. among a ≡ false) ys → flat_map g (filter among (xs ++ ys)) ≡ flat_map g (filter among xs)
  front_kept {Y} among g xs h =
      ap (λ (zs : List Tried). flat_map g zs) (filter-append among xs ys ∙ ap (λ (zs : List Tried). filter among xs ++ zs) (none_passes among ys h) ∙ append-nil (filter among xs))

  no_fault : (a : Tried) (r : Option Reason) → is_long r ≡ false → fault_if is_path_too_long n a r ≡ []
  no_fault a None h = refl
  no_fault a (Some r) h = ap (λ (b : Bool). elim b as (λ _. List Fault) [ true ↦ arc_fault n a r ∷ [] | false ↦ [] ]) h

  none_long : (among : Tried → Bool) (zs : List Tried) → Each (λ a. is_long a.fault ≡ false) zs → flat_map (λ a. fault_if is_path_too_long n a a.fault) zs ≡ []
  none_long among [] h = refl
  none_long among (z ∷ zs) h = let one = no_fault z z.fault h.0 in let rest = none_long among zs h.1 in λ i. one i ++ rest i

  long_kept : (among : Tried → Bool) (xs : List Tried) → faults_of among is_path_too_long n (xs ++ ys) ≡ faults_of among is_path_too_long n xs
  long_kept among xs =
      ap (λ (zs : List Tried). flat_map (λ a. fault_if is_path_too_long n a a.fault) zs) (filter-append among xs ys)
      ∙ flat_map-append (λ (a : Tried). fault_if is_path_too_long n a a.fault) (filter among xs) (filter among ys)
      ∙ ap (λ (fs : List Fault). faults_of among is_path_too_long n xs ++ fs) (none_long among (filter among ys) (kept (λ (a : Tried). is_long a.fault ≡ false) among ys short))
      ∙ append-nil (faults_of among is_path_too_long n xs)

  none_unresolved : (zs : List Tried) (us : List Tree) → Each (λ a. is_level_0 a ≡ false) zs → flat_map (unresolved n) (zip zs us) ≡ []
  none_unresolved [] us h = refl
  none_unresolved (z ∷ zs) [] h = refl
  none_unresolved (z ∷ zs) (u ∷ us) h =
      let rest = none_unresolved zs us h.1 in
      (λ i. elim (both (h.0 i) (not (has u))) as (λ _. List Fault) [ true ↦ arc_fault n z unresolved_reason ∷ [] | false ↦ [] ] ++ rest i)
    where
      has : Tree → Bool
      has t = has_spec_in t

      unresolved_reason : Reason
      unresolved_reason = unresolved_prim

  front_unresolved : (xs zs : List Tried) (us : List Tree) → Each (λ a. is_level_0 a ≡ false) zs → flat_map (unresolved n) (zip (xs ++ zs) us) ≡ flat_map (unresolved n) (zip xs us)
  front_unresolved [] zs us h = none_unresolved zs us h
  front_unresolved (x ∷ xs) zs [] h = refl
  front_unresolved (x ∷ xs) zs (u ∷ us) h = ap (λ (fs : List Fault). unresolved n (x, u) ++ fs) (front_unresolved xs zs us h)

  unresolved_kept : (k : ArcKind) (xs : List Tried) → unresolved_of k n (xs ++ ys) ts ≡ unresolved_of k n xs ts
  unresolved_kept k xs =
      ap (λ (fs : List Fault). elim (wants_prim k) as (λ _. List Fault) [ true ↦ fs | false ↦ [] ])
      (ap (λ (zs : List Tried). flat_map (unresolved n) (zip zs (own_children k ts))) (filter-append (λ a. is_followed a.fault) xs ys)
      ∙ front_unresolved (filter (λ a. is_followed a.fault) xs) (filter (λ a. is_followed a.fault) ys) (own_children k ts) (kept (λ (a : Tried). is_level_0 a ≡ false) (λ a. is_followed a.fault) ys higher))

  pub kind_kept : (k : ArcKind) (xs : List Tried) → kind_faults n ts k (xs ++ ys) ≡ kind_faults n ts k xs
  kind_kept k xs =
      let none_of : (test : Tried → Bool) → Each (λ a. both (is_level_0 a) (test a) ≡ false) ys =
      λ test. weaker (λ (a : Tried). is_level_0 a ≡ false) (λ a. both (is_level_0 a) (test a) ≡ false) (λ a h. ap (λ (b : Bool). both b (test a)) h) ys higher in
      let one : faults_of (λ a. both (is_level_0 a) (not (gives_arc a.authored.outcome))) any_reason n (xs ++ ys) ≡ faults_of (λ a. both (is_level_0 a) (not (gives_arc a.authored.outcome))) any_reason n xs =
      front_kept (λ a. both (is_level_0 a) (not (gives_arc a.authored.outcome))) (λ a. fault_if any_reason n a a.fault) xs (none_of (λ a. not (gives_arc a.authored.outcome))) in
      let two : faults_of (λ a. both (is_level_0 a) (gives_arc a.authored.outcome)) any_reason n (xs ++ ys) ≡ faults_of (λ a. both (is_level_0 a) (gives_arc a.authored.outcome)) any_reason n xs =
      front_kept (λ a. both (is_level_0 a) (gives_arc a.authored.outcome)) (λ a. fault_if any_reason n a a.fault) xs (none_of (λ a. gives_arc a.authored.outcome)) in
      let three = long_kept (λ a. not (is_level_0 a)) xs in
      let four : flat_map (λ a. map sublayer a.sublayers) (filter is_level_0 (xs ++ ys)) ≡ flat_map (λ a. map sublayer a.sublayers) (filter is_level_0 xs) =
      front_kept is_level_0 (λ a. map sublayer a.sublayers) xs higher in
      let five = unresolved_kept k xs in
      λ i. one i ++ two i ++ three i ++ four i ++ five i

-- ---- a node and its own children

alike_kind : (n : Node) (k : ArcKind) (xs : List Tried) (ts ss : Trees) → AreAlike ts ss → kind_faults n ts k xs ≡ kind_faults n ss k xs
alike_kind n k xs ts ss a =
    ap (λ (fs : List Fault).
    faults_of (λ a. both (is_level_0 a) (not (gives_arc a.authored.outcome))) any_reason n xs
    ++ faults_of (λ a. both (is_level_0 a) (gives_arc a.authored.outcome)) any_reason n xs
    ++ faults_of (λ a. not (is_level_0 a)) is_path_too_long n xs
    ++ flat_map (λ a. map sublayer a.sublayers) (filter is_level_0 xs)
    ++ elim (wants_prim k) as (λ _. List Fault) [ true ↦ fs | false ↦ [] ])
    (alike_unresolved n k (filter (λ a. is_followed a.fault) xs) ts ss a)

module _ (l : Limits) (f : Frame) (name : Text) (n : Node) (h new : Here) (short : Each (λ a. is_long (tried_below l (lowered f name n) a).fault ≡ false) h.arcs) where
  abbrev m : Node
  m = lowered f name n

  abbrev said : Here
  said = here_below l m h new

  one_kind : (ts ss : Trees) → AreAlike ts ss → (k : ArcKind) → filter (λ a. same_kind k a.kind) said.arcs ≡ tried_part l f name n h new k
      → kind_faults m ts k (filter (λ a. same_kind k a.kind) new.arcs) ≡ kind_faults m ss k (filter (λ a. same_kind k a.kind) said.arcs)
  one_kind ts ss a k is =
      let xs : List Tried = filter (λ x. same_kind k x.kind) new.arcs in
      let old : List Tried = filter (λ x. same_kind k x.kind) h.arcs in
      let ys : List Tried = map (tried_below l m) old in
      let higher : Each (λ x. is_level_0 x ≡ false) ys = in_map (λ x. is_level_0 x ≡ false) (tried_below l m) old (always (λ (x : Tried). (suc x.level == 0) ≡ false) (λ x. not_0 x.level) old) in
      let shorts : Each (λ x. is_long x.fault ≡ false) ys = in_map (λ (x : Tried). is_long x.fault ≡ false) (tried_below l m) old (kept (λ x. is_long (tried_below l m x).fault ≡ false) (λ x. same_kind k x.kind) h.arcs short) in
      alike_kind m k xs ts ss a
      ∙ sym (kind_kept m ss ys higher shorts k xs)
      ∙ ap (λ (zs : List Tried). kind_faults m ss k zs) (sym is)

  pub same_node_faults : (ts ss us vs : Trees) → AreAlike ts ss → node_faults (node m new ts us) ≡ node_faults (node m said ss vs)
  same_node_faults ts ss us vs a =
      same_parts (λ k. kind_faults m ts k (filter (λ x. same_kind k x.kind) new.arcs)) (λ k. kind_faults m ss k (filter (λ x. same_kind k x.kind) said.arcs)) kinds
      (weaker (λ k. filter (λ x. same_kind k x.kind) said.arcs ≡ tried_part l f name n h new k)
      (λ k. kind_faults m ts k (filter (λ x. same_kind k x.kind) new.arcs) ≡ kind_faults m ss k (filter (λ x. same_kind k x.kind) said.arcs))
      (one_kind ts ss a) kinds (among_authored (λ (x : Tried). x.kind) (tried_part l f name n h new) (kinds_of_part l f name n h new)))

-- ---- the tree

module _ (l : Limits) (w : World) (fresh : Node → Branch → ℕ → Tree) (f : Frame) (name : Text) where
  abbrev new : Node → Here
  new = here_at_0 l w

  abbrev KnownAlike : Known → Known → Type 0
  KnownAlike [] [] = Unit {0}
  KnownAlike [] (y ∷ ys) = ⊥
  KnownAlike (x ∷ xs) [] = ⊥
  KnownAlike (x ∷ xs) (y ∷ ys) = ((x.0 ≡ y.0) × ((r : ℕ) → Alike (x.1 r) (y.1 r))) × KnownAlike xs ys

  known_joined : (xs ys us vs : Known) → KnownAlike xs us → KnownAlike ys vs → KnownAlike (xs ++ ys) (us ++ vs)
  known_joined [] ys [] vs h k = k
  known_joined [] ys (u ∷ us) vs h k = absurd h
  known_joined (x ∷ xs) ys [] vs h k = absurd h
  known_joined (x ∷ xs) ys (u ∷ us) vs h k = (h.0, known_joined xs ys us vs h.1 k)

  known_alike : (m : Node) (xs ys : Known) → KnownAlike xs ys → (b : Branch) (r : ℕ) → Alike (known_or (fresh m) xs b r) (known_or (fresh m) ys b r)
  known_alike m [] [] h b r = alike_itself (fresh m b r)
  known_alike m [] (y ∷ ys) h b r = absurd h
  known_alike m (x ∷ xs) [] h b r = absurd h
  known_alike m (x ∷ xs) (y ∷ ys) h b r = by (same_arc x.0 b) (same_arc y.0 b) (ap (λ (a : Branch). same_arc a b) h.0.0) (known_alike m xs ys h.1 b r)
    where
      by : (c d : Bool) → c ≡ d → Alike (known_or (fresh m) xs b r) (known_or (fresh m) ys b r)
          → Alike (elim c as (λ _. Tree) [ true ↦ x.1 r | false ↦ known_or (fresh m) xs b r ]) (elim d as (λ _. Tree) [ true ↦ y.1 r | false ↦ known_or (fresh m) ys b r ])
      by true true e rest = h.0.1 r
      by true false e rest = absurd cc
      by false true e rest = absurd cc
      by false false e rest = rest

  moved_own : (t : Branch → ℕ → Tree) (room : ℕ) (bs cs : List Branch) → bs ≡ cs → (u : Branch → ℕ → Tree) → AreAlike (grown t room cs) (grown u room cs) → AreAlike (grown t room bs) (grown u room cs)
  moved_own t room bs cs e u a = rw e a

  moved_lifted : (t u : Branch → ℕ → Tree) (x y : ℕ) (bs cs : List Branch) → x ≡ y → bs ≡ cs → AreAlike (grown t y cs) (grown u y cs) → AreAlike (grown t x bs) (grown u y cs)
  moved_lifted t u x y bs cs e d a = rw (e, d) a

  kept_node : (n : Node) (h : Here) (own lifted : Trees) → branches own ≡ own_branches n h → Each (λ a. is_long (tried_below l (lowered f name n) a).fault ≡ false) h.arcs
      → KnownAlike (known_thin l new fresh f name (thin_among own)) (known l new fresh f name own)
      → KnownAlike (known_thin l new fresh f name (thin_among lifted)) (known l new fresh f name lifted)
      → (room : ℕ) → Alike (extended_thin l new fresh f name (thin (node n h own lifted)) room) (extended l new fresh f name (node n h own lifted) room)
  kept_node n h own lifted whole short one two room =
      let m : Node = lowered f name n in
      let said : Here = here_below l m h (new m) in
      let xs : Known = known_thin l new fresh f name (thin_among own) ++ known_thin l new fresh f name (thin_among lifted) in
      let ys : Known = known l new fresh f name own ++ known l new fresh f name lifted in
      let t : Branch → ℕ → Tree = known_or (fresh m) xs in
      let u : Branch → ℕ → Tree = known_or (fresh m) ys in
      let each : (b : Branch) (r : ℕ) → Alike (t b r) (u b r) =
      known_alike m xs ys (known_joined (known_thin l new fresh f name (thin_among own)) (known_thin l new fresh f name (thin_among lifted)) (known l new fresh f name own) (known l new fresh f name lifted) one two) in
      let bs : List Branch = branches_below l m (own_branches m (new m)) (branches (thin_among own)) in
      let cs : List Branch = own_branches m said in
      let arcs : bs ≡ cs = ap (λ (ds : List Branch). branches_below l m (own_branches m (new m)) ds) (thin_branches own ∙ whole) ∙ sym (own_below l f name n h (new m)) in
      let ours : Trees = grown t (room - 1) bs in
      let theirs : Trees = grown u (room - 1) cs in
      let owned : AreAlike ours theirs = moved_own t (room - 1) bs cs arcs u (alike_grown t u each cs (room - 1)) in
      let left : room - 1 - size_among ours ≡ room - 1 - size_among theirs = ap (λ (k : ℕ). room - 1 - k) (alike_sizes ours theirs owned) in
      let classed : lifted_branches l m ours ≡ lifted_branches l m theirs = alike_lifted l m ours theirs owned in
      let there : AreAlike (grown t (room - 1 - size_among ours) (lifted_branches l m ours)) (grown u (room - 1 - size_among theirs) (lifted_branches l m theirs)) =
      moved_lifted t u (room - 1 - size_among ours) (room - 1 - size_among theirs) (lifted_branches l m ours) (lifted_branches l m theirs) left classed
      (alike_grown t u each (lifted_branches l m theirs) (room - 1 - size_among theirs)) in (
        refl,
        refl,
        same_node_faults l f name n h (new m) short ours theirs (grown t (room - 1 - size_among ours) (lifted_branches l m ours)) (grown u (room - 1 - size_among theirs) (lifted_branches l m theirs)) owned,
        owned,
        there,
        all_at_0 l w f name n h ∙ sym (new_is_level_0 l w f name n h),
      )

  mutual
    pub kept_tree : (t : Tree) → IsWhole t → AllShort l f name t → (room : ℕ) → Alike (extended_thin l new fresh f name (thin t) room) (extended l new fresh f name t room)
    kept_tree (node n h own lifted) whole short room = kept_node n h own lifted whole.0 short.0 (kept_known own whole.1 short.1) (kept_known lifted whole.2 short.2) room

    kept_known : (ts : Trees) → AreWhole ts → AllShortAmong l f name ts → KnownAlike (known_thin l new fresh f name (thin_among ts)) (known l new fresh f name ts)
    kept_known none whole short = tt
    kept_known cut whole short = absurd whole
    kept_known (child b t ts) whole short = ((refl, kept_tree t whole.0 short.0), kept_known ts whole.1 short.1)

-- ---- the index

-- alike trees have one index
pub alike_index : (l : Limits) (t s : Tree) → Alike t s → index_of l t ≡ index_of l s
alike_index l t s a =
    let thinned : thin t ≡ thin s = alike_thin t s a in
    let over : is_overgrown_on_the_way t ≡ is_overgrown_on_the_way s = sym (thin_on_the_way t) ∙ ap is_overgrown_on_the_way thinned ∙ thin_on_the_way s in
    let top : node_of t ≡ node_of s = alike_node t s a in
    let shown : map site_of (sites l t) ≡ map site_of (sites l s) =
    sym (ap (map site_of) (thin_sites l t) ∙ thin_shown (sites l t)) ∙ ap (λ (x : Tree). map site_of (sites l x)) thinned ∙ ap (map site_of) (thin_sites l s) ∙ thin_shown (sites l s) in
    let faults : flat_map node_faults (listing l t) ≡ flat_map node_faults (listing l s) = same_faults l t s a in
    λ i. elim (over i) as (λ _. Option Index) [
      | true ↦ None
      | false ↦ Some (record {
        choices = (frame_at (top i) 0).choices;
        sites = shown i;
        faults = firsts same_fault (faults i);
      })
    ]

module _ (l : Limits) (w : World) (name : Text) (parent : Tree) (whole : IsWhole parent) (short : AllShort l bare name parent) where
  abbrev full : Node → Branch → ℕ → Tree
  full = fresh_tree l (here l w)

  abbrev by_data : Frame → Tree
  by_data f = thin_child_by l (here_at_0 l w) full name (thin parent) f

  abbrev from_tree : Frame → Tree
  from_tree f = extended l (here_at_0 l w) full f name parent l.nodes

  alike_by : (f : Frame) → Alike (by_data f) (from_tree f)
  alike_by f = kept_tree l w full f name parent whole short l.nodes

  same_decided : (f : Frame) (cs : Choices) → decided l (by_data f) cs ≡ decided l (from_tree f) cs
  same_decided f cs = sym (thin_decided l (by_data f) cs) ∙ ap (λ (x : Tree). decided l x cs) (alike_thin (by_data f) (from_tree f) (alike_by f)) ∙ thin_decided l (from_tree f) cs

  same_over : (f : Frame) → is_overgrown_on_the_way (by_data f) ≡ is_overgrown_on_the_way (from_tree f)
  same_over f = sym (thin_on_the_way (by_data f)) ∙ ap is_overgrown_on_the_way (alike_thin (by_data f) (from_tree f) (alike_by f)) ∙ thin_on_the_way (from_tree f)

  same_round : (f : Frame) → thin_round l (here_at_0 l w) full name (thin parent) f ≡ child_round l (here_at_0 l w) full name parent f
  same_round f =
      let g : Frame = record f { overgrown = false } in
      λ i. record f { choices = f.choices ++ same_decided g f.choices i; overgrown = f.overgrown || same_over g i }

  same_rounds : (k : ℕ) (f : Frame) → thin_rounds l (here_at_0 l w) full name (thin parent) k f ≡ child_rounds l (here_at_0 l w) full name parent k f
  same_rounds zero f = refl
  same_rounds (suc k) f =
      ap (λ (g : Frame). elim (decides_nothing f g) as (λ _. Frame) [ true ↦ g | false ↦ thin_rounds l (here_at_0 l w) full name (thin parent) k g ]) (same_round f)
      ∙ ap (λ (g : Frame). elim (decides_nothing f next) as (λ _. Frame) [ true ↦ next | false ↦ g ]) (same_rounds k next)
    where
      next : Frame
      next = child_round l (here_at_0 l w) full name parent f

  pub same_child_index : (loaded : Bool) → index_of l (child_of l (here_at_0 l w) full name parent loaded) ≡ index_of l (thin_child l (here_at_0 l w) full name (thin parent) loaded)
  same_child_index loaded =
      let f : Frame = child_rounds l (here_at_0 l w) full name parent l.rounds (record bare { loaded = loaded }) in
      sym (ap (λ (g : Frame). index_of l (by_data g)) (same_rounds l.rounds (record bare { loaded = loaded })) ∙ alike_index l (by_data f) (from_tree f) (alike_by f))

-- ---- nodes and arcs alone

bared_branches : (ts : Trees) → branches (bared_among ts) ≡ branches (thin_among ts)
bared_branches none = refl
bared_branches cut = refl
bared_branches (child b t ts) = ap (λ (bs : List Branch). b ∷ bs) (bared_branches ts)

module _ (l : Limits) (new : Node → Here) (fresh : Node → Branch → ℕ → Tree) (name : Text) where
  module _ (f : Frame) where
    mutual
      bared_extends : (t : Tree) (room : ℕ) → extended_thin l new fresh f name (bared t) room ≡ extended_thin l new fresh f name (thin t) room
      bared_extends (node n h own lifted) room =
          let one = bared_known own in
          let two = bared_known lifted in
          let arcs = bared_branches own in
          let m : Node = lowered f name n in
          let by : Known → List Branch → Tree = λ es bs.
          node m (new m) (grown (known_or (fresh m) es) (room - 1) (branches_below l m (own_branches m (new m)) bs))
          (grown (known_or (fresh m) es) (room - 1 - size_among (grown (known_or (fresh m) es) (room - 1) (branches_below l m (own_branches m (new m)) bs)))
          (lifted_branches l m (grown (known_or (fresh m) es) (room - 1) (branches_below l m (own_branches m (new m)) bs)))) in
          λ i. by (one i ++ two i) (arcs i)

      bared_known : (ts : Trees) → known_thin l new fresh f name (bared_among ts) ≡ known_thin l new fresh f name (thin_among ts)
      bared_known none = refl
      bared_known cut = refl
      bared_known (child b t ts) =
          let one = bared_extends t in
          let rest = bared_known ts in
          λ i. (lowered_branch b, λ r. one r i) ∷ rest i

  module _ (parent : Tree) where
    bared_round : (f : Frame) → thin_round l new fresh name (bared parent) f ≡ thin_round l new fresh name (thin parent) f
    bared_round f =
        ap (λ (t : Tree). record f { choices = f.choices ++ decided l t f.choices; overgrown = f.overgrown || is_overgrown_on_the_way t })
        (bared_extends (record f { overgrown = false }) parent l.nodes)

    bared_rounds : (k : ℕ) (f : Frame) → thin_rounds l new fresh name (bared parent) k f ≡ thin_rounds l new fresh name (thin parent) k f
    bared_rounds zero f = refl
    bared_rounds (suc k) f =
        ap (λ (g : Frame). elim (decides_nothing f g) as (λ _. Frame) [ true ↦ g | false ↦ thin_rounds l new fresh name (bared parent) k g ]) (bared_round f)
        ∙ ap (λ (g : Frame). elim (decides_nothing f next) as (λ _. Frame) [ true ↦ next | false ↦ g ]) (bared_rounds k next)
      where
        next : Frame
        next = thin_round l new fresh name (thin parent) f

    pub bared_child : (loaded : Bool) → thin_child l new fresh name (bared parent) loaded ≡ thin_child l new fresh name (thin parent) loaded
    bared_child loaded =
        ap (λ (f : Frame). extended_thin l new fresh f name (bared parent) l.nodes) (bared_rounds l.rounds (record bare { loaded = loaded }))
        ∙ bared_extends (thin_rounds l new fresh name (thin parent) l.rounds (record bare { loaded = loaded })) parent l.nodes

by_index : (l : Limits) (w : World) (p : Path) (name : Text) → 1 ≤ l.nodes → is_overgrown (stage_tree l (here l w) (is_loaded w) p) ≡ false → AllShort l bare name (stage_tree l (here l w) (is_loaded w) p)
    → index l w (p ++ Prim name ∷ []) ≡ index_of l (thin_child l (here_at_0 l w) (fresh_tree l (here l w)) name (thin (stage_tree l (here l w) (is_loaded w) p)) (is_loaded w (p ++ Prim name ∷ [])))
by_index l w p name room over short =
    ap (index_of l) (on_stage l w room (is_loaded w) p name)
    ∙ same_child_index l w name (stage_tree l (here l w) (is_loaded w) p) (whole_at l (here l w) l.depth l.nodes (stage_node l (here l w) (is_loaded w) p) over) short (is_loaded w (p ++ Prim name ∷ []))

pub index_extends : IndexExtends
index_extends = record {
  same_index = by_index;
  by_nodes = λ l w p name room over short.
      by_index l w p name room over short
      ∙ ap (index_of l) (sym (bared_child l (here_at_0 l w) (fresh_tree l (here l w)) name (stage_tree l (here l w) (is_loaded w) p) (is_loaded w (p ++ Prim name ∷ []))));
}
