-- Thin trees extend as whole ones do.
use Rattle.std.proofs.Common.{◌≡◌, refl, sym, ap, ◌∙◌, ℕ, zero, suc, ◌+◌, ◌-◌, Bool, true, false, true≢false, List, [], ◌∷◌, ◌++◌, map, flat_map, Some, None}
use Rattle.std.proofs.lemmas.List.{map-append}
use Rattle.path_maps.specs.declared.kind.ArcKind.{ArcKind}
use Rattle.path_maps.specs.declared.kind.ArcKind.TheVariants.{Inherits, Variant, Specializes}
use Rattle.composition.specs.Texts.{Text}
use Rattle.composition.specs.Paths.{Limits, has_selections}
use Rattle.composition.specs.Arcs.{same_kind}
use Rattle.composition.specs.Nodes.{Node, Frame, Here, refusal}
use Rattle.composition.specs.Trees.{Tree, node, Trees, none, cut, child, Branch, any_child, size, size_among, is_overgrown, is_overgrown_among, Class, same_class, hands_up, lifted_through, classes, own_classes, handed_up, classes_from, is_class_of, in_own_stack, lifted_branch, lifted_branches, grown, own_branches, Meaning, child_tree, arc_child, variant_child, tree_with}
use Rattle.composition.specs.Compose.{bottom, meaning}
use Rattle.list_ops.specs.ListEdits.{firsts}
use Rattle.agreeing_worlds.proofs.Each.{same_parts, always}
use Rattle.laws_extending.specs.Extending.{lowered, lowered_branch, here_below, Known, same_arc, known_or, extended, known}
use Rattle.laws_extending.specs.Thin.{level_0, thin, thin_among, branches, branches_below, extended_thin, known_thin}
use Rattle.laws_extending.proofs.Owned.{own_below}

-- ---- what does not look at what is said

mutual
  pub thin_size : (t : Tree) → size (thin t) ≡ size t
  thin_size (node n h own lifted) = let one = thin_sizes own in let two = thin_sizes lifted in λ i. suc (one i + two i)

  pub thin_sizes : (ts : Trees) → size_among (thin_among ts) ≡ size_among ts
  thin_sizes none = refl
  thin_sizes cut = refl
  thin_sizes (child b t ts) = let one = thin_size t in let two = thin_sizes ts in λ i. one i + two i

mutual
  pub thin_overgrown : (t : Tree) → is_overgrown (thin t) ≡ is_overgrown t
  thin_overgrown (node n h own lifted) =
      let one = thin_overgrown_among own in let two = thin_overgrown_among lifted in
      λ i. elim (one i) as (λ _. Bool) [ true ↦ true | false ↦ two i ]

  pub thin_overgrown_among : (ts : Trees) → is_overgrown_among (thin_among ts) ≡ is_overgrown_among ts
  thin_overgrown_among none = refl
  thin_overgrown_among cut = refl
  thin_overgrown_among (child b t ts) =
      let one = thin_overgrown t in let two = thin_overgrown_among ts in
      λ i. elim (one i) as (λ _. Bool) [ true ↦ true | false ↦ two i ]

pub thin_branches : (ts : Trees) → branches (thin_among ts) ≡ branches ts
thin_branches none = refl
thin_branches cut = refl
thin_branches (child b t ts) = ap (λ (bs : List Branch). b ∷ bs) (thin_branches ts)

-- a test of arcs alone
thin_any : (test : Branch → Bool) (ts : Trees) → any_child (λ b t. test b) (thin_among ts) ≡ any_child (λ b t. test b) ts
thin_any test none = refl
thin_any test cut = refl
thin_any test (child b t ts) = ap (λ (c : Bool). elim (test b) as (λ _. Bool) [ true ↦ true | false ↦ c ]) (thin_any test ts)

module _ (l : Limits) where
  mutual
    pub thin_classes : (k : ArcKind) (t : Tree) → classes l k (thin t) ≡ classes l k t
    thin_classes k (node n h own lifted) =
        let one = thin_own k n own in let two = thin_handed k n own in
        λ i. firsts same_class (one i ++ two i)

    thin_own : (k : ArcKind) (n : Node) (ts : Trees) → own_classes l k n (thin_among ts) ≡ own_classes l k n ts
    thin_own k n none = refl
    thin_own k n cut = refl
    thin_own k n (child b t ts) =
        let one = thin_classes k t in let two = thin_own k n ts in
        λ i. elim (same_kind k b.kind) as (λ _. List Class) [ true ↦ (b.level, b.lead.target) ∷ lifted_through l n b (one i) ++ two i | false ↦ two i ]

    thin_handed : (k : ArcKind) (n : Node) (ts : Trees) → handed_up l k n (thin_among ts) ≡ handed_up l k n ts
    thin_handed k n none = refl
    thin_handed k n cut = refl
    thin_handed k n (child b t ts) =
        let one = thin_classes k t in let two = thin_handed k n ts in
        λ i. elim (hands_up k b.kind) as (λ _. List Class) [ true ↦ lifted_through l n b (one i) ++ two i | false ↦ two i ]

  -- the arcs to lifted classes
  thin_one_lifted : (k : ArcKind) (n : Node) (own : Trees) (c : Class) → lifted_branch l k n (thin_among own) c ≡ lifted_branch l k n own c
  thin_one_lifted k n own c = ap (λ (b : Bool). elim b as (λ _. List Branch) [
    | true ↦ []
    | false ↦ elim (has_selections c.1) as (λ _. List Branch) [
      | true ↦ []
      | false ↦ elim (refusal l n c.0 (in_own_stack n c.1)) as (λ _. List Branch) [
        | Some r ↦ []
        | None ↦ (record { kind = k; level = c.0; lead = in_own_stack n c.1; lifted = true }) ∷ []
      ]
    ]
  ]) (thin_any (λ b. is_class_of k c b) own)

  pub thin_lifted : (n : Node) (own : Trees) → lifted_branches l n (thin_among own) ≡ lifted_branches l n own
  thin_lifted n own =
      same_parts (λ k. flat_map (lifted_branch l k n (thin_among own)) (classes_from l k n (thin_among own))) (λ k. flat_map (lifted_branch l k n own) (classes_from l k n own)) (Inherits ∷ Specializes ∷ [])
      (always (λ k. flat_map (lifted_branch l k n (thin_among own)) (classes_from l k n (thin_among own)) ≡ flat_map (lifted_branch l k n own) (classes_from l k n own))
      (λ k. ap (λ (cs : List Class). flat_map (lifted_branch l k n (thin_among own)) cs) (λ i. firsts same_class (thin_own k n own i ++ thin_handed k n own i))
      ∙ same_parts (lifted_branch l k n (thin_among own)) (lifted_branch l k n own) (classes_from l k n own)
      (always (λ c. lifted_branch l k n (thin_among own) c ≡ lifted_branch l k n own c) (thin_one_lifted k n own) (classes_from l k n own)))
      (Inherits ∷ Specializes ∷ []))

-- trees that grow
pub thin_grown : (tree : Branch → ℕ → Tree) (bs : List Branch) (room : ℕ) → grown (λ b r. thin (tree b r)) room bs ≡ thin_among (grown tree room bs)
thin_grown tree [] room = refl
thin_grown tree (b ∷ bs) zero = refl
thin_grown tree (b ∷ bs) (suc room) =
    ap (λ (k : ℕ). child b (thin (tree b (suc room))) (grown (λ c r. thin (tree c r)) (suc room - k) bs)) (thin_size (tree b (suc room)))
    ∙ ap (λ (ts : Trees). child b (thin (tree b (suc room))) ts) (thin_grown tree bs (suc room - size (tree b (suc room))))

-- ---- trees that are whole

abbrev mutual
  -- the own children of each node are those of all its arcs
  pub IsWhole : Tree → Type 0
  IsWhole (node n h own lifted) = (branches own ≡ own_branches n h) × AreWhole own × AreWhole lifted

  pub AreWhole : Trees → Type 0
  AreWhole none = Unit {0}
  AreWhole cut = ⊥
  AreWhole (child b t ts) = IsWhole t × AreWhole ts

no_first : (a b : Bool) → (elim a as (λ _. Bool) [ true ↦ true | false ↦ b ]) ≡ false → (a ≡ false) × (b ≡ false)
no_first true b h = absurd (true≢false h)
no_first false b h = (refl, h)

all_branches : (tree : Branch → ℕ → Tree) (bs : List Branch) (room : ℕ) → is_overgrown_among (grown tree room bs) ≡ false → branches (grown tree room bs) ≡ bs
all_branches tree [] room h = refl
all_branches tree (b ∷ bs) zero h = absurd (true≢false h)
all_branches tree (b ∷ bs) (suc room) h =
    ap (λ (cs : List Branch). b ∷ cs)
    (all_branches tree bs (suc room - size (tree b (suc room))) (no_first (is_overgrown (tree b (suc room))) (is_overgrown_among (grown tree (suc room - size (tree b (suc room))) bs)) h).1)

all_whole : (tree : Branch → ℕ → Tree) → ((b : Branch) (r : ℕ) → is_overgrown (tree b r) ≡ false → IsWhole (tree b r)) → (bs : List Branch) (room : ℕ)
    → is_overgrown_among (grown tree room bs) ≡ false → AreWhole (grown tree room bs)
all_whole tree each [] room h = tt
all_whole tree each (b ∷ bs) zero h = absurd (true≢false h)
all_whole tree each (b ∷ bs) (suc room) h =
    let rest : Trees = grown tree (suc room - size (tree b (suc room))) bs in
    let parts = no_first (is_overgrown (tree b (suc room))) (is_overgrown_among rest) h in
    (each b (suc room) parts.0, all_whole tree each bs (suc room - size (tree b (suc room))) parts.1)

module _ (l : Limits) (here : Node → Here) where
  abbrev Wholes : (ℕ → Node → Tree) → Type 0
  Wholes tree = (room : ℕ) (n : Node) → is_overgrown (tree room n) ≡ false → IsWhole (tree room n)

  whole_child : (deeper : Meaning) (tree : ℕ → Node → Tree) → Wholes deeper.tree → Wholes tree → (n : Node) (b : Branch) (r : ℕ) → is_overgrown (child_tree deeper tree n b r) ≡ false → IsWhole (child_tree deeper tree n b r)
  whole_child deeper tree below trees n b r = by (same_kind Variant b.kind)
    where
      by : (c : Bool) → is_overgrown (elim c as (λ _. Tree) [ true ↦ tree r (variant_child deeper n b) | false ↦ deeper.tree r (arc_child deeper n b) ]) ≡ false
          → IsWhole (elim c as (λ _. Tree) [ true ↦ tree r (variant_child deeper n b) | false ↦ deeper.tree r (arc_child deeper n b) ])
      by true = trees r (variant_child deeper n b)
      by false = below r (arc_child deeper n b)

  pub whole_tree : (deeper : Meaning) → Wholes deeper.tree → (steps : ℕ) → Wholes (tree_with l here deeper steps)
  whole_tree deeper below zero room n h = absurd (true≢false h)
  whole_tree deeper below (suc steps) room n h =
      let tree : Branch → ℕ → Tree = child_tree deeper (tree_with l here deeper steps) n in
      let own : Trees = grown tree (room - 1) (own_branches n (here n)) in
      let lifted : Trees = grown tree (room - 1 - size_among own) (lifted_branches l n own) in
      let parts = no_first (is_overgrown_among own) (is_overgrown_among lifted) h in
      let each : (b : Branch) (r : ℕ) → is_overgrown (tree b r) ≡ false → IsWhole (tree b r) = whole_child deeper (tree_with l here deeper steps) below (whole_tree deeper below steps) n in (
        all_branches tree (own_branches n (here n)) (room - 1) parts.0,
        all_whole tree each (own_branches n (here n)) (room - 1) parts.0,
        all_whole tree each (lifted_branches l n own) (room - 1 - size_among own) parts.1,
      )

  whole_bottom : Wholes bottom.tree
  whole_bottom room n h = (refl, tt, tt)

  pub whole_at : (d : ℕ) → Wholes (meaning l here d).tree
  unfolding meaning
  whole_at zero = whole_tree bottom whole_bottom l.nodes
  whole_at (suc d) = whole_tree (meaning l here d) (whole_at d) l.nodes

-- ---- extending

-- `level`: what is said at the new level is what is said at level 0
module _ (l : Limits) (new : Node → Here) (fresh fine : Node → Branch → ℕ → Tree) (f : Frame) (name : Text)
    (level : (n : Node) (h : Here) → level_0 (here_below l (lowered f name n) h (new (lowered f name n))) ≡ new (lowered f name n))
    (thins : (n : Node) (b : Branch) (r : ℕ) → fine n b r ≡ thin (fresh n b r)) where
  abbrev thinned : Branch × (ℕ → Tree) → Branch × (ℕ → Tree)
  thinned e = (e.0, λ r. thin (e.1 r))

  thin_known_or : (m : Node) (es : Known) (b : Branch) (r : ℕ) → known_or (fine m) (map thinned es) b r ≡ thin (known_or (fresh m) es b r)
  thin_known_or m [] b r = thins m b r
  thin_known_or m (e ∷ es) b r = by (same_arc e.0 b) (thin_known_or m es b r)
    where
      by : (c : Bool) → known_or (fine m) (map thinned es) b r ≡ thin (known_or (fresh m) es b r)
          → (elim c as (λ _. Tree) [ true ↦ thin (e.1 r) | false ↦ known_or (fine m) (map thinned es) b r ])
          ≡ thin (elim c as (λ _. Tree) [ true ↦ e.1 r | false ↦ known_or (fresh m) es b r ])
      by true h = refl
      by false h = h

  thin_node : (n : Node) (h : Here) (own lifted : Trees) → branches own ≡ own_branches n h
      → known_thin l new fine f name (thin_among own) ≡ map thinned (known l new fresh f name own)
      → known_thin l new fine f name (thin_among lifted) ≡ map thinned (known l new fresh f name lifted)
      → (room : ℕ) → extended_thin l new fine f name (thin (node n h own lifted)) room ≡ thin (extended l new fresh f name (node n h own lifted) room)
  thin_node n h own lifted whole one two room =
      let m : Node = lowered f name n in
      let es : Known = known l new fresh f name own ++ known l new fresh f name lifted in
      let mine : Branch → ℕ → Tree = known_or (fresh m) es in
      let said : Here = here_below l m h (new m) in
      let bs : List Branch = own_branches m said in
      let own_there : Trees = grown mine (room - 1) bs in
      let left : Trees → ℕ = λ ts. room - 1 - size_among ts in
      let there : Trees = grown mine (left own_there) (lifted_branches l m own_there) in
      let knowns : known_thin l new fine f name (thin_among own) ++ known_thin l new fine f name (thin_among lifted) ≡ map thinned es =
      (λ i. one i ++ two i) ∙ sym (map-append thinned (known l new fresh f name own) (known l new fresh f name lifted)) in
      let trees : ◌≡◌ {A = Branch → ℕ → Tree} (known_or (fine m) (map thinned es)) (λ b r. thin (mine b r)) = λ i b r. thin_known_or m es b r i in
      let arcs : branches_below l m (own_branches m (new m)) (branches (thin_among own)) ≡ bs =
      ap (λ (cs : List Branch). branches_below l m (own_branches m (new m)) cs) (thin_branches own ∙ whole) ∙ sym (own_below l f name n h (new m)) in
      let by : (Branch → ℕ → Tree) → List Branch → Tree = λ t cs. node m (new m) (grown t (room - 1) cs) (grown t (left (grown t (room - 1) cs)) (lifted_branches l m (grown t (room - 1) cs))) in
      ap (λ (ks : Known). by (known_or (fine m) ks) (branches_below l m (own_branches m (new m)) (branches (thin_among own)))) knowns
      ∙ ap (λ (t : Branch → ℕ → Tree). by t (branches_below l m (own_branches m (new m)) (branches (thin_among own)))) trees
      ∙ ap (λ (cs : List Branch). by (λ b r. thin (mine b r)) cs) arcs
      ∙ ap (λ (ts : Trees). node m (new m) ts (grown (λ b r. thin (mine b r)) (left ts) (lifted_branches l m ts))) (thin_grown mine bs (room - 1))
      ∙ ap (λ (k : ℕ). node m (new m) (thin_among own_there) (grown (λ b r. thin (mine b r)) (room - 1 - k) (lifted_branches l m (thin_among own_there)))) (thin_sizes own_there)
      ∙ ap (λ (cs : List Branch). node m (new m) (thin_among own_there) (grown (λ b r. thin (mine b r)) (left own_there) cs)) (thin_lifted l m own_there)
      ∙ ap (λ (ts : Trees). node m (new m) (thin_among own_there) ts) (thin_grown mine (lifted_branches l m own_there) (left own_there))
      ∙ ap (λ (x : Here). node m x (thin_among own_there) (thin_among there)) (sym (level n h))

  mutual
    pub thin_extends : (t : Tree) → IsWhole t → (room : ℕ) → extended_thin l new fine f name (thin t) room ≡ thin (extended l new fresh f name t room)
    thin_extends (node n h own lifted) whole room = thin_node n h own lifted whole.0 (thin_known own whole.1) (thin_known lifted whole.2) room

    thin_known : (ts : Trees) → AreWhole ts → known_thin l new fine f name (thin_among ts) ≡ map thinned (known l new fresh f name ts)
    thin_known none whole = refl
    thin_known cut whole = absurd whole
    thin_known (child b t ts) whole =
        let one = thin_extends t whole.0 in
        let rest = thin_known ts whole.1 in
        λ i. (lowered_branch b, λ r. one r i) ∷ rest i
