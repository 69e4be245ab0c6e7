-- How trees, frames and rounds unfold, step by step.
use Rattle.std.proofs.Common.{◌≡◌, ◌∙◌, sym, ap, refl, arith, ℕ, zero, suc, ◌-◌, ◌<◌, Bool, true, false, List, [], ◌∷◌, length, take}
use Rattle.composition.specs.Paths.{Path, Limits}
use Rattle.composition.specs.Nodes.{Node, Here, Frame, nothing_said, bare}
use Rattle.composition.specs.Arcs.{same_kind}
use Rattle.composition.specs.Trees.{Branch, Tree, node, none, cut, child, size, size_among, own_branches, lifted_branches, arc_child}
use Rattle.composition.specs.Compose.{meaning, decides_nothing}
use Rattle.path_maps.specs.declared.kind.ArcKind.TheVariants.{Variant}
use Rattle.prim_index.specs.Depths.{deeper, tree_below, child_below, grown_below, full_tree, frames_below, round_below, rounds_below}
use Rattle.node_branches.specs.Children.{arc_child_with, chosen_child, above_target, node_at}

module _ (l : Limits) (h : Node → Here) where
  pub tree_cut : (d room : ℕ) (n : Node) → tree_below l h d 0 room n ≡ node n (h n) cut none
  unfolding tree_below
  tree_cut d room n = refl

  pub tree_grown : (d steps room : ℕ) (n : Node) → 0 < steps
      → tree_below l h d steps room n
      ≡ node n (h n) (grown_below l h d (steps - 1) n (room - 1) (own_branches n (h n)))
      (grown_below l h d (steps - 1) n (room - 1 - size_among (grown_below l h d (steps - 1) n (room - 1) (own_branches n (h n))))
      (lifted_branches l n (grown_below l h d (steps - 1) n (room - 1) (own_branches n (h n)))))
  unfolding tree_below grown_below child_below
  tree_grown d zero room n some = absurd (omega arith)
  tree_grown d (suc steps) room n some =
      let e : suc steps - 1 ≡ steps = omega arith in
      rw e

  pub grown_none : (d steps room : ℕ) (n : Node) → grown_below l h d steps n room [] ≡ none
  unfolding grown_below
  grown_none d steps room n = refl

  pub grown_cut : (d steps : ℕ) (n : Node) (b : Branch) (bs : List Branch) → grown_below l h d steps n 0 (b ∷ bs) ≡ cut
  unfolding grown_below
  grown_cut d steps n b bs = refl

  pub grown_more : (d steps room : ℕ) (n : Node) (b : Branch) (bs : List Branch) → 0 < room
      → grown_below l h d steps n room (b ∷ bs) ≡ child b (child_below l h d steps n b room) (grown_below l h d steps n (room - size (child_below l h d steps n b room)) bs)
  unfolding grown_below
  grown_more d steps zero n b bs some = absurd (omega arith)
  grown_more d steps (suc room) n b bs some = refl

  abbrev by_kind : ℕ → ℕ → ℕ → Node → Branch → Bool → Tree
  by_kind d steps room n b is = elim is as (λ _. Tree) [
    | true ↦ tree_below l h d steps room (chosen_child n b)
    | false ↦ (deeper l h d).tree room (arc_child (deeper l h d) n b)
  ]

  pub child_of_variant : (d steps room : ℕ) (n : Node) (b : Branch) → same_kind Variant b.kind ≡ true
      → child_below l h d steps n b room ≡ tree_below l h d steps room (chosen_child n b)
  unfolding child_below chosen_child
  child_of_variant d steps room n b is = ap (by_kind d steps room n b) is

  pub child_of_arc : (d steps room : ℕ) (n : Node) (b : Branch) → same_kind Variant b.kind ≡ false
      → child_below l h d steps n b room ≡ (deeper l h d).tree room (arc_child (deeper l h d) n b)
  unfolding child_below chosen_child
  child_of_arc d steps room n b is = ap (by_kind d steps room n b) is

  child_at_end : (room : ℕ) (n : Node) (b : Branch) → (deeper l h 0).tree room (arc_child (deeper l h 0) n b) ≡ node (arc_child_with [] n b) nothing_said none none
  unfolding deeper arc_child_with
  child_at_end room n b = refl

  tree_deeper : (d room : ℕ) (n : Node) → (deeper l h (suc d)).tree room n ≡ tree_below l h d l.nodes room n
  unfolding deeper meaning tree_below
  tree_deeper zero room n = refl
  tree_deeper (suc d) room n = refl

  frames_deeper : (d : ℕ) (n : Node) (b : Branch) →
      arc_child (deeper l h (suc d)) n b ≡ arc_child_with (frames_below l h d (λ q. true) (above_target d n b) (length (above_target d n b).path)) n b
  unfolding deeper meaning full_tree tree_below frames_below arc_child_with above_target
  frames_deeper zero n b = refl
  frames_deeper (suc d) n b = refl

  pub child_of_last_arc : (steps room : ℕ) (n : Node) (b : Branch) → same_kind Variant b.kind ≡ false
      → child_below l h 0 steps n b room ≡ node (arc_child_with [] n b) nothing_said none none
  child_of_last_arc steps room n b is = child_of_arc 0 steps room n b is ∙ child_at_end room n b

  pub child_of_deeper_arc : (d steps room : ℕ) (n : Node) (b : Branch) → 0 < d → same_kind Variant b.kind ≡ false
      → child_below l h d steps n b room
      ≡ tree_below l h (d - 1) l.nodes room
      (arc_child_with (frames_below l h (d - 1) (λ q. true) (above_target (d - 1) n b) (length (above_target (d - 1) n b).path)) n b)
  child_of_deeper_arc zero steps room n b some is = absurd (omega arith)
  child_of_deeper_arc (suc d) steps room n b some is =
      let e : suc d - 1 ≡ d = omega arith in
      rw e (child_of_arc (suc d) steps room n b is ∙ tree_deeper d room (arc_child (deeper l h (suc d)) n b) ∙ ap (tree_below l h d l.nodes room) (frames_deeper d n b))

  pub no_frames : (d : ℕ) (loaded : Path → Bool) (n : Node) → frames_below l h d loaded n 0 ≡ []
  unfolding frames_below
  no_frames d loaded n = refl

  pub frames_more : (d : ℕ) (loaded : Path → Bool) (n : Node) (k : ℕ) → 0 < k
      → frames_below l h d loaded n k
      ≡ rounds_below l h d l.rounds (node_at (take k n.path) n) (frames_below l h d loaded n (k - 1)) (record bare { loaded = loaded (take k n.path) })
      ∷ frames_below l h d loaded n (k - 1)
  unfolding frames_below rounds_below node_at
  frames_more d loaded n zero some = absurd (omega arith)
  frames_more d loaded n (suc k) some =
      let e : suc k - 1 ≡ k = omega arith in
      rw e

  pub no_rounds : (d : ℕ) (n : Node) (above : List Frame) (f : Frame) → rounds_below l h d 0 n above f ≡ f
  unfolding rounds_below
  no_rounds d n above f = refl

  abbrev after_round : ℕ → ℕ → Node → List Frame → Frame → Frame → Bool → Frame
  after_round d k n above f g b = elim b as (λ _. Frame) [ true ↦ g | false ↦ rounds_below l h d k n above g ]

  rounds_suc : (d k : ℕ) (n : Node) (above : List Frame) (f : Frame)
      → rounds_below l h d (suc k) n above f ≡ after_round d k n above f (round_below l h d n above f) (decides_nothing f (round_below l h d n above f))
  unfolding rounds_below round_below
  rounds_suc d k n above f = refl

  pub last_round : (d k : ℕ) (n : Node) (above : List Frame) (f g : Frame) → 0 < k → g ≡ round_below l h d n above f → decides_nothing f g ≡ true
      → rounds_below l h d k n above f ≡ g
  last_round d zero n above f g some is stops = absurd (omega arith)
  last_round d (suc k) n above f g some is stops =
      rounds_suc d k n above f ∙ ap (λ (x : Frame). after_round d k n above f x (decides_nothing f x)) (sym is) ∙ ap (after_round d k n above f g) stops

  pub next_round : (d k : ℕ) (n : Node) (above : List Frame) (f g : Frame) → 0 < k → g ≡ round_below l h d n above f → decides_nothing f g ≡ false
      → rounds_below l h d k n above f ≡ rounds_below l h d (k - 1) n above g
  next_round d zero n above f g some is goes = absurd (omega arith)
  next_round d (suc k) n above f g some is goes =
      let e : suc k - 1 ≡ k = omega arith in
      rw e (rounds_suc d k n above f ∙ ap (λ (x : Frame). after_round d k n above f x (decides_nothing f x)) (sym is) ∙ ap (after_round d k n above f g) goes)
