-- What each step of the recursion makes of the definitions.
use Rattle.std.proofs.Common.{◌≡◌, ◌∙◌, sym, ap, refl, ℕ, ◌-◌, ◌<◌, Bool, true, false, List, [], ◌∷◌, length, take, ◌==◌, Result, Ok, Err, IfOk}
use Rattle.path_maps.specs.declared.kind.ArcKind.TheVariants.{Variant}
use Rattle.prim_nodes.specs.declared.arcs.Branch.{Branch}
use Rattle.composition.specs.Arcs.{same_kind}
use Rattle.composition.specs.Paths.{Path, Limits}
use Rattle.composition.specs.World.{World}
use Rattle.composition.specs.Nodes.{Node, Here, Frame, bare, nothing_said}
use Rattle.composition.specs.Trees.{Tree, Trees, node, none, cut, size_among, own_branches, lifted_branches}
use Rattle.node_branches.specs.Children.{arc_child_with, chosen_child, above_target, node_at, node_in_round}
use Rattle.prim_index.specs.Depths.{tree_below, child_below, grown_below, frames_below, full_tree, round_below, rounds_below}
use Rattle.prim_index.specs.Grown.{with_round}
use Rattle.prim_index.specs.Loading.{loads}
use Rattle.prim_index.specs.declared.grow.Payloads.TheVariants.{All}
use Rattle.prim_index.proofs.Depths.{child_of_variant, child_of_last_arc, child_of_deeper_arc, no_frames, frames_more, no_rounds, last_round, next_round, tree_cut}
use Rattle.prim_index.proofs.Grown.{tree_is}
use Rattle.prim_trees.specs.declared.tree.Tree.{Tree as Built}
use Rattle.prim_trees.specs.Meant.{meant}

pub loads_all : (w : World) → loads w All ≡ (λ q. true)
unfolding loads
loads_all w = λ i q. true

module _ (l : Limits) (h : Node → Here) where
  pub variant_made : (d steps room : ℕ) (n child : Node) (b : Branch) (t : Tree) (is : Bool) → is ≡ same_kind Variant b.kind → is ≡ true → child ≡ chosen_child n b
      → t ≡ tree_below l h d steps room child → t ≡ child_below l h d steps n b room
  variant_made d steps room n child b t is told on there made =
      made ∙ ap (tree_below l h d steps room) there ∙ sym (child_of_variant l h d steps room n b (sym told ∙ on))

  pub end_made : (d steps room : ℕ) (n child : Node) (above : List Frame) (b : Branch) (t : Tree) (is : Bool) → is ≡ same_kind Variant b.kind → is ≡ false → d ≡ 0 → above ≡ []
      → child ≡ arc_child_with above n b → t ≡ node child nothing_said none none → t ≡ child_below l h d steps n b room
  end_made d steps room n child above b t is told off end bare there made =
      made ∙ ap (λ (c : Node). node c nothing_said none none) (there ∙ ap (λ (fs : List Frame). arc_child_with fs n b) bare)
      ∙ sym (ap (λ k. child_below l h k steps n b room) end ∙ child_of_last_arc l h steps room n b (sym told ∙ off))

  pub child_made : (w : World) (d steps room nodes count : ℕ) (n target child : Node) (above : List Frame) (b : Branch) (t : Tree) (is : Bool)
      → is ≡ same_kind Variant b.kind → is ≡ false → 0 < d → nodes ≡ l.nodes → target ≡ above_target (d - 1) n b → count ≡ length target.path
      → above ≡ frames_below l h (d - 1) (loads w All) target count → child ≡ arc_child_with above n b → t ≡ tree_below l h (d - 1) nodes room child
      → t ≡ child_below l h d steps n b room
  child_made w d steps room nodes count n target child above b t is told off some most below counted framed there made =
      let frames : above ≡ frames_below l h (d - 1) (λ q. true) (above_target (d - 1) n b) (length (above_target (d - 1) n b).path) =
      framed ∙ (λ i. frames_below l h (d - 1) (loads_all w i) (below i) ((counted ∙ ap (λ (m : Node). length m.path) below) i)) in
      made ∙ (λ i. tree_below l h (d - 1) (most i) room ((there ∙ ap (λ (fs : List Frame). arc_child_with fs n b) frames) i))
      ∙ sym (child_of_deeper_arc l h d steps room n b some (sym told ∙ off))

  pub frames_made : (d k rounds : ℕ) (loaded : Path → Bool) (n there : Node) (above all : List Frame) (path : Path) (first frame : Frame) (on : Bool) → 0 < k → rounds ≡ l.rounds
      → above ≡ frames_below l h d loaded n (k - 1) → path ≡ take k n.path → on ≡ loaded path → first ≡ record bare { loaded = on } → there ≡ node_at path n
      → frame ≡ rounds_below l h d rounds there above first → all ≡ frame ∷ above → all ≡ frames_below l h d loaded n k
  frames_made d k rounds loaded n there above all path first frame on some most up at told began stands made joined =
      let first_is : first ≡ record bare { loaded = loaded (take k n.path) } = began ∙ ap (λ b. let r : Frame = record bare { loaded = b } in r) (told ∙ ap loaded at) in
      let there_is : there ≡ node_at (take k n.path) n = stands ∙ ap (λ (q : Path). node_at q n) at in
      joined ∙ (λ i. (made ∙ (λ j. rounds_below l h d (most j) (there_is j) (up j) (first_is j))) i ∷ up i) ∙ sym (frames_more l h d loaded n k some)

  round_is : (d : ℕ) (n : Node) (above : List Frame) (f : Frame) → round_below l h d n above f ≡ with_round l (tree_below l h d l.nodes l.nodes (node_in_round n above f)) f
  unfolding round_below full_tree with_round node_in_round
  round_is d n above f = refl

  pub round_made : (d nodes : ℕ) (n there : Node) (above : List Frame) (f next : Frame) (t : Tree) → nodes ≡ l.nodes → there ≡ node_in_round n above f
      → t ≡ tree_below l h d nodes nodes there → next ≡ with_round l t f → next ≡ round_below l h d n above f
  round_made d nodes n there above f next t most stands made after =
      after ∙ ap (λ (x : Tree). with_round l x f) (made ∙ (λ i. tree_below l h d (most i) (most i) (stands i))) ∙ sym (round_is d n above f)

  pub variant_result : {E : Type 0} → (d steps room : ℕ) (n child : Node) (b : Branch) (is : Bool) (r : Result Built E) → is ≡ same_kind Variant b.kind → is ≡ true
      → child ≡ chosen_child n b → IfOk r (λ t. meant t ≡ tree_below l h d steps room child) → IfOk r (λ t. meant t ≡ child_below l h d steps n b room)
  variant_result d steps room n child b is (Ok t) told on there made = variant_made d steps room n child b (meant t) is told on there made
  variant_result d steps room n child b is (Err e) told on there made = made

  pub end_result : {E : Type 0} → (d steps room : ℕ) (n : Node) (b : Branch) (is : Bool) (r : Result Built E) → is ≡ same_kind Variant b.kind → is ≡ false → d ≡ 0
      → IfOk r (λ t. meant t ≡ node (arc_child_with [] n b) nothing_said none none) → IfOk r (λ t. meant t ≡ child_below l h d steps n b room)
  end_result d steps room n b is (Ok t) told off end made = end_made d steps room n (arc_child_with [] n b) [] b (meant t) is told off end refl refl made
  end_result d steps room n b is (Err e) told off end made = made

  pub child_result : {E : Type 0} → (w : World) (d steps room nodes count : ℕ) (n target child : Node) (above : List Frame) (b : Branch) (is : Bool) (r : Result Built E)
      → is ≡ same_kind Variant b.kind → is ≡ false → 0 < d → nodes ≡ l.nodes → target ≡ above_target (d - 1) n b → count ≡ length target.path
      → above ≡ frames_below l h (d - 1) (loads w All) target count → child ≡ arc_child_with above n b → IfOk r (λ t. meant t ≡ tree_below l h (d - 1) nodes room child)
      → IfOk r (λ t. meant t ≡ child_below l h d steps n b room)
  child_result w d steps room nodes count n target child above b is (Ok t) told off some most below counted framed there made =
      child_made w d steps room nodes count n target child above b (meant t) is told off some most below counted framed there made
  child_result w d steps room nodes count n target child above b is (Err e) told off some most below counted framed there made = made

  pub frames_end : (d k : ℕ) (loaded : Path → Bool) (n : Node) (all : List Frame) → all ≡ [] → k ≡ 0 → all ≡ frames_below l h d loaded n k
  frames_end d k loaded n all is end = is ∙ sym (ap (λ (i : ℕ). frames_below l h d loaded n i) end ∙ no_frames l h d loaded n)

  pub frames_result : {E : Type 0} → (d k rounds : ℕ) (loaded : Path → Bool) (n there : Node) (above : List Frame) (path : Path) (first frame : Frame) (on : Bool) (r : Result (List Frame) E)
      → 0 < k → rounds ≡ l.rounds → above ≡ frames_below l h d loaded n (k - 1) → path ≡ take k n.path → on ≡ loaded path → first ≡ record bare { loaded = on } → there ≡ node_at path n
      → frame ≡ rounds_below l h d rounds there above first → IfOk r (λ all. all ≡ frame ∷ above) → IfOk r (λ all. all ≡ frames_below l h d loaded n k)
  frames_result d k rounds loaded n there above path first frame on (Ok all) some most up at told began stands made joined =
      frames_made d k rounds loaded n there above all path first frame on some most up at told began stands made joined
  frames_result d k rounds loaded n there above path first frame on (Err e) some most up at told began stands made joined = joined

  pub round_result : {E : Type 0} → (d nodes : ℕ) (n there : Node) (above : List Frame) (f : Frame) (t : Tree) (r : Result Frame E) → nodes ≡ l.nodes → there ≡ node_in_round n above f
      → t ≡ tree_below l h d nodes nodes there → IfOk r (λ next. next ≡ with_round l t f) → IfOk r (λ next. next ≡ round_below l h d n above f)
  round_result d nodes n there above f t (Ok next) most stands made after = round_made d nodes n there above f next t most stands made after
  round_result d nodes n there above f t (Err e) most stands made after = after

  pub rounds_end : (d k : ℕ) (n : Node) (above : List Frame) (f : Frame) → k ≡ 0 → f ≡ rounds_below l h d k n above f
  rounds_end d k n above f end = sym (ap (λ (i : ℕ). rounds_below l h d i n above f) end ∙ no_rounds l h d n above f)

  pub rounds_settled : (d k count : ℕ) (n : Node) (above : List Frame) (f g : Frame) (settled : Bool) → 0 < k → g ≡ round_below l h d n above f → count ≡ length f.choices
      → settled ≡ (length g.choices == count) → settled ≡ true → g ≡ rounds_below l h d k n above f
  rounds_settled d k count n above f g settled some is counted told on =
      sym (last_round l h d k n above f g some is (ap (λ (i : ℕ). length g.choices == i) (sym counted) ∙ sym told ∙ on))

  pub rounds_result : {E : Type 0} → (d k count : ℕ) (n : Node) (above : List Frame) (f g : Frame) (settled : Bool) (r : Result Frame E) → 0 < k → g ≡ round_below l h d n above f
      → count ≡ length f.choices → settled ≡ (length g.choices == count) → settled ≡ false → IfOk r (λ last. last ≡ rounds_below l h d (k - 1) n above g)
      → IfOk r (λ last. last ≡ rounds_below l h d k n above f)
  rounds_result d k count n above f g settled (Ok last) some is counted told off made =
      made ∙ sym (next_round l h d k n above f g some is (ap (λ (i : ℕ). length g.choices == i) (sym counted) ∙ sym told ∙ off))
  rounds_result d k count n above f g settled (Err e) some is counted told off made = made

  pub tree_end : (d steps room : ℕ) (n : Node) (here : Here) (t : Tree) → here ≡ h n → steps ≡ 0 → t ≡ node n here cut none → t ≡ tree_below l h d steps room n
  tree_end d steps room n here t read end made =
      made ∙ ap (λ (x : Here). node n x cut none) read ∙ sym (ap (λ (i : ℕ). tree_below l h d i room n) end ∙ tree_cut l h d room n)

  pub tree_made : (d steps room first left : ℕ) (n : Node) (here : Here) (own lifted : Trees) (arcs more : List Branch) (t : Tree) → 0 < steps → here ≡ h n → first ≡ room - 1
      → arcs ≡ own_branches n here → own ≡ grown_below l h d (steps - 1) n first arcs → left ≡ first - size_among own → more ≡ lifted_branches l n own
      → lifted ≡ grown_below l h d (steps - 1) n left more → t ≡ node n here own lifted → t ≡ tree_below l h d steps room n
  tree_made d steps room first left n here own lifted arcs more t some read begun found grew kept lift rest made =
      let grown : own ≡ grown_below l h d (steps - 1) n (room - 1) (own_branches n (h n)) =
      grew ∙ (λ i. grown_below l h d (steps - 1) n (begun i) ((found ∙ ap (own_branches n) read) i)) in
      made ∙ ap (λ (x : Here). node n x own lifted) read
      ∙ tree_is l h d steps n room left own lifted some grown (kept ∙ ap (λ (i : ℕ). i - size_among own) begun) (rest ∙ ap (grown_below l h d (steps - 1) n left) lift)
