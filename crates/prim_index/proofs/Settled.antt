-- The tree of the last round of choices is that of the prim, where it decides nothing and rests on no overgrown listing.
use Rattle.std.proofs.Common.{◌≡◌, ◌∙◌, sym, ap, refl, arith, ℕ, ◌-◌, ◌+◌, ◌<◌, Bool, true, false, List, [], ◌∷◌, ◌++◌, append-nil, length, length-append, take, ◌==◌}
use Rattle.std.proofs.lemmas.Bool.{eqb-true}
use Rattle.std.proofs.lemmas.List.{take_all}
use Rattle.composition.specs.Paths.{Path, Limits}
use Rattle.composition.specs.World.{World, identity, is_loaded, Root}
use Rattle.composition.specs.Nodes.{Node, Here, Frame, Choices, bare, bare_node}
use Rattle.composition.specs.Trees.{Tree}
use Rattle.composition.specs.Compose.{decided}
use Rattle.prim_index.specs.Answer.{stage_node_at}
use Rattle.node_branches.specs.Children.{node_at, node_in_round}
use Rattle.prim_index.specs.Depths.{tree_below, frames_below, round_below, rounds_below}
use Rattle.prim_index.specs.Grown.{with_round}
use Rattle.prim_index.specs.Loading.{loads}
use Rattle.prim_index.specs.Reading.{said}
use Rattle.prim_index.specs.Settling.{framed}
use Rattle.prim_index.specs.declared.grow.Payloads.TheVariants.{Ruled}
use Rattle.prim_index.proofs.Answering.{ruled, stage_is}
use Rattle.prim_index.proofs.Depths.{no_frames, frames_more, next_round}
use Rattle.prim_index.proofs.Steps.{round_made, rounds_settled}

no_more : {A : Type 0} → (xs ys : List A) → length (xs ++ ys) ≡ length xs → xs ++ ys ≡ xs
no_more xs [] h = append-nil xs
no_more xs (y ∷ ys) h = absurd (omega (arith, h, length-append xs (y ∷ ys)))

module _ (l : Limits) (h : Node → Here) where
  -- a frame to which a round adds nothing
  pub same_frame : (t : Tree) (f g : Frame) → g ≡ with_round l t f → length g.choices ≡ length f.choices → g.overgrown ≡ false → (let r : Frame = record f { overgrown = false } in r ≡ g)
  unfolding with_round
  same_frame t f g made same off =
      let choices : g.choices ≡ f.choices ++ decided l t f.choices = ap (λ (x : Frame). x.choices) made in
      let loaded : g.loaded ≡ f.loaded = ap (λ (x : Frame). x.loaded) made in
      let stays : f.choices ++ decided l t f.choices ≡ f.choices = no_more f.choices (decided l t f.choices) (ap (λ (cs : Choices). length cs) (sym choices) ∙ same) in
      sym (λ i. record { choices = (choices ∙ stays) i; loaded = loaded i; overgrown = off i })

  round_framed : (n : Node) (above : List Frame) (f : Frame) → node_in_round n above f ≡ framed n (record f { overgrown = false }) above
  unfolding node_in_round framed
  round_framed n above f = refl

  pub settled_tree : (d nodes count : ℕ) (n : Node) (above : List Frame) (f g : Frame) (t : Tree) (settled : Bool) → t ≡ tree_below l h d nodes nodes (node_in_round n above f) → g ≡ with_round l t f
      → count ≡ length f.choices → settled ≡ (length g.choices == count) → settled ≡ true → g.overgrown ≡ false → t ≡ tree_below l h d nodes nodes (framed n g above)
  settled_tree d nodes count n above f g t settled made after counted told on off =
      let same : length g.choices ≡ count = eqb-true (length g.choices) count (sym told ∙ on) in
      made ∙ ap (tree_below l h d nodes nodes) (round_framed n above f ∙ ap (λ (x : Frame). framed n x above) (same_frame t f g after (same ∙ counted) off))

  pub frame_settled : (d k nodes count : ℕ) (n : Node) (above : List Frame) (f g : Frame) (t : Tree) (settled : Bool) → 0 < k → nodes ≡ l.nodes
      → t ≡ tree_below l h d nodes nodes (node_in_round n above f) → g ≡ with_round l t f → count ≡ length f.choices → settled ≡ (length g.choices == count) → settled ≡ true
      → g ≡ rounds_below l h d k n above f
  frame_settled d k nodes count n above f g t settled some most made after counted told on =
      rounds_settled l h d k count n above f g settled some (round_made l h d nodes n (node_in_round n above f) above f g t most refl made after) counted told on

  pub frame_moved : (d k nodes count : ℕ) (n : Node) (above : List Frame) (f g last : Frame) (t : Tree) (settled : Bool) → 0 < k → nodes ≡ l.nodes
      → t ≡ tree_below l h d nodes nodes (node_in_round n above f) → g ≡ with_round l t f → count ≡ length f.choices → settled ≡ (length g.choices == count) → settled ≡ false
      → last ≡ rounds_below l h d (k - 1) n above g → last ≡ rounds_below l h d k n above f
  frame_moved d k nodes count n above f g last t settled some most made after counted told off goes =
      let round : g ≡ round_below l h d n above f = round_made l h d nodes n (node_in_round n above f) above f g t most refl made after in
      goes ∙ sym (next_round l h d k n above f g some round (ap (λ (i : ℕ). length g.choices == i) (sym counted) ∙ sym told ∙ off))

module _ (l : Limits) (w : World) (p : Path) where
  pub bare_stage : (count : ℕ) (n : Node) → n ≡ bare_node Root p [] l.depth identity → count ≡ length n.path → count ≡ 0 → n ≡ stage_node_at l w p
  bare_stage count n is counted empty =
      let zero_long : length p ≡ 0 = sym (counted ∙ ap (λ (m : Node). length m.path) is) ∙ empty in
      let frames : frames_below l (said l w) l.depth (is_loaded w) (bare_node Root p [] l.depth identity) (length p) ≡ [] =
      ap (λ k. frames_below l (said l w) l.depth (is_loaded w) (bare_node Root p [] l.depth identity) k) zero_long ∙ no_frames l (said l w) l.depth (is_loaded w) (bare_node Root p [] l.depth identity) in
      is ∙ sym (stage_is l w p ∙ ap (λ (fs : List Frame). let n = bare_node Root p [] l.depth identity in let r : Node = record n { frames = fs } in r) frames)

  at_itself : node_at p (bare_node Root p [] l.depth identity) ≡ bare_node Root p [] l.depth identity
  unfolding node_at
  at_itself = refl

  pub stage_framed : (count rounds : ℕ) (n : Node) (above : List Frame) (first frame : Frame) (on : Bool) → n ≡ bare_node Root p [] l.depth identity → count ≡ length n.path → 0 < count → rounds ≡ l.rounds
      → above ≡ frames_below l (said l w) l.depth (loads w Ruled) n (count - 1) → on ≡ loads w Ruled p → first ≡ record bare { loaded = on }
      → frame ≡ rounds_below l (said l w) l.depth rounds n above first → framed n frame above ≡ stage_node_at l w p
  unfolding framed
  stage_framed count rounds n above first frame on is counted some most up told began made =
      let long : count ≡ length p = counted ∙ ap (λ (m : Node). length m.path) is in
      let up_is : above ≡ frames_below l (said l w) l.depth (is_loaded w) (bare_node Root p [] l.depth identity) (length p - 1) =
      up ∙ (λ i. frames_below l (said l w) l.depth (ruled w i) (is i) (long i - 1)) in
      let on_is : on ≡ is_loaded w p = told ∙ ap (λ (f : Path → Bool). f p) (ruled w) in
      let first_is : first ≡ record bare { loaded = is_loaded w p } = began ∙ ap (λ b. let r : Frame = record bare { loaded = b } in r) on_is in
      let frame_is : frame ≡ rounds_below l (said l w) l.depth l.rounds (bare_node Root p [] l.depth identity) (frames_below l (said l w) l.depth (is_loaded w) (bare_node Root p [] l.depth identity) (length p - 1)) (record bare { loaded = is_loaded w p }) =
      made ∙ (λ i. rounds_below l (said l w) l.depth (most i) (is i) (up_is i) (first_is i)) in
      let whole : take (length p) p ≡ p = take_all (length p) p (omega arith) in
      let more = frames_more l (said l w) l.depth (is_loaded w) (bare_node Root p [] l.depth identity) (length p) (omega (arith, some, long)) in
      let frames : frame ∷ above ≡ frames_below l (said l w) l.depth (is_loaded w) (bare_node Root p [] l.depth identity) (length p) =
      (λ i. frame_is i ∷ up_is i)
      ∙ sym (more ∙ (λ i. rounds_below l (said l w) l.depth l.rounds ((ap (λ (q : Path). node_at q (bare_node Root p [] l.depth identity)) whole ∙ at_itself) i) (frames_below l (said l w) l.depth (is_loaded w) (bare_node Root p [] l.depth identity) (length p - 1)) (record bare { loaded = is_loaded w (whole i) }) ∷ frames_below l (said l w) l.depth (is_loaded w) (bare_node Root p [] l.depth identity) (length p - 1))) in
      (λ i. let r : Node = record (is i) { frames = frames i } in r) ∙ sym (stage_is l w p)
