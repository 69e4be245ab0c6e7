-- Where the same is said at each node that is visited, the same trees grow, the same is chosen and the same nodes are visited.
use Rattle.std.proofs.Common.{◌≡◌, refl, ap, ◌∙◌, ℕ, zero, suc, ◌+◌, ◌-◌, ◌<◌, ◌||◌, ◌==◌, Bool, true, false, true≢false, List, [], ◌∷◌, ◌++◌, length, take, arith}
use Rattle.path_maps.specs.declared.kind.ArcKind.TheVariants.{Variant}
use Rattle.sdf_paths.specs.declared.element.Element.{Element}
use Rattle.sdf_values.specs.Scales.{Offset, composed}
use Rattle.composition.specs.Paths.{Path, Limits, up}
use Rattle.composition.specs.World.{StackName, Root, identity}
use Rattle.composition.specs.Arcs.{same_kind}
use Rattle.composition.specs.Nodes.{Node, Here, Frame, bare, bare_node, child_chain}
use Rattle.composition.specs.Trees.{Tree, node, Trees, none, cut, child, size, size_among, Branch, own_branches, lifted_branches, Meaning, grown, child_tree, variant_child, arc_child, tree_with}
use Rattle.composition.specs.Compose.{is_overgrown_on_the_way, decides_nothing, decided, tree_in_round, rounds, frames_along, bottom, level, meaning, tree_of, stage_node, stage_tree}
use Rattle.composition.specs.Visits.{Visits, for_ancestors, visited, visited_among, visited_in_rounds, visited_along, no_visits, visits_at, visits, stage_visits}
use Rattle.agreeing_worlds.proofs.Each.{Each, front_of, back_of}
use Rattle.agreeing_worlds.proofs.Good.{Below, first_below, front_below, GoodHere, GoodBranch, GoodTree, good_own, good_lifted_branches, good_tree}

abbrev mutual
  -- P holds of each node of a tree
  pub InTree : (Node → Type 0) → Tree → Type 0
  InTree P (node x h own lifted) = P x × InAmong P own × InAmong P lifted

  pub InAmong : (Node → Type 0) → Trees → Type 0
  InAmong P none = Unit {0}
  InAmong P cut = Unit {0}
  InAmong P (child b t ts) = InTree P t × InAmong P ts

-- it holds of a node, which does not stand at `/`
abbrev pub AndBelow : (Node → Type 0) → Node → Type 0
AndBelow P x = P x × Below x.path

-- two meanings of one depth, with what is visited for them: where P holds of all that is visited for the first, the second is the same
pub record SameMeaning (P : Node → Type 0) (m n : Meaning) (u v : Visits) : Type 0 where
  pub frames : (s : StackName) (p : Path) (chain : List (StackName × Path)) (o : Offset) → Each P (u.for_frames s p chain o) → n.frames s p chain o ≡ m.frames s p chain o
  pub for_frames : (s : StackName) (p : Path) (chain : List (StackName × Path)) (o : Offset) → Each P (u.for_frames s p chain o) → v.for_frames s p chain o ≡ u.for_frames s p chain o
  pub tree : (room : ℕ) (x : Node) → Below x.path → Each P (u.for_tree (m.tree room x)) → n.tree room x ≡ m.tree room x
  pub for_tree : (t : Tree) → Each P (u.for_tree t) → v.for_tree t ≡ u.for_tree t
  pub good : (room : ℕ) (x : Node) → GoodTree (m.tree room x)

-- ---- what is visited for a tree

module _ (P : Node → Type 0) (m n : Meaning) (u v : Visits) (same : SameMeaning P m n u v) where
  one_visited : (c : Bool) (x : Node) (b : Branch) (t : Tree) → (Each P (visited u t) → visited v t ≡ visited u t)
      → Each P (elim c as (λ _. List Node) [ true ↦ visited u t | false ↦ for_ancestors u x b ++ u.for_tree t ])
      → elim c as (λ _. List Node) [ true ↦ visited v t | false ↦ for_ancestors v x b ++ v.for_tree t ]
      ≡ elim c as (λ _. List Node) [ true ↦ visited u t | false ↦ for_ancestors u x b ++ u.for_tree t ]
  one_visited true x b t deeper h = deeper h
  one_visited false x b t deeper h =
      let ancestors : for_ancestors v x b ≡ for_ancestors u x b =
      same.for_frames b.lead.stack (up b.lead.target 1) (child_chain x b.level) (composed b.lead.offset x.offset) (front_of P (for_ancestors u x b) (u.for_tree t) h) in
      let tree : v.for_tree t ≡ u.for_tree t = same.for_tree t (back_of P (for_ancestors u x b) (u.for_tree t) h) in
      λ i. ancestors i ++ tree i

  mutual
    same_visited : (t : Tree) → Each P (visited u t) → visited v t ≡ visited u t
    same_visited (node x h own lifted) e =
        let first : visited_among v x own ≡ visited_among u x own = same_among x own (front_of P (visited_among u x own) (visited_among u x lifted) e.1) in
        let second : visited_among v x lifted ≡ visited_among u x lifted = same_among x lifted (back_of P (visited_among u x own) (visited_among u x lifted) e.1) in
        λ i. x ∷ first i ++ second i

    same_among : (x : Node) (ts : Trees) → Each P (visited_among u x ts) → visited_among v x ts ≡ visited_among u x ts
    same_among x none e = refl
    same_among x cut e = refl
    same_among x (child b t ts) e =
        let one : List Node = elim (same_kind Variant b.kind) as (λ _. List Node) [ true ↦ visited u t | false ↦ for_ancestors u x b ++ u.for_tree t ] in
        let first : elim (same_kind Variant b.kind) as (λ _. List Node) [ true ↦ visited v t | false ↦ for_ancestors v x b ++ v.for_tree t ] ≡ one =
        one_visited (same_kind Variant b.kind) x b t (same_visited t) (front_of P one (visited_among u x ts) e) in
        let rest : visited_among v x ts ≡ visited_among u x ts = same_among x ts (back_of P one (visited_among u x ts) e) in
        λ i. first i ++ rest i

  -- ---- trees

  abbrev Alike : (ℕ → Node → Tree) → (ℕ → Node → Tree) → Type 0
  Alike t r = (room : ℕ) (x : Node) → Below x.path → Each P (visited u (t room x)) → r room x ≡ t room x

  alike_child : (t r : ℕ → Node → Tree) → Alike t r → (x : Node) (b : Branch) (room : ℕ) → GoodBranch x b → (c : Bool)
      → Each P (elim c as (λ _. List Node) [
        | true ↦ visited u (elim c as (λ _. Tree) [ true ↦ t room (variant_child m x b) | false ↦ m.tree room (arc_child m x b) ])
        | false ↦ for_ancestors u x b ++ u.for_tree (elim c as (λ _. Tree) [ true ↦ t room (variant_child m x b) | false ↦ m.tree room (arc_child m x b) ])
      ])
      → elim c as (λ _. Tree) [ true ↦ r room (variant_child n x b) | false ↦ n.tree room (arc_child n x b) ]
      ≡ elim c as (λ _. Tree) [ true ↦ t room (variant_child m x b) | false ↦ m.tree room (arc_child m x b) ]
  alike_child t r alike x b room good true h = alike room (variant_child m x b) (first_below b.lead.target _ good.0) h
  alike_child t r alike x b room good false h =
      let its : List Node = u.for_tree (m.tree room (arc_child m x b)) in
      let frames : n.frames b.lead.stack (up b.lead.target 1) (child_chain x b.level) (composed b.lead.offset x.offset)
      ≡ m.frames b.lead.stack (up b.lead.target 1) (child_chain x b.level) (composed b.lead.offset x.offset) =
      same.frames b.lead.stack (up b.lead.target 1) (child_chain x b.level) (composed b.lead.offset x.offset) (front_of P (for_ancestors u x b) its h) in
      let there : arc_child n x b ≡ arc_child m x b = λ i. record (arc_child m x b) { frames = take (b.level + 1) x.frames ++ frames i } in
      ap (λ (y : Node). n.tree room y) there ∙ same.tree room (arc_child m x b) (first_below b.lead.target _ good.0) (back_of P (for_ancestors u x b) its h)

  alike_grown : (t r : ℕ → Node → Tree) → Alike t r → (x : Node) (bs : List Branch) (room : ℕ) → Each (GoodBranch x) bs
      → Each P (visited_among u x (grown (child_tree m t x) room bs)) → grown (child_tree n r x) room bs ≡ grown (child_tree m t x) room bs
  alike_grown t r alike x [] room good h = refl
  alike_grown t r alike x (b ∷ bs) zero good h = refl
  alike_grown t r alike x (b ∷ bs) (suc room) good h =
      let its : Tree = child_tree m t x b (suc room) in
      let left : ℕ = suc room - size its in
      let others : Trees = grown (child_tree m t x) left bs in
      let first : List Node = elim (same_kind Variant b.kind) as (λ _. List Node) [ true ↦ visited u its | false ↦ for_ancestors u x b ++ u.for_tree its ] in
      let one : child_tree n r x b (suc room) ≡ its = alike_child t r alike x b (suc room) good.0 (same_kind Variant b.kind) (front_of P first (visited_among u x others) h) in
      let rest : grown (child_tree n r x) left bs ≡ others = alike_grown t r alike x bs left good.1 (back_of P first (visited_among u x others) h) in
      ap (λ (y : Tree). child b y (grown (child_tree n r x) (suc room - size y) bs)) one ∙ ap (λ (ts : Trees). child b its ts) rest

-- ---- one depth

-- where P holds of a node that does not stand at `/`, the same is said there
abbrev pub TellsHere : (Node → Type 0) → (Node → Here) → (Node → Here) → Type 0
TellsHere P h g = (x : Node) → P x → Below x.path → g x ≡ h x

module _ (P : Node → Type 0) (l : Limits) (h g : Node → Here) (says : (x : Node) → GoodHere x (h x)) (tells : TellsHere P h g) (m n : Meaning) (u v : Visits) (same : SameMeaning P m n u v) where
  alike_tree : (steps : ℕ) → Alike P m n u v same (tree_with l h m steps) (tree_with l g n steps)
  alike_tree zero room x below e = let said : g x ≡ h x = tells x e.0 below in λ i. node x (said i) cut none
  alike_tree (suc steps) room x below e = by (alike_tree steps)
    where
      by : Alike P m n u v same (tree_with l h m steps) (tree_with l g n steps) → tree_with l g n (suc steps) room x ≡ tree_with l h m (suc steps) room x
      by alike =
          let own : Trees = grown (child_tree m (tree_with l h m steps) x) (room - 1) (own_branches x (h x)) in
          let own_by : Here → Trees = λ y. grown (child_tree n (tree_with l g n steps) x) (room - 1) (own_branches x y) in
          let lifted : Trees = grown (child_tree m (tree_with l h m steps) x) (room - 1 - size_among own) (lifted_branches l x own) in
          let lifted_by : Trees → Trees = λ ts. grown (child_tree n (tree_with l g n steps) x) (room - 1 - size_among ts) (lifted_branches l x ts) in
          let first : List Node = visited_among u x own in
          let second : List Node = visited_among u x lifted in
          let same_own : own_by (h x) ≡ own =
          alike_grown P m n u v same (tree_with l h m steps) (tree_with l g n steps) alike x (own_branches x (h x)) (room - 1) (good_own x (h x) (says x)) (front_of P first second e.1) in
          let same_lifted : lifted_by own ≡ lifted =
          alike_grown P m n u v same (tree_with l h m steps) (tree_with l g n steps) alike x (lifted_branches l x own) (room - 1 - size_among own)
          (good_lifted_branches l x own (good_tree l h m says same.good (suc steps) room x)) (back_of P first second e.1) in
          ap (λ (y : Here). node x y (own_by y) (lifted_by (own_by y))) (tells x e.0 below)
          ∙ ap (λ (ts : Trees). node x (h x) ts (lifted_by ts)) same_own
          ∙ ap (λ (ts : Trees). node x (h x) own ts) same_lifted

-- ---- rounds and frames

-- a prim's frame after a round in a tree
abbrev after : Limits → Frame → Tree → Frame
after l f t = record f { choices = f.choices ++ decided l t f.choices; overgrown = f.overgrown || is_overgrown_on_the_way t }

module _ (l : Limits) (P : Node → Type 0) (t r : Node → Tree) (seen met : Tree → List Node)
    (same_tree : (x : Node) → Below x.path → Each P (seen (t x)) → r x ≡ t x) (same_seen : (y : Tree) → Each P (seen y) → met y ≡ seen y) where
  abbrev frame_by : ℕ → (Node → Tree) → Node → List Frame → Frame → Frame → Frame
  frame_by k tree x above f next = elim (decides_nothing f next) as (λ _. Frame) [ true ↦ next | false ↦ rounds l tree k x above next ]

  abbrev more_by : ℕ → (Node → Tree) → (Tree → List Node) → Node → List Frame → Frame → Frame → List Node
  more_by k tree see x above f next = elim (decides_nothing f next) as (λ _. List Node) [ true ↦ [] | false ↦ visited_in_rounds l tree see k x above next ]

  alike_rounds : (k : ℕ) (x : Node) (above : List Frame) (f : Frame) → Below x.path → Each P (visited_in_rounds l t seen k x above f) → rounds l r k x above f ≡ rounds l t k x above f
  alike_rounds zero x above f below h = refl
  alike_rounds (suc k) x above f below h =
      let here : Tree = tree_in_round l t x above f in
      let one : tree_in_round l r x above f ≡ here = same_tree (record x { frames = (record f { overgrown = false }) ∷ above }) below (front_of P (seen here) (more_by k t seen x above f (after l f here)) h) in
      ap (λ (y : Tree). frame_by k r x above f (after l f y)) one
      ∙ by (after l f here) (alike_rounds k x above (after l f here) below) (decides_nothing f (after l f here)) (back_of P (seen here) (more_by k t seen x above f (after l f here)) h)
    where
      by : (next : Frame) → (Each P (visited_in_rounds l t seen k x above next) → rounds l r k x above next ≡ rounds l t k x above next) → (c : Bool)
          → Each P (elim c as (λ _. List Node) [ true ↦ [] | false ↦ visited_in_rounds l t seen k x above next ])
          → elim c as (λ _. Frame) [ true ↦ next | false ↦ rounds l r k x above next ] ≡ elim c as (λ _. Frame) [ true ↦ next | false ↦ rounds l t k x above next ]
      by next deeper true e = refl
      by next deeper false e = deeper e

  alike_met : (k : ℕ) (x : Node) (above : List Frame) (f : Frame) → Below x.path → Each P (visited_in_rounds l t seen k x above f)
      → visited_in_rounds l r met k x above f ≡ visited_in_rounds l t seen k x above f
  alike_met zero x above f below h = refl
  alike_met (suc k) x above f below h =
      let here : Tree = tree_in_round l t x above f in
      let more : List Node = more_by k t seen x above f (after l f here) in
      let one : tree_in_round l r x above f ≡ here = same_tree (record x { frames = (record f { overgrown = false }) ∷ above }) below (front_of P (seen here) more h) in
      let first : met here ≡ seen here = same_seen here (front_of P (seen here) more h) in
      let rest : more_by k r met x above f (after l f here) ≡ more = by (after l f here) (alike_met k x above (after l f here) below) (decides_nothing f (after l f here)) (back_of P (seen here) more h) in
      ap (λ (y : Tree). met y ++ more_by k r met x above f (after l f y)) one ∙ (λ i. first i ++ rest i)
    where
      by : (next : Frame) → (Each P (visited_in_rounds l t seen k x above next) → visited_in_rounds l r met k x above next ≡ visited_in_rounds l t seen k x above next) → (c : Bool)
          → Each P (elim c as (λ _. List Node) [ true ↦ [] | false ↦ visited_in_rounds l t seen k x above next ])
          → elim c as (λ _. List Node) [ true ↦ [] | false ↦ visited_in_rounds l r met k x above next ] ≡ elim c as (λ _. List Node) [ true ↦ [] | false ↦ visited_in_rounds l t seen k x above next ]
      by next deeper true e = refl
      by next deeper false e = deeper e

  -- the rules on each front of a path, by how many names it has, are the same
  abbrev SameLoads : (Path → Bool) → (Path → Bool) → Path → ℕ → Type 0
  SameLoads rule other p k = (j : ℕ) → j < k → other (take (suc j) p) ≡ rule (take (suc j) p)

  abbrev frames_by : (Node → Tree) → Node → Path → List Frame → Bool → List Frame
  frames_by tree x q above loaded = rounds l tree l.rounds (record x { path = q }) above (record bare { loaded = loaded }) ∷ above

  alike_frames : (rule other : Path → Bool) (x : Node) → Below x.path → (k : ℕ) → SameLoads rule other x.path k → Each P (visited_along l t seen rule x k)
      → frames_along l r other x k ≡ frames_along l t rule x k
  alike_frames rule other x below zero loads h = refl
  alike_frames rule other x below (suc k) loads h =
      let q : Path = take (suc k) x.path in
      let above : List Frame = frames_along l t rule x k in
      let before : List Node = visited_along l t seen rule x k in
      let here : List Node = visited_in_rounds l t seen l.rounds (record x { path = q }) above (record bare { loaded = rule q }) in
      let same_above : frames_along l r other x k ≡ above = alike_frames rule other x below k (λ j less. loads j (omega (arith, less))) (front_of P before here h) in
      ap (λ (b : Bool). frames_by r x q (frames_along l r other x k) b) (loads k (omega arith))
      ∙ ap (λ (fs : List Frame). frames_by r x q fs (rule q)) same_above
      ∙ ap (λ (f : Frame). f ∷ above) (alike_rounds l.rounds (record x { path = q }) above (record bare { loaded = rule q }) (front_below k x.path below) (back_of P before here h))

  alike_along : (rule other : Path → Bool) (x : Node) → Below x.path → (k : ℕ) → SameLoads rule other x.path k → Each P (visited_along l t seen rule x k)
      → visited_along l r met other x k ≡ visited_along l t seen rule x k
  alike_along rule other x below zero loads h = refl
  alike_along rule other x below (suc k) loads h =
      let q : Path = take (suc k) x.path in
      let above : List Frame = frames_along l t rule x k in
      let before : List Node = visited_along l t seen rule x k in
      let here : List Node = visited_in_rounds l t seen l.rounds (record x { path = q }) above (record bare { loaded = rule q }) in
      let fewer : SameLoads rule other x.path k = λ j less. loads j (omega (arith, less)) in
      let same_above : frames_along l r other x k ≡ above = alike_frames rule other x below k fewer (front_of P before here h) in
      let same_before : visited_along l r met other x k ≡ before = alike_along rule other x below k fewer (front_of P before here h) in
      let same_here : visited_in_rounds l r met l.rounds (record x { path = q }) above (record bare { loaded = rule q }) ≡ here =
      alike_met l.rounds (record x { path = q }) above (record bare { loaded = rule q }) (front_below k x.path below) (back_of P before here h) in
      ap (λ (b : Bool). visited_along l r met other x k ++ visited_in_rounds l r met l.rounds (record x { path = q }) (frames_along l r other x k) (record bare { loaded = b })) (loads k (omega arith))
      ∙ ap (λ (fs : List Frame). visited_along l r met other x k ++ visited_in_rounds l r met l.rounds (record x { path = q }) fs (record bare { loaded = rule q })) same_above
      ∙ (λ i. same_before i ++ same_here i)

-- ---- P holds of each node of a tree, where it holds of each that is visited

module _ (P : Node → Type 0) (l : Limits) (h : Node → Here) (says : (x : Node) → GoodHere x (h x)) where
  abbrev Covers : ℕ → (ℕ → Node → Tree) → (Tree → List Node) → Type 0
  Covers d tree seen = (room : ℕ) (x : Node) → x.depth ≡ d → Below x.path → Each P (seen (tree room x)) → InTree (AndBelow P) (tree room x)

  module _ (d : ℕ) (m : Meaning) (u : Visits)
      (deeper : (room : ℕ) (y : Node) → suc y.depth ≡ d → Below y.path → Each P (u.for_tree (m.tree room y)) → InTree (AndBelow P) (m.tree room y))
      (below_good : (room : ℕ) (y : Node) → GoodTree (m.tree room y)) where
    one_less : (a : ℕ) → a ≡ d → (a == 0) ≡ false → suc (a - 1) ≡ d
    one_less zero is deep = absurd (true≢false deep)
    one_less (suc a) is deep = omega (arith, is)

    cover_child : (t : ℕ → Node → Tree) → Covers d t (visited u) → (x : Node) (b : Branch) (room : ℕ) → x.depth ≡ d → GoodBranch x b → (c : Bool) → same_kind Variant b.kind ≡ c
        → Each P (elim c as (λ _. List Node) [
          | true ↦ visited u (elim c as (λ _. Tree) [ true ↦ t room (variant_child m x b) | false ↦ m.tree room (arc_child m x b) ])
          | false ↦ for_ancestors u x b ++ u.for_tree (elim c as (λ _. Tree) [ true ↦ t room (variant_child m x b) | false ↦ m.tree room (arc_child m x b) ])
        ])
        → InTree (AndBelow P) (elim c as (λ _. Tree) [ true ↦ t room (variant_child m x b) | false ↦ m.tree room (arc_child m x b) ])
    cover_child t covers x b room at good true is e = covers room (variant_child m x b) at (first_below b.lead.target _ good.0) e
    cover_child t covers x b room at good false is e =
        deeper room (arc_child m x b) (one_less x.depth at (good.2 is)) (first_below b.lead.target _ good.0) (back_of P (for_ancestors u x b) (u.for_tree (m.tree room (arc_child m x b))) e)

    cover_grown : (t : ℕ → Node → Tree) → Covers d t (visited u) → (x : Node) (bs : List Branch) (room : ℕ) → x.depth ≡ d → Each (GoodBranch x) bs
        → Each P (visited_among u x (grown (child_tree m t x) room bs)) → InAmong (AndBelow P) (grown (child_tree m t x) room bs)
    cover_grown t covers x [] room at good e = tt
    cover_grown t covers x (b ∷ bs) zero at good e = tt
    cover_grown t covers x (b ∷ bs) (suc room) at good e =
        let its : Tree = child_tree m t x b (suc room) in
        let left : ℕ = suc room - size its in
        let others : Trees = grown (child_tree m t x) left bs in
        let first : List Node = elim (same_kind Variant b.kind) as (λ _. List Node) [ true ↦ visited u its | false ↦ for_ancestors u x b ++ u.for_tree its ] in (
          cover_child t covers x b (suc room) at good.0 (same_kind Variant b.kind) refl (front_of P first (visited_among u x others) e),
          cover_grown t covers x bs left at good.1 (back_of P first (visited_among u x others) e),
        )

    cover_tree : (steps : ℕ) → Covers d (tree_with l h m steps) (visited u)
    cover_tree zero room x at below e = ((e.0, below), tt, tt)
    cover_tree (suc steps) room x at below e = by (cover_tree steps)
      where
        by : Covers d (tree_with l h m steps) (visited u) → InTree (AndBelow P) (tree_with l h m (suc steps) room x)
        by covers =
            let own : Trees = grown (child_tree m (tree_with l h m steps) x) (room - 1) (own_branches x (h x)) in
            let lifted : Trees = grown (child_tree m (tree_with l h m steps) x) (room - 1 - size_among own) (lifted_branches l x own) in
            let first : List Node = visited_among u x own in
            let second : List Node = visited_among u x lifted in (
              (e.0, below),
              cover_grown (tree_with l h m steps) covers x (own_branches x (h x)) (room - 1) at (good_own x (h x) (says x)) (front_of P first second e.1),
              cover_grown (tree_with l h m steps) covers x (lifted_branches l x own) (room - 1 - size_among own) at
                  (good_lifted_branches l x own (good_tree l h m says below_good (suc steps) room x)) (back_of P first second e.1),
            )

  good_bottom : (room : ℕ) (y : Node) → GoodTree (bottom.tree room y)
  good_bottom room y = tt

  good_at_depth : (d : ℕ) (room : ℕ) (y : Node) → GoodTree ((meaning l h d).tree room y)
  unfolding meaning
  good_at_depth zero room y = good_tree l h bottom says good_bottom l.nodes room y
  good_at_depth (suc d) room y = good_tree l h (meaning l h d) says (good_at_depth d) l.nodes room y

  pub covers_at_depth : (d : ℕ) (room : ℕ) (x : Node) → x.depth ≡ d → Below x.path → Each P ((visits l h d).for_tree ((meaning l h d).tree room x)) → InTree (AndBelow P) ((meaning l h d).tree room x)
  unfolding meaning visits
  covers_at_depth zero room x at below e = cover_tree zero bottom no_visits (λ r y is. absurd (omega (arith, is))) good_bottom l.nodes room x at below e
  covers_at_depth (suc d) room x at below e =
      cover_tree (suc d) (meaning l h d) (visits l h d) (λ r y is under seen. covers_at_depth d r y (omega (arith, is)) under seen) (good_at_depth d) l.nodes room x at below e

-- ---- all depths

module _ (P : Node → Type 0) (l : Limits) (h g : Node → Here) (says : (x : Node) → GoodHere x (h x)) (tells : TellsHere P h g) where
  same_bottom : SameMeaning P bottom bottom no_visits no_visits
  same_bottom = record {
    frames = λ s p chain o e. refl;
    for_frames = λ s p chain o e. refl;
    tree = λ room x below e. refl;
    for_tree = λ t e. refl;
    good = λ room x. tt;
  }

  module _ (d : ℕ) (m n : Meaning) (u v : Visits) (same : SameMeaning P m n u v) where
    tree_here : (x : Node) → Below x.path → Each P (visited u (tree_with l h m l.nodes l.nodes x)) → tree_with l g n l.nodes l.nodes x ≡ tree_with l h m l.nodes l.nodes x
    tree_here x below e = alike_tree P l h g says tells m n u v same l.nodes l.nodes x below e

    frames_here : (s : StackName) (p : Path) (chain : List (StackName × Path)) (o : Offset) → Each P ((visits_at l h d m u).for_frames s p chain o)
        → (level l g d n).frames s p chain o ≡ (level l h d m).frames s p chain o
    frames_here s [] chain o e = refl
    frames_here s (x ∷ p) chain o e =
        alike_frames l P (tree_with l h m l.nodes l.nodes) (tree_with l g n l.nodes l.nodes) (visited u) (visited v) tree_here (same_visited P m n u v same)
        (λ q. true) (λ q. true) (bare_node s (x ∷ p) chain d o) tt (length (x ∷ p)) (λ j less. refl) e

    visits_here : (s : StackName) (p : Path) (chain : List (StackName × Path)) (o : Offset) → Each P ((visits_at l h d m u).for_frames s p chain o)
        → (visits_at l g d n v).for_frames s p chain o ≡ (visits_at l h d m u).for_frames s p chain o
    visits_here s [] chain o e = refl
    visits_here s (x ∷ p) chain o e =
        alike_along l P (tree_with l h m l.nodes l.nodes) (tree_with l g n l.nodes l.nodes) (visited u) (visited v) tree_here (same_visited P m n u v same)
        (λ q. true) (λ q. true) (bare_node s (x ∷ p) chain d o) tt (length (x ∷ p)) (λ j less. refl) e

    same_level : SameMeaning P (level l h d m) (level l g d n) (visits_at l h d m u) (visits_at l g d n v)
    same_level = record {
      frames = frames_here;
      for_frames = visits_here;
      tree = λ room x below e. alike_tree P l h g says tells m n u v same l.nodes room x below e;
      for_tree = same_visited P m n u v same;
      good = λ room x. good_tree l h m says same.good l.nodes room x;
    }

  pub same_at_depth : (d : ℕ) → SameMeaning P (meaning l h d) (meaning l g d) (visits l h d) (visits l g d)
  unfolding meaning visits
  same_at_depth zero = same_level zero bottom bottom no_visits no_visits same_bottom
  same_at_depth (suc d) = same_level (suc d) (meaning l h d) (meaning l g d) (visits l h d) (visits l g d) (same_at_depth d)

  -- ---- the stage

  module _ (rule other : Path → Bool) (e : Element) (p : Path) (loads : (j : ℕ) → j < length (e ∷ p) → other (take (suc j) (e ∷ p)) ≡ rule (take (suc j) (e ∷ p))) where
    tree_at : (x : Node) → Below x.path → Each P ((visits l h l.depth).for_tree (tree_of l h x)) → tree_of l g x ≡ tree_of l h x
    tree_at x below seen = (same_at_depth l.depth).tree l.nodes x below seen

    same_frames : Each P (visited_along l (tree_of l h) (visits l h l.depth).for_tree rule (bare_node Root (e ∷ p) [] l.depth identity) (length (e ∷ p)))
        → frames_along l (tree_of l g) other (bare_node Root (e ∷ p) [] l.depth identity) (length (e ∷ p)) ≡ frames_along l (tree_of l h) rule (bare_node Root (e ∷ p) [] l.depth identity) (length (e ∷ p))
    same_frames seen =
        alike_frames l P (tree_of l h) (tree_of l g) (visits l h l.depth).for_tree (visits l g l.depth).for_tree tree_at (same_at_depth l.depth).for_tree
        rule other (bare_node Root (e ∷ p) [] l.depth identity) tt (length (e ∷ p)) loads seen

    pub same_stage_tree : Each P (stage_visits l h rule (e ∷ p)) → stage_tree l g other (e ∷ p) ≡ stage_tree l h rule (e ∷ p)
    same_stage_tree seen =
        let x : Node = bare_node Root (e ∷ p) [] l.depth identity in
        let before : List Node = visited_along l (tree_of l h) (visits l h l.depth).for_tree rule x (length (e ∷ p)) in
        let last : List Node = (visits l h l.depth).for_tree (stage_tree l h rule (e ∷ p)) in
        ap (λ (fs : List Frame). tree_of l g (record x { frames = fs })) (same_frames (front_of P before last seen))
        ∙ tree_at (stage_node l h rule (e ∷ p)) tt (back_of P before last seen)

    pub same_stage_visits : Each P (stage_visits l h rule (e ∷ p)) → stage_visits l g other (e ∷ p) ≡ stage_visits l h rule (e ∷ p)
    same_stage_visits seen =
        let x : Node = bare_node Root (e ∷ p) [] l.depth identity in
        let before : List Node = visited_along l (tree_of l h) (visits l h l.depth).for_tree rule x (length (e ∷ p)) in
        let last : List Node = (visits l h l.depth).for_tree (stage_tree l h rule (e ∷ p)) in
        let first : visited_along l (tree_of l g) (visits l g l.depth).for_tree other x (length (e ∷ p)) ≡ before =
        alike_along l P (tree_of l h) (tree_of l g) (visits l h l.depth).for_tree (visits l g l.depth).for_tree tree_at (same_at_depth l.depth).for_tree
        rule other x tt (length (e ∷ p)) loads (front_of P before last seen) in
        let second : (visits l g l.depth).for_tree (stage_tree l h rule (e ∷ p)) ≡ last = (same_at_depth l.depth).for_tree (stage_tree l h rule (e ∷ p)) (back_of P before last seen) in
        ap (λ (y : Tree). visited_along l (tree_of l g) (visits l g l.depth).for_tree other x (length (e ∷ p)) ++ (visits l g l.depth).for_tree y) (same_stage_tree seen)
        ∙ (λ i. first i ++ second i)

    -- P holds of each node of the stage's tree
    pub covers_stage : Each P (stage_visits l h rule (e ∷ p)) → InTree (AndBelow P) (stage_tree l h rule (e ∷ p))
    covers_stage seen =
        let x : Node = bare_node Root (e ∷ p) [] l.depth identity in
        let before : List Node = visited_along l (tree_of l h) (visits l h l.depth).for_tree rule x (length (e ∷ p)) in
        let last : List Node = (visits l h l.depth).for_tree (stage_tree l h rule (e ∷ p)) in
        covers_at_depth P l h says l.depth l.nodes (stage_node l h rule (e ∷ p)) refl tt (back_of P before last seen)
