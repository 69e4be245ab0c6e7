-- What is gathered for a tree is what is read at the nodes that are visited for it.
use Rattle.std.proofs.Common.{◌≡◌, ◌⊎◌, inl, inr, refl, sym, ap, subst, ◌∙◌, ℕ, zero, suc, ◌-◌, Bool, true, false, List, [], ◌∷◌, ◌++◌, map, flat_map, take, length, arith}
use Rattle.std.specs.List.{Contains}
use Rattle.path_maps.specs.declared.kind.ArcKind.TheVariants.{Variant}
use Rattle.sdf_values.specs.Scales.{Offset, composed}
use Rattle.composition.specs.Arcs.{same_kind}
use Rattle.composition.specs.Paths.{Path, Limits, limits, up}
use Rattle.composition.specs.World.{World, StackName}
use Rattle.composition.specs.Nodes.{Node, Here, Frame, bare, bare_node, child_chain}
use Rattle.composition.specs.Trees.{Tree, node, Trees, none, cut, child, Branch, Meaning, tree_with}
use Rattle.composition.specs.Compose.{tree_in_round, round, decides_nothing, frames_along, bottom, meaning}
use Rattle.composition.specs.Keys.{keys_at}
use Rattle.composition.specs.Visits.{Visits, for_ancestors, visited, visited_among, visited_in_rounds, visited_along, no_visits, visits_at, visits}
use Rattle.layer_set.specs.declared.key.Key.{Key}
use Rattle.node_branches.specs.Children.{above_target, node_at, node_in_round}
use Rattle.prim_trees.specs.Meant.{Led}
use Rattle.prim_index.specs.Reading.{said}
use Rattle.prim_index.specs.Depths.{deeper, tree_below, full_tree, frames_below, round_below}
use Rattle.prim_reads.specs.Gathered.{Gathers, nothing_gathered, for_child, for_tree, for_rounds, for_names, at_depth, gathers, gathers_below, node_keys, led_of, tree_keys, rounds_keys}
use Rattle.prim_reads.specs.Reads.{key_in}
use Rattle.prim_reads.proofs.AtNodes.{node_same}
use Rattle.prim_reads.proofs.Same.{Same, itself, joined, through, same_list, parts_append}
use Rattle.prim_reads.proofs.Told.{IfVariant, IsTold, AreTold, told_tree}

module _ (w : World) where
  -- the keys that are read at a node, and at nodes
  abbrev pub read_at : Node → List Key
  read_at n = map key_in (keys_at limits w n)

  abbrev pub read_at_all : List Node → List Key
  read_at_all ns = flat_map read_at ns

  pub same_append : (xs ys : List Node) (us vs : List Key) → Same us (read_at_all xs) → Same vs (read_at_all ys) → Same (us ++ vs) (read_at_all (xs ++ ys))
  same_append xs ys us vs s t =
      through (us ++ vs) (read_at_all xs ++ read_at_all ys) (read_at_all (xs ++ ys)) (joined us vs (read_at_all xs) (read_at_all ys) s t)
      (same_list (read_at_all xs ++ read_at_all ys) (read_at_all (xs ++ ys)) (sym (parts_append read_at xs ys)))

  -- what is gathered is what is read at the nodes that are visited, for the prims above a target and for a tree of which all is told
  pub record Agrees (d : ℕ) (Below : Tree → Type 0) (g : Gathers w) (u : Visits) : Type 0 where
    pub frames : (s : StackName) (p : Path) (chain : List (StackName × Path)) (o : Offset) → Same (g.for_frames (bare_node s p chain d o)) (read_at_all (u.for_frames s p chain o))
    pub tree : (t : Tree) → Below t → Same (g.for_tree t) (read_at_all (u.for_tree t))

  module _ (d : ℕ) (Below : Tree → Type 0) (g : Gathers w) (u : Visits) (agrees : Agrees d Below g u) where
    for_target : (n : Node) (b : Branch) → Same (g.for_frames (above_target d n b)) (read_at_all (for_ancestors u n b))
    unfolding above_target
    for_target n b = agrees.frames b.lead.stack (up b.lead.target 1) (child_chain n b.level) (composed b.lead.offset n.offset)

    one_child : (Variants : Tree → Type 0) (variant : Tree → List Key) → ((t : Tree) → Variants t → Same (variant t) (read_at_all (visited u t))) → (n : Node) (b : Branch) (t : Tree) (c : Bool)
        → IfVariant c (Variants t) (Below t)
        → Same (elim c as (λ _. List Key) [ true ↦ variant t | false ↦ g.for_frames (above_target d n b) ++ g.for_tree t ])
        (read_at_all (elim c as (λ _. List Node) [ true ↦ visited u t | false ↦ for_ancestors u n b ++ u.for_tree t ]))
    one_child Variants variant deep n b t true told = deep t told
    one_child Variants variant deep n b t false told =
        same_append (for_ancestors u n b) (u.for_tree t) (g.for_frames (above_target d n b)) (g.for_tree t) (for_target n b) (agrees.tree t told)

    some_children : (Variants : Tree → Type 0) (variant : Tree → List Key) → ((t : Tree) → Variants t → Same (variant t) (read_at_all (visited u t))) → (n : Node) (ts : Trees)
        → AreTold (said limits w) Below Variants ts → Same (flat_map (for_child w g d variant n) (led_of ts)) (read_at_all (visited_among u n ts))
    some_children Variants variant deep n none told = itself []
    some_children Variants variant deep n cut told = itself []
    some_children Variants variant deep n (child b t ts) told =
        same_append (elim (same_kind Variant b.kind) as (λ _. List Node) [ true ↦ visited u t | false ↦ for_ancestors u n b ++ u.for_tree t ]) (visited_among u n ts)
        (for_child w g d variant n (b, t)) (flat_map (for_child w g d variant n) (led_of ts))
        (one_child Variants variant deep n b t (same_kind Variant b.kind) told.0) (some_children Variants variant deep n ts told.1)

    one_node : (Variants : Tree → Type 0) (variant : Tree → List Key) → ((t : Tree) → Variants t → Same (variant t) (read_at_all (visited u t))) → (n : Node) (x : Here) (own lifted : Trees)
        → (x ≡ said limits w n) × AreTold (said limits w) Below Variants own × AreTold (said limits w) Below Variants lifted
        → Same (node_keys w n x ++ (flat_map (for_child w g d variant n) (led_of own) ++ flat_map (for_child w g d variant n) (led_of lifted)))
        (read_at_all (visited u (node n x own lifted)))
    one_node Variants variant deep n x own lifted told =
        let here : Same (node_keys w n x) (read_at n) = subst (λ (y : Here). Same (node_keys w n y) (read_at n)) (sym told.0) (node_same w n) in
        joined (node_keys w n x) (flat_map (for_child w g d variant n) (led_of own) ++ flat_map (for_child w g d variant n) (led_of lifted))
        (read_at n) (read_at_all (visited_among u n own ++ visited_among u n lifted)) here
        (same_append (visited_among u n own) (visited_among u n lifted) (flat_map (for_child w g d variant n) (led_of own)) (flat_map (for_child w g d variant n) (led_of lifted))
        (some_children Variants variant deep n own told.1) (some_children Variants variant deep n lifted told.2))

    pub one_tree : (s : ℕ) (t : Tree) → IsTold (said limits w) Below s t → Same (for_tree w g d s t) (read_at_all (visited u t))
    one_tree zero (node n x own lifted) told = one_node (λ t. ⊥) (λ t. []) (λ t none. absurd none) n x own lifted told
    one_tree (suc s) (node n x own lifted) told = one_node (IsTold (said limits w) Below s) (for_tree w g d s) (one_tree s) n x own lifted told

  -- ---- rounds and frames, where all is told of the trees of a depth

  module _ (d : ℕ) (seen : Tree → List Key) (visit : Tree → List Node) (same : (n : Node) → Same (seen (full_tree limits (said limits w) d n)) (read_at_all (visit (full_tree limits (said limits w) d n)))) where
    after_round : (c : Bool) (keys : List Key) (nodes : List Node) → Same keys (read_at_all nodes)
        → Same (elim c as (λ _. List Key) [ true ↦ [] | false ↦ keys ]) (read_at_all (elim c as (λ _. List Node) [ true ↦ [] | false ↦ nodes ]))
    after_round true keys nodes s = itself []
    after_round false keys nodes s = s

    pub some_rounds : (k : ℕ) (n : Node) (above : List Frame) (f : Frame)
        → Same (for_rounds w seen d k n above f) (read_at_all (visited_in_rounds limits (full_tree limits (said limits w) d) visit k n above f))
    unfolding node_in_round round_below
    some_rounds zero n above f = itself []
    some_rounds (suc k) n above f =
        let x : Node = record n { frames = (record f { overgrown = false }) ∷ above } in
        let next : Frame = round limits (full_tree limits (said limits w) d) n above f in
        same_append (visit (full_tree limits (said limits w) d x))
        (elim (decides_nothing f next) as (λ _. List Node) [ true ↦ [] | false ↦ visited_in_rounds limits (full_tree limits (said limits w) d) visit k n above next ])
        (seen (full_tree limits (said limits w) d x)) (elim (decides_nothing f next) as (λ _. List Key) [ true ↦ [] | false ↦ for_rounds w seen d k n above next ])
        (same x) (after_round (decides_nothing f next) (for_rounds w seen d k n above next) (visited_in_rounds limits (full_tree limits (said limits w) d) visit k n above next) (some_rounds k n above next))

    pub some_names : (loaded : Path → Bool) (n : Node) (k : ℕ)
        → Same (for_names w seen d loaded n k) (read_at_all (visited_along limits (full_tree limits (said limits w) d) visit loaded n k))
    unfolding node_at frames_below
    some_names loaded n zero = itself []
    some_names loaded n (suc k) =
        let q : Path = take (suc k) n.path in
        let above : List Frame = frames_along limits (full_tree limits (said limits w) d) loaded n k in
        same_append (visited_along limits (full_tree limits (said limits w) d) visit loaded n k)
        (visited_in_rounds limits (full_tree limits (said limits w) d) visit 16 (record n { path = q }) above (record bare { loaded = loaded q }))
        (for_names w seen d loaded n k) (for_rounds w seen d 16 (record n { path = q }) above (record bare { loaded = loaded q }))
        (some_names loaded n k) (some_rounds 16 (record n { path = q }) above (record bare { loaded = loaded q }))

  -- ---- depths

  abbrev h : Node → Here
  h = said limits w

  -- of a tree of a depth all is told
  unfoldable IsWhole : ℕ → Tree → Type 0
  IsWhole zero t = IsTold h (λ x. Unit {0}) 4096 t
  IsWhole (suc d) t = IsTold h (IsWhole d) 4096 t

  unfoldable IsDeeperWhole : ℕ → Tree → Type 0
  IsDeeperWhole zero t = Unit {0}
  IsDeeperWhole (suc d) t = IsWhole d t

  unfoldable visits_below : ℕ → Visits
  visits_below zero = no_visits
  visits_below (suc d) = visits limits h d

  pub gathers_is : (d : ℕ) → gathers w d ≡ at_depth w d (gathers_below w d)
  unfolding gathers gathers_below
  gathers_is zero = refl
  gathers_is (suc d) = refl

  visits_is : (d : ℕ) → visits limits h d ≡ visits_at limits h d (deeper limits h d) (visits_below d)
  unfolding visits visits_below deeper
  visits_is zero = refl
  visits_is (suc d) = refl

  pub meaning_is : (d room : ℕ) (n : Node) → (meaning limits h d).tree room n ≡ tree_with limits h (deeper limits h d) 4096 room n
  unfolding meaning deeper
  meaning_is zero room n = refl
  meaning_is (suc d) room n = refl

  whole_is : (d : ℕ) (t : Tree) → IsTold h (IsDeeperWhole d) 4096 t → IsWhole d t
  unfolding IsWhole IsDeeperWhole
  whole_is zero t told = told
  whole_is (suc d) t told = told

  is_whole : (d : ℕ) (t : Tree) → IsWhole d t → IsTold h (IsDeeperWhole d) 4096 t
  unfolding IsWhole IsDeeperWhole
  is_whole zero t told = told
  is_whole (suc d) t told = told

  whole_deeper : (d room : ℕ) (n : Node) → IsDeeperWhole d ((deeper limits h d).tree room n)
  unfolding IsDeeperWhole deeper
  whole_deeper zero room n = tt
  whole_deeper (suc d) room n =
      subst (λ (t : Tree). IsWhole d t) (sym (meaning_is d room n))
      (whole_is d (tree_with limits h (deeper limits h d) 4096 room n) (told_tree h (IsDeeperWhole d) limits (deeper limits h d) (whole_deeper d) 4096 room n))

  told_full : (d : ℕ) (n : Node) → IsTold h (IsDeeperWhole d) 4096 (full_tree limits h d n)
  unfolding full_tree tree_below
  told_full d n = told_tree h (IsDeeperWhole d) limits (deeper limits h d) (whole_deeper d) 4096 4096 n

  none_agree : Agrees (0 - 1) (IsDeeperWhole 0) (gathers_below w 0) (visits_below 0)
  unfolding gathers_below visits_below
  none_agree = record { frames = λ s p chain o. itself []; tree = λ t told. itself [] }

  module _ (d : ℕ) (below : Agrees (d - 1) (IsDeeperWhole d) (gathers_below w d) (visits_below d)) where
    -- for a tree of this depth
    seen_same : (t : Tree) → IsTold h (IsDeeperWhole d) 4096 t → Same (for_tree w (gathers_below w d) (d - 1) 4096 t) (read_at_all (visited (visits_below d) t))
    seen_same t told = one_tree (d - 1) (IsDeeperWhole d) (gathers_below w d) (visits_below d) below 4096 t told

    at_this_depth : Agrees d (IsWhole d) (at_depth w d (gathers_below w d)) (visits_at limits h d (deeper limits h d) (visits_below d))
    unfolding full_tree tree_below
    at_this_depth = record {
      frames = λ s p chain o. some_names d (for_tree w (gathers_below w d) (d - 1) 4096) (visited (visits_below d)) (λ n. seen_same (full_tree limits h d n) (told_full d n)) (λ q. true) (bare_node s p chain d o) (length p);
      tree = λ t told. seen_same t (is_whole d t told);
    }

    one_depth : Agrees d (IsWhole d) (gathers w d) (visits limits h d)
    one_depth =
        subst (λ (g : Gathers w). Agrees d (IsWhole d) g (visits limits h d)) (sym (gathers_is d))
        (subst (λ (u : Visits). Agrees d (IsWhole d) (at_depth w d (gathers_below w d)) u) (sym (visits_is d)) at_this_depth)

  one_deeper : (d : ℕ) → Agrees d (IsWhole d) (gathers w d) (visits limits h d) → Agrees (suc d - 1) (IsDeeperWhole (suc d)) (gathers_below w (suc d)) (visits_below (suc d))
  unfolding IsDeeperWhole gathers_below visits_below
  one_deeper d agrees = let e : d ≡ suc d - 1 = omega arith in subst (λ (k : ℕ). Agrees k (IsWhole d) (gathers w d) (visits limits h d)) e agrees

  agrees_below : (d : ℕ) → Agrees (d - 1) (IsDeeperWhole d) (gathers_below w d) (visits_below d)
  agrees_below zero = none_agree
  agrees_below (suc d) = one_deeper d (one_depth d (agrees_below d))

  -- ---- what the code gathers

  seen_is : (d : ℕ) (t : Tree) → (visits limits h d).for_tree t ≡ visited (visits_below d) t
  seen_is d t = ap (λ (u : Visits). u.for_tree t) (visits_is d)

  -- for a tree of a depth
  pub tree_read : (d : ℕ) (n : Node) → Same (tree_keys w d 4096 (full_tree limits h d n)) (read_at_all ((visits limits h d).for_tree (full_tree limits h d n)))
  unfolding tree_keys
  tree_read d n =
      through (for_tree w (gathers_below w d) (d - 1) 4096 (full_tree limits h d n)) (read_at_all (visited (visits_below d) (full_tree limits h d n)))
      (read_at_all ((visits limits h d).for_tree (full_tree limits h d n))) (seen_same d (agrees_below d) (full_tree limits h d n) (told_full d n))
      (same_list (read_at_all (visited (visits_below d) (full_tree limits h d n))) (read_at_all ((visits limits h d).for_tree (full_tree limits h d n)))
      (ap read_at_all (sym (seen_is d (full_tree limits h d n)))))

  -- for rounds of choices
  pub rounds_read : (d k : ℕ) (n : Node) (above : List Frame) (f : Frame)
      → Same (rounds_keys w d k n above f) (read_at_all (visited_in_rounds limits (full_tree limits h d) (visits limits h d).for_tree k n above f))
  unfolding rounds_keys
  rounds_read d k n above f = some_rounds d (tree_keys w d 4096) (visits limits h d).for_tree (tree_read d) k n above f
