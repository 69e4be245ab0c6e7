-- What each step of the code makes of the definitions of what is gathered.
use Rattle.std.proofs.Common.{◌≡◌, refl, sym, ap, ◌∙◌, ℕ, zero, suc, ◌+◌, ◌-◌, ◌<◌, ◌==◌, Bool, true, false, List, [], ◌∷◌, ◌++◌, map, flat_map, take, length, arith}
use Rattle.std.proofs.lemmas.List.{append_assoc, append-nil}
use Rattle.path_maps.specs.declared.kind.ArcKind.TheVariants.{Variant}
use Rattle.sdf_values.specs.Scales.{Offset}
use Rattle.composition.specs.Arcs.{same_kind}
use Rattle.composition.specs.Paths.{Path, limits, up, levels, below, levels_of}
use Rattle.composition.specs.Texts.{Text}
use Rattle.composition.specs.World.{World, StackName, Asset}
use Rattle.composition.specs.Stacks.{LayerStack}
use Rattle.composition.specs.Nodes.{Node, Here, Frame, bare}
use Rattle.composition.specs.Trees.{Tree, node, Trees, none, cut, child, nodes_of, nodes_among}
use Rattle.composition.specs.Compose.{decides_nothing}
use Rattle.layer_set.specs.LookUps.{heading_of}
use Rattle.layer_set.specs.Worlds.{is_present}
use Rattle.layer_set.specs.declared.held.Held.{Held}
use Rattle.layer_set.specs.declared.held.Held.TheVariants.{Present, Absent, Broken}
use Rattle.layer_set.specs.declared.key.Key.{Key}
use Rattle.layer_set.specs.declared.key.Key.TheVariants.{Head}
use Rattle.layer_stack.specs.Meant.{defined_stack, each_once}
use Rattle.layer_stack.proofs.Meaning.{meant_is_one}
use Rattle.node_branches.specs.Children.{above_target, node_at, node_in_round}
use Rattle.prim_trees.specs.declared.tree.Child.{Child}
use Rattle.prim_trees.specs.declared.tree.Tree.{Tree as Built, out-Tree}
use Rattle.prim_trees.specs.Meant.{Led, all_of, led, meant, trees_of}
use Rattle.prim_trees.specs.Unfolded.{meant_is}
use Rattle.prim_index.specs.Depths.{tree_below, full_tree, frames_below, round_below}
use Rattle.prim_index.specs.Loading.{loads}
use Rattle.prim_index.specs.declared.grow.Payloads.TheVariants.{All}
use Rattle.prim_index.specs.Reading.{said}
use Rattle.prim_reads.specs.Gathered.{Gathers, arcs_of, asked_heads, heads_if_there, stack_keys, first_levels, level_arcs, led_of, for_child, for_tree, for_rounds, for_names, gathers, gathers_below, node_keys, tree_keys, variant_keys, child_keys, children_keys, rounds_keys, names_keys, bodies_at, nodes_bodies, led_bodies}
use Rattle.prim_reads.proofs.Gathers.{gathers_is}
use Rattle.prim_reads.proofs.Same.{parts_append}

led_listed : (cs : List Led) (is_cut : Bool) → led_of (all_of cs is_cut) ≡ cs
led_listed [] true = refl
led_listed [] false = refl
led_listed (c ∷ cs) is_cut = ap (λ (xs : List Led). c ∷ xs) (led_listed cs is_cut)

-- ---- levels

first_none : (layers : List (Text × Offset)) (p : Path) → first_levels layers p 0 ≡ []
unfolding first_levels
first_none layers p = refl

pub first_more : (layers : List (Text × Offset)) (p : Path) (j : ℕ) → first_levels layers p (j + 1) ≡ first_levels layers p j ++ arcs_of layers (up p j)
unfolding first_levels
first_more layers p j =
    let e : j + 1 ≡ suc j = omega arith in
    ap (λ (n : ℕ). flat_map (λ i. arcs_of layers (up p i)) (below n)) e
    ∙ parts_append (λ i. arcs_of layers (up p i)) (below j) (j ∷ [])
    ∙ ap (λ (ks : List Key). flat_map (λ i. arcs_of layers (up p i)) (below j) ++ ks) (append-nil (arcs_of layers (up p j)))

pub all_levels : (layers : List (Text × Offset)) (p : Path) → level_arcs layers p ≡ first_levels layers p (levels p)
unfolding first_levels level_arcs
all_levels layers p = refl

pub level_more : (layers : List (Text × Offset)) (p at : Path) (j : ℕ) (old so_far more : List Key) → so_far ≡ old ++ first_levels layers p j → at ≡ up p j → more ≡ so_far ++ arcs_of layers at
    → more ≡ old ++ first_levels layers p (j + 1)
level_more layers p at j old so_far more before is made =
    made ∙ (λ i. before i ++ arcs_of layers (is i)) ∙ append_assoc old (first_levels layers p j) (arcs_of layers (up p j)) ∙ sym (ap (λ (ks : List Key). old ++ ks) (first_more layers p j))

pub level_start : (layers : List (Text × Offset)) (p : Path) (old : List Key) → old ≡ old ++ first_levels layers p 0
level_start layers p old = sym (append-nil old) ∙ sym (ap (λ (ks : List Key). old ++ ks) (first_none layers p))

pub level_end : (layers : List (Text × Offset)) (p : Path) (j n : ℕ) (old out : List Key) → out ≡ old ++ first_levels layers p j → j ≡ n → n ≡ levels p → out ≡ old ++ level_arcs layers p
level_end layers p j n old out so_far last many =
    so_far ∙ ap (λ (k : ℕ). old ++ first_levels layers p k) (last ∙ many) ∙ sym (ap (λ (ks : List Key). old ++ ks) (all_levels layers p))

-- ---- lists that were appended to

pub two_parts : (old a b first new : List Key) → first ≡ old ++ a → new ≡ first ++ b → new ≡ old ++ (a ++ b)
two_parts old a b first new one two = two ∙ ap (λ (ks : List Key). ks ++ b) one ∙ append_assoc old a b

pub three_parts : (old a b c first second new : List Key) → first ≡ old ++ a → second ≡ first ++ b → new ≡ second ++ c → new ≡ old ++ (a ++ (b ++ c))
three_parts old a b c first second new one two three =
    three ∙ ap (λ (ks : List Key). ks ++ c) (two_parts old a b first second one two) ∙ append_assoc old (a ++ b) c ∙ ap (λ (ks : List Key). old ++ ks) (append_assoc a b c)

pub nothing_more : (old new part : List Key) → new ≡ old → part ≡ [] → new ≡ old ++ part
nothing_more old new part same blank = same ∙ sym (append-nil old) ∙ sym (ap (λ (ks : List Key). old ++ ks) blank)

-- ---- heads

pub there_present : (w : World) (name : Text) (h : Held) → is_present h ≡ true → heads_if_there w name (heading_of h) ≡ asked_heads w (Asset name)
unfolding asked_heads
there_present w name (Present layer) on = ap (λ (s : LayerStack). map Head (each_once s.asked)) (meant_is_one w (Asset name))
there_present w name Absent on = absurd cc
there_present w name (Broken refusal) on = absurd cc

-- the arcs and the heads of a stack
pub stack_told : (w : World) (n : Node) (layers : List (Text × Offset)) (asked : List Text) (old first new : List Key) → layers ≡ (defined_stack w n.stack).layers
    → asked ≡ each_once (defined_stack w n.stack).asked → first ≡ old ++ level_arcs layers n.path → new ≡ first ++ map Head asked → new ≡ old ++ stack_keys w n
unfolding stack_keys asked_heads
stack_told w n layers asked old first new lists asks one two =
    two_parts old (level_arcs (defined_stack w n.stack).layers n.path) (map Head (each_once (defined_stack w n.stack).asked)) first new
    (one ∙ ap (λ (ls : List (Text × Offset)). old ++ level_arcs ls n.path) lists) (two ∙ ap (λ (names : List Text). first ++ map Head names) asks)

-- all names above a target are loaded
pub all_loaded : (w : World) → ◌≡◌ {A = Path → Bool} (loads w All) (λ q. true)
unfolding loads
all_loaded w = refl

pub full_is : (w : World) (d nodes : ℕ) (n there : Node) (t : Tree) → nodes ≡ 4096 → there ≡ n → t ≡ tree_below limits (said limits w) d nodes nodes there → t ≡ full_tree limits (said limits w) d n
unfolding full_tree
full_is w d nodes n there t most stands made = made ∙ (λ i. tree_below limits (said limits w) d (most i) (most i) (stands i))

-- ---- trees

module _ (w : World) where
  opened : (d steps : ℕ) (n : Node) (x : Here) (own lifted : Trees)
      → tree_keys w d steps (node n x own lifted) ≡ node_keys w n x ++ (children_keys w d steps n (led_of own) ++ children_keys w d steps n (led_of lifted))
  unfolding tree_keys children_keys child_keys variant_keys
  opened d zero n x own lifted = refl
  opened d (suc steps) n x own lifted = refl

  tree_is : (d steps : ℕ) (t : Built) → tree_keys w d steps (meant t)
      ≡ node_keys w (out-Tree t).node (out-Tree t).here
      ++ (children_keys w d steps (out-Tree t).node (map led (out-Tree t).own) ++ children_keys w d steps (out-Tree t).node (map led (out-Tree t).lifted))
  tree_is d steps t =
      ap (λ (x : Tree). tree_keys w d steps x) (meant_is t)
      ∙ opened d steps (out-Tree t).node (out-Tree t).here (trees_of (out-Tree t).own (out-Tree t).own_cut) (trees_of (out-Tree t).lifted (out-Tree t).lifted_cut)
      ∙ (λ i. node_keys w (out-Tree t).node (out-Tree t).here
      ++ (children_keys w d steps (out-Tree t).node (led_listed (map led (out-Tree t).own) (out-Tree t).own_cut i)
      ++ children_keys w d steps (out-Tree t).node (led_listed (map led (out-Tree t).lifted) (out-Tree t).lifted_cut i)))

  pub tree_gathered : (d steps : ℕ) (t : Built) (old first second new : List Key) → first ≡ old ++ node_keys w (out-Tree t).node (out-Tree t).here
      → second ≡ first ++ children_keys w d steps (out-Tree t).node (map led (out-Tree t).own)
      → new ≡ second ++ children_keys w d steps (out-Tree t).node (map led (out-Tree t).lifted)
      → new ≡ old ++ tree_keys w d steps (meant t)
  tree_gathered d steps t old first second new one two three =
      three_parts old (node_keys w (out-Tree t).node (out-Tree t).here) (children_keys w d steps (out-Tree t).node (map led (out-Tree t).own))
      (children_keys w d steps (out-Tree t).node (map led (out-Tree t).lifted)) first second new one two three
      ∙ sym (ap (λ (ks : List Key). old ++ ks) (tree_is d steps t))

  -- ---- children

  abbrev by_kind : ℕ → ℕ → Node → Led → Bool → List Key
  by_kind d steps n c b = elim b as (λ _. List Key) [
    | true ↦ variant_keys w d steps c.1
    | false ↦ (gathers_below w d).for_frames (above_target (d - 1) n c.0) ++ (gathers_below w d).for_tree c.1
  ]

  child_is : (d steps : ℕ) (n : Node) (c : Led) (b : Bool) → same_kind Variant c.0.kind ≡ b → child_keys w d steps n c ≡ by_kind d steps n c b
  unfolding child_keys
  child_is d steps n c b is = ap (λ (x : Bool). by_kind d steps n c x) is

  variant_end : (d : ℕ) (t : Tree) → variant_keys w d 0 t ≡ []
  unfolding variant_keys
  variant_end d t = refl

  variant_more : (d steps : ℕ) (t : Tree) → 0 < steps → variant_keys w d steps t ≡ tree_keys w d (steps - 1) t
  unfolding variant_keys
  variant_more d zero t some = absurd (omega (arith, some))
  variant_more d (suc steps) t some = let e : suc steps - 1 ≡ steps = omega arith in ap (λ (k : ℕ). tree_keys w d k t) (sym e)

  nothing_below : (n : Node) (t : Tree) → (gathers_below w 0).for_frames n ++ (gathers_below w 0).for_tree t ≡ []
  unfolding gathers_below
  nothing_below n t = refl

  frames_at : (d : ℕ) (n : Node) → (gathers w d).for_frames n ≡ names_keys w d (λ q. true) n (length n.path)
  unfolding names_keys tree_keys
  frames_at d n = ap (λ (g : Gathers w). g.for_frames n) (gathers_is w d)

  tree_at : (d : ℕ) (t : Tree) → (gathers w d).for_tree t ≡ tree_keys w d 4096 t
  unfolding tree_keys
  tree_at d t = ap (λ (g : Gathers w). g.for_tree t) (gathers_is w d)

  deeper_is : (d : ℕ) (n : Node) (t : Tree) → (gathers_below w (suc d)).for_frames n ++ (gathers_below w (suc d)).for_tree t
      ≡ names_keys w d (λ q. true) n (length n.path) ++ tree_keys w d 4096 t
  unfolding gathers_below
  deeper_is d n t = λ i. frames_at d n i ++ tree_at d t i

  pub variant_none : (d steps : ℕ) (n : Node) (c : Led) (is : Bool) → is ≡ same_kind Variant c.0.kind → is ≡ true → steps ≡ 0 → child_keys w d steps n c ≡ []
  variant_none d steps n c is told on blank =
      child_is d steps n c true (sym told ∙ on) ∙ ap (λ (k : ℕ). variant_keys w d k c.1) blank ∙ variant_end d c.1

  pub variant_tree : (d steps : ℕ) (n : Node) (c : Led) (is : Bool) → is ≡ same_kind Variant c.0.kind → is ≡ true → 0 < steps → child_keys w d steps n c ≡ tree_keys w d (steps - 1) c.1
  variant_tree d steps n c is told on some = child_is d steps n c true (sym told ∙ on) ∙ variant_more d steps c.1 some

  pub arc_none : (d steps : ℕ) (n : Node) (c : Led) (is : Bool) → is ≡ same_kind Variant c.0.kind → is ≡ false → d ≡ 0 → child_keys w d steps n c ≡ []
  arc_none d steps n c is told off blank =
      child_is d steps n c false (sym told ∙ off)
      ∙ ap (λ (k : ℕ). (gathers_below w k).for_frames (above_target (k - 1) n c.0) ++ (gathers_below w k).for_tree c.1) blank
      ∙ nothing_below (above_target (0 - 1) n c.0) c.1

  pub arc_tree : (d steps : ℕ) (n : Node) (c : Led) (is : Bool) → is ≡ same_kind Variant c.0.kind → is ≡ false → 0 < d
      → child_keys w d steps n c ≡ names_keys w (d - 1) (λ q. true) (above_target (d - 1) n c.0) (length (above_target (d - 1) n c.0).path) ++ tree_keys w (d - 1) 4096 c.1
  arc_tree zero steps n c is told off some = absurd (omega (arith, some))
  arc_tree (suc d) steps n c is told off some =
      let e : d ≡ suc d - 1 = omega arith in
      child_is (suc d) steps n c false (sym told ∙ off) ∙ deeper_is d (above_target (suc d - 1) n c.0) c.1
      ∙ ap (λ (k : ℕ). names_keys w k (λ q. true) (above_target (suc d - 1) n c.0) (length (above_target (suc d - 1) n c.0).path) ++ tree_keys w k 4096 c.1) e

  -- ---- frames and rounds

  names_zero : (d : ℕ) (loaded : Path → Bool) (n : Node) → names_keys w d loaded n 0 ≡ []
  unfolding names_keys
  names_zero d loaded n = refl

  pub names_none : (d : ℕ) (loaded : Path → Bool) (n : Node) (k : ℕ) → k ≡ 0 → names_keys w d loaded n k ≡ []
  names_none d loaded n k blank = ap (λ (i : ℕ). names_keys w d loaded n i) blank ∙ names_zero d loaded n

  pub names_more : (d : ℕ) (loaded : Path → Bool) (n : Node) (k : ℕ) → 0 < k
      → names_keys w d loaded n k
      ≡ names_keys w d loaded n (k - 1) ++ rounds_keys w d 16 (node_at (take k n.path) n) (frames_below limits (said limits w) d loaded n (k - 1)) (record bare { loaded = loaded (take k n.path) })
  unfolding names_keys rounds_keys
  names_more d loaded n zero some = absurd (omega (arith, some))
  names_more d loaded n (suc k) some =
      let e : k ≡ suc k - 1 = omega arith in
      ap (λ (i : ℕ). names_keys w d loaded n i ++ rounds_keys w d 16 (node_at (take (suc k) n.path) n) (frames_below limits (said limits w) d loaded n i) (record bare { loaded = loaded (take (suc k) n.path) })) e

  rounds_zero : (d : ℕ) (n : Node) (above : List Frame) (f : Frame) → rounds_keys w d 0 n above f ≡ []
  unfolding rounds_keys
  rounds_zero d n above f = refl

  pub rounds_none : (d : ℕ) (n : Node) (above : List Frame) (f : Frame) (k : ℕ) → k ≡ 0 → rounds_keys w d k n above f ≡ []
  rounds_none d n above f k blank = ap (λ (i : ℕ). rounds_keys w d i n above f) blank ∙ rounds_zero d n above f

  abbrev after_round : ℕ → ℕ → Node → List Frame → Frame → Frame → Bool → List Key
  after_round d k n above f g b =
      tree_keys w d 4096 (full_tree limits (said limits w) d (node_in_round n above f)) ++ elim b as (λ _. List Key) [ true ↦ [] | false ↦ rounds_keys w d k n above g ]

  rounds_suc : (d k : ℕ) (n : Node) (above : List Frame) (f : Frame)
      → rounds_keys w d (suc k) n above f ≡ after_round d k n above f (round_below limits (said limits w) d n above f) (decides_nothing f (round_below limits (said limits w) d n above f))
  unfolding rounds_keys
  rounds_suc d k n above f = refl

  pub rounds_last : (d k : ℕ) (n : Node) (above : List Frame) (f g : Frame) → 0 < k → g ≡ round_below limits (said limits w) d n above f → decides_nothing f g ≡ true
      → rounds_keys w d k n above f ≡ tree_keys w d 4096 (full_tree limits (said limits w) d (node_in_round n above f)) ++ []
  rounds_last d zero n above f g some is stops = absurd (omega (arith, some))
  rounds_last d (suc k) n above f g some is stops =
      rounds_suc d k n above f ∙ ap (λ (x : Frame). after_round d k n above f x (decides_nothing f x)) (sym is) ∙ ap (after_round d k n above f g) stops

  pub rounds_next : (d k : ℕ) (n : Node) (above : List Frame) (f g : Frame) → 0 < k → g ≡ round_below limits (said limits w) d n above f → decides_nothing f g ≡ false
      → rounds_keys w d k n above f ≡ tree_keys w d 4096 (full_tree limits (said limits w) d (node_in_round n above f)) ++ rounds_keys w d (k - 1) n above g
  rounds_next d zero n above f g some is goes = absurd (omega (arith, some))
  rounds_next d (suc k) n above f g some is goes =
      let e : k ≡ suc k - 1 = omega arith in
      rounds_suc d k n above f ∙ ap (λ (x : Frame). after_round d k n above f x (decides_nothing f x)) (sym is) ∙ ap (after_round d k n above f g) goes
      ∙ ap (λ (i : ℕ). tree_keys w d 4096 (full_tree limits (said limits w) d (node_in_round n above f)) ++ rounds_keys w d i n above g) e

  -- ---- what the calls append

  pub frames_read : (d k : ℕ) (n m : Node) (old new : List Key) → n ≡ m → k ≡ length n.path → new ≡ old ++ names_keys w d (loads w All) n k → new ≡ old ++ names_keys w d (λ q. true) m (length m.path)
  frames_read d k n m old new stands counted made =
      made ∙ (λ i. old ++ names_keys w d (all_loaded w i) n (counted i)) ∙ ap (λ (x : Node). old ++ names_keys w d (λ q. true) x (length x.path)) stands

  pub names_by : (d k : ℕ) (loaded : Path → Bool) (n there : Node) (above : List Frame) (path : Path) (first : Frame) (on : Bool) (old mid new : List Key) → 0 < k
      → above ≡ frames_below limits (said limits w) d loaded n (k - 1) → path ≡ take k n.path → on ≡ loaded path → first ≡ record bare { loaded = on } → there ≡ node_at path n
      → mid ≡ old ++ names_keys w d loaded n (k - 1) → new ≡ mid ++ rounds_keys w d 16 there above first → new ≡ old ++ names_keys w d loaded n k
  names_by d k loaded n there above path first on old mid new some up at told began stands one two =
      let begins : first ≡ record bare { loaded = loaded (take k n.path) } = began ∙ ap (λ (b : Bool). let r : Frame = record bare { loaded = b } in r) (told ∙ ap loaded at) in
      two_parts old (names_keys w d loaded n (k - 1))
      (rounds_keys w d 16 (node_at (take k n.path) n) (frames_below limits (said limits w) d loaded n (k - 1)) (record bare { loaded = loaded (take k n.path) })) mid new one
      (two ∙ (λ i. mid ++ rounds_keys w d 16 ((stands ∙ ap (λ (p : Path). node_at p n) at) i) (up i) (begins i)))
      ∙ sym (ap (λ (ks : List Key). old ++ ks) (names_more d loaded n k some))

  pub round_read : (d nodes : ℕ) (n there : Node) (above : List Frame) (f : Frame) (t : Tree) (old new : List Key) → nodes ≡ 4096 → there ≡ node_in_round n above f
      → t ≡ tree_below limits (said limits w) d nodes nodes there → new ≡ old ++ tree_keys w d nodes t → new ≡ old ++ tree_keys w d 4096 (full_tree limits (said limits w) d (node_in_round n above f))
  round_read d nodes n there above f t old new most stands made told =
      told ∙ (λ i. old ++ tree_keys w d (most i) (full_is w d nodes (node_in_round n above f) there t most stands made i))

  settled_is : (count : ℕ) (f g : Frame) (settled on : Bool) → count ≡ length f.choices → settled ≡ (length g.choices == count) → settled ≡ on → decides_nothing f g ≡ on
  settled_is count f g settled on counted told is = ap (λ (k : ℕ). length g.choices == k) (sym counted) ∙ sym told ∙ is

  pub rounds_ended : (d k count : ℕ) (n : Node) (above : List Frame) (f g : Frame) (settled : Bool) (old new : List Key) → 0 < k → g ≡ round_below limits (said limits w) d n above f
      → count ≡ length f.choices → settled ≡ (length g.choices == count) → settled ≡ true
      → new ≡ old ++ tree_keys w d 4096 (full_tree limits (said limits w) d (node_in_round n above f)) → new ≡ old ++ rounds_keys w d k n above f
  rounds_ended d k count n above f g settled old new some is counted told on made =
      made
      ∙ sym (ap (λ (ks : List Key). old ++ ks)
      (rounds_last d k n above f g some is (settled_is count f g settled true counted told on) ∙ append-nil (tree_keys w d 4096 (full_tree limits (said limits w) d (node_in_round n above f)))))

  pub rounds_gone_on : (d k count : ℕ) (n : Node) (above : List Frame) (f g : Frame) (settled : Bool) (old mid new : List Key) → 0 < k → g ≡ round_below limits (said limits w) d n above f
      → count ≡ length f.choices → settled ≡ (length g.choices == count) → settled ≡ false
      → mid ≡ old ++ tree_keys w d 4096 (full_tree limits (said limits w) d (node_in_round n above f)) → new ≡ mid ++ rounds_keys w d (k - 1) n above g → new ≡ old ++ rounds_keys w d k n above f
  rounds_gone_on d k count n above f g settled old mid new some is counted told off one two =
      two_parts old (tree_keys w d 4096 (full_tree limits (said limits w) d (node_in_round n above f))) (rounds_keys w d (k - 1) n above g) mid new one two
      ∙ sym (ap (λ (ks : List Key). old ++ ks) (rounds_next d k n above f g some is (settled_is count f g settled false counted told off)))

  -- ---- bodies

  bodies_among : (ts : Trees) → flat_map (λ m. bodies_at w m.stack m.path) (nodes_among ts) ≡ led_bodies w (led_of ts)
  unfolding nodes_bodies led_bodies
  bodies_among none = refl
  bodies_among cut = refl
  bodies_among (child b t ts) =
      parts_append (λ m. bodies_at w m.stack m.path) (nodes_of t) (nodes_among ts) ∙ ap (λ (ks : List Key). flat_map (λ m. bodies_at w m.stack m.path) (nodes_of t) ++ ks) (bodies_among ts)

  bodies_opened : (n : Node) (x : Here) (own lifted : Trees) → nodes_bodies w (node n x own lifted) ≡ bodies_at w n.stack n.path ++ (led_bodies w (led_of own) ++ led_bodies w (led_of lifted))
  unfolding nodes_bodies
  bodies_opened n x own lifted =
      ap (λ (ks : List Key). bodies_at w n.stack n.path ++ ks)
      (parts_append (λ m. bodies_at w m.stack m.path) (nodes_among own) (nodes_among lifted) ∙ (λ i. bodies_among own i ++ bodies_among lifted i))

  pub bodies_gathered : (t : Built) (old first second new : List Key) → first ≡ old ++ bodies_at w (out-Tree t).node.stack (out-Tree t).node.path
      → second ≡ first ++ led_bodies w (map led (out-Tree t).own) → new ≡ second ++ led_bodies w (map led (out-Tree t).lifted) → new ≡ old ++ nodes_bodies w (meant t)
  bodies_gathered t old first second new one two three =
      three_parts old (bodies_at w (out-Tree t).node.stack (out-Tree t).node.path) (led_bodies w (map led (out-Tree t).own)) (led_bodies w (map led (out-Tree t).lifted)) first second new one two three
      ∙ sym (ap (λ (ks : List Key). old ++ ks)
      (ap (λ (x : Tree). nodes_bodies w x) (meant_is t)
      ∙ bodies_opened (out-Tree t).node (out-Tree t).here (trees_of (out-Tree t).own (out-Tree t).own_cut) (trees_of (out-Tree t).lifted (out-Tree t).lifted_cut)
      ∙ (λ i. bodies_at w (out-Tree t).node.stack (out-Tree t).node.path
      ++ (led_bodies w (led_listed (map led (out-Tree t).own) (out-Tree t).own_cut i) ++ led_bodies w (led_listed (map led (out-Tree t).lifted) (out-Tree t).lifted_cut i)))))
