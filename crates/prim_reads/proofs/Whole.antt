-- What a prim reads is what is gathered for its own level, and what the prim above it reads without bodies.
use Rattle.std.proofs.Common.{◌≡◌, ◌⊎◌, inl, inr, refl, sym, ap, subst, ◌∙◌, ℕ, zero, suc, Bool, true, false, true≢false, List, [], ◌∷◌, ◌++◌, map, flat_map, filter, take, length, Option, Some, None}
use Rattle.std.specs.List.{Contains, list_all}
use Rattle.std.proofs.lemmas.List.{map-append}
use Rattle.std.proofs.lemmas.List.Elements.{All-from_recursion, All-contains, Contains-append_left, Contains-append_right, Contains-append_cases}
use Rattle.sdf_paths.specs.declared.element.Element.{Element}
use Rattle.sdf_paths.specs.Paths.{is_prim_name}
use Rattle.composition.specs.Paths.{Path, limits, up, below, levels, levels_of}
use Rattle.composition.specs.World.{World, is_loaded}
use Rattle.composition.specs.Nodes.{Node, Here, Frame, here}
use Rattle.composition.specs.Stacks.{stack}
use Rattle.composition.specs.Trees.{Tree, Meaning, node_of, nodes_of, tree_with}
use Rattle.composition.specs.Compose.{stage_tree}
use Rattle.composition.specs.Faults.{Index, index_of, index}
use Rattle.composition.specs.Keys as keys
use Rattle.composition.specs.Keys.{load, head, arcs, body, asked_at, keys_at, site_bodies, visits_for, prim_reads}
use Rattle.composition.proofs.Members.{none_in, head_in, tail_in, cases_in}
use Rattle.layer_set.specs.declared.key.Key.{Key}
use Rattle.layer_set.specs.declared.key.Key.TheVariants.{Load}
use Rattle.agreeing_worlds.proofs.Covers.{plain_levels}
use Rattle.agreeing_worlds.proofs.Each.{Each, joined as each_joined, in_parts, in_map, always}
use Rattle.prim_index.specs.Reading.{said}
use Rattle.prim_index.specs.Depths.{deeper, tree_below, full_tree}
use Rattle.prim_reads.specs.Gathered.{is_no_body, without_bodies, own_rounds, own_bodies, own_keys, tree_keys}
use Rattle.prim_reads.specs.Reads.{key_in}
use Rattle.prim_reads.proofs.AtNodes.{in_kept, of_kept, bodies_by, own_bodies_are}
use Rattle.prim_reads.proofs.Gathers.{read_at, read_at_all}
use Rattle.prim_reads.proofs.Same.{Has, Same, itself, turned, through, joined, has_both, in_first, in_second, same_list, map_parts}
use Rattle.prim_reads.proofs.Stage.{visits_at_path, grown_at, stage_tree_is, nodes_read, loads_read, nodes_same, loads_same, its_node, last, above, parent}

parts_are : {A B : Type 0} (f g : A → List B) (xs : List A) → ((x : A) → f x ≡ g x) → flat_map f xs ≡ flat_map g xs
parts_are f g [] h = refl
parts_are f g (x ∷ xs) h = let rest = parts_are f g xs h in λ i. h x i ++ rest i

each_one : {A B : Type 0} (f : A → B) (xs : List A) → map f xs ≡ flat_map (λ x. f x ∷ []) xs
each_one f [] = refl
each_one f (x ∷ xs) = ap (λ ys. f x ∷ ys) (each_one f xs)

map_twice : {A B C : Type 0} (g : B → C) (f : A → B) (xs : List A) → map g (map f xs) ≡ map (λ x. g (f x)) xs
map_twice g f [] = refl
map_twice g f (x ∷ xs) = ap (λ ys. g (f x) ∷ ys) (map_twice g f xs)

module _ (w : World) where
  abbrev pub bodies_read : Path → List Key
  bodies_read q = map key_in (site_bodies limits w q (index limits w q))

  -- ---- what a prim reads, kind by kind

  nodes_are : (q : Path) → map key_in (flat_map (λ j. flat_map (keys_at limits w) (visits_for limits w (up q j))) (below (length q))) ≡ nodes_read w q
  unfolding said
  nodes_are q =
      map_parts key_in (λ j. flat_map (keys_at limits w) (visits_for limits w (up q j))) (below (length q))
      ∙ parts_are (λ j. map key_in (flat_map (keys_at limits w) (visits_for limits w (up q j)))) (λ j. read_at_all w (visits_for limits w (up q j))) (below (length q))
      (λ j. map_parts key_in (keys_at limits w) (visits_for limits w (up q j)))

  loads_are : (q : Path) → map key_in (map (λ j. load (up q j)) (below (length q))) ≡ loads_read q
  loads_are q = map_twice key_in (λ j. load (up q j)) (below (length q)) ∙ each_one (λ j. Load (up q j)) (below (length q))

  pub read_is : (e : Element) (p : Path) → list_all is_prim_name (e ∷ p) ≡ true → map key_in (prim_reads limits w (e ∷ p)) ≡ (loads_read (e ∷ p) ++ nodes_read w (e ∷ p)) ++ bodies_read (e ∷ p)
  read_is e p plain =
      let rules : List keys.Key = map (λ j. load (up (e ∷ p) j)) (levels_of (e ∷ p)) in
      let nodes : List keys.Key = flat_map (λ j. flat_map (keys_at limits w) (visits_for limits w (up (e ∷ p) j))) (levels_of (e ∷ p)) in
      let many : levels (e ∷ p) ≡ length (e ∷ p) = plain_levels e p plain in
      map-append key_in (rules ++ nodes) (site_bodies limits w (e ∷ p) (index limits w (e ∷ p)))
      ∙ ap (λ (ks : List Key). ks ++ bodies_read (e ∷ p))
      (map-append key_in rules nodes
      ∙ (λ i. (ap (λ (n : ℕ). map key_in (map (λ j. load (up (e ∷ p) j)) (below n))) many ∙ loads_are (e ∷ p)) i
      ++ (ap (λ (n : ℕ). map key_in (flat_map (λ j. flat_map (keys_at limits w) (visits_for limits w (up (e ∷ p) j))) (below n))) many ∙ nodes_are (e ∷ p)) i))

  bodies_told : (q : Path) (i : Option Index) → site_bodies limits w q i ≡ bodies_by w (stage_tree limits (here limits w) (is_loaded w) q) i
  bodies_told q None = refl
  bodies_told q (Some i) = refl

  module _ (q : Path) (m : ℕ) (long : length q ≡ suc m) where
    bodies_are : bodies_read q ≡ own_bodies w (grown_at w (its_node w q m long))
    unfolding said
    bodies_are =
        ap (λ (ks : List keys.Key). map key_in ks) (bodies_told q (index limits w q))
        ∙ sym (own_bodies_are w (stage_tree limits (here limits w) (is_loaded w) q))
        ∙ ap (λ (t : Tree). own_bodies w t) (stage_tree_is w q m long)

  -- ---- which keys are bodies

  abbrev NoBody : Key → Type 0
  NoBody k = is_no_body k ≡ true

  abbrev IsBody : Key → Type 0
  IsBody k = is_no_body k ≡ false

  at_node : (n : Node) → Each NoBody (read_at w n)
  at_node n =
      in_map NoBody key_in (keys_at limits w n)
      (each_joined (λ k. NoBody (key_in k)) (flat_map (λ j. map (λ e. arcs e.0 (up n.path j)) (stack limits w n.stack).layers) (levels_of n.path)) (map head (asked_at limits w n))
      (in_parts (λ k. NoBody (key_in k)) (λ j. map (λ e. arcs e.0 (up n.path j)) (stack limits w n.stack).layers) (levels_of n.path)
      (always (λ j. Each (λ k. NoBody (key_in k)) (map (λ e. arcs e.0 (up n.path j)) (stack limits w n.stack).layers))
      (λ j. in_map (λ k. NoBody (key_in k)) (λ e. arcs e.0 (up n.path j)) (stack limits w n.stack).layers (always (λ e. NoBody (key_in (arcs e.0 (up n.path j)))) (λ e. refl) (stack limits w n.stack).layers)) (levels_of n.path)))
      (in_map (λ k. NoBody (key_in k)) head (asked_at limits w n) (always (λ name. NoBody (key_in (head name))) (λ name. refl) (asked_at limits w n))))

  at_nodes : (q : Path) → Each NoBody (nodes_read w q)
  at_nodes q =
      in_parts NoBody (λ j. read_at_all w (visits_at_path w (up q j))) (below (length q))
      (always (λ j. Each NoBody (read_at_all w (visits_at_path w (up q j))))
      (λ j. in_parts NoBody (read_at w) (visits_at_path w (up q j)) (always (λ n. Each NoBody (read_at w n)) at_node (visits_at_path w (up q j)))) (below (length q)))

  of_rules : (q : Path) → Each NoBody (loads_read q)
  of_rules q = in_parts NoBody (λ j. Load (up q j) ∷ []) (below (length q)) (always (λ j. Each NoBody (Load (up q j) ∷ [])) (λ j. (refl, tt)) (below (length q)))

  of_bodies : (q : Path) (i : Option Index) → Each IsBody (map key_in (site_bodies limits w q i))
  of_bodies q None =
      in_map IsBody key_in (site_bodies limits w q None)
      (in_parts (λ k. IsBody (key_in k)) (λ n. keys.bodies_at limits w n.stack n.path) (nodes_of (stage_tree limits (here limits w) (is_loaded w) q))
      (always (λ n. Each (λ k. IsBody (key_in k)) (keys.bodies_at limits w n.stack n.path))
      (λ n. in_map (λ k. IsBody (key_in k)) (λ e. body e.0 n.path) (stack limits w n.stack).layers (always (λ e. IsBody (key_in (body e.0 n.path))) (λ e. refl) (stack limits w n.stack).layers))
      (nodes_of (stage_tree limits (here limits w) (is_loaded w) q))))
  of_bodies q (Some i) =
      in_map IsBody key_in (site_bodies limits w q (Some i))
      (in_parts (λ k. IsBody (key_in k)) (λ s. keys.bodies_at limits w s.stack s.path) i.sites
      (always (λ s. Each (λ k. IsBody (key_in k)) (keys.bodies_at limits w s.stack s.path))
      (λ s. in_map (λ k. IsBody (key_in k)) (λ e. body e.0 s.path) (stack limits w s.stack).layers (always (λ e. IsBody (key_in (body e.0 s.path))) (λ e. refl) (stack limits w s.stack).layers)) i.sites))

  one_of : (P : Key → Type 0) (ks : List Key) (k : Key) → Each P ks → Contains ks k → P k
  one_of P ks k each has = All-contains P ks k (All-from_recursion P ks each) has

  -- ---- what is taken over

  module _ (e : Element) (p : Path) (plain : list_all is_prim_name (e ∷ p) ≡ true) (ordered : List Key) (same : Same ordered (map key_in (prim_reads limits w (e ∷ p)))) where
    abbrev others : List Key
    others = loads_read (e ∷ p) ++ nodes_read w (e ∷ p)

    no_body : Each NoBody others
    no_body = each_joined NoBody (loads_read (e ∷ p)) (nodes_read w (e ∷ p)) (of_rules (e ∷ p)) (at_nodes (e ∷ p))

    kept_there : Has (filter is_no_body ordered) others
    kept_there k has = let kept = of_kept is_no_body ordered k has in by kept.1
        (Contains-append_cases others (bodies_read (e ∷ p)) k (subst (λ (ks : List Key). Contains ks k) (read_is e p plain) (same.0 k kept.0)))
      where
        by : is_no_body k ≡ true → Contains others k ⊎ Contains (bodies_read (e ∷ p)) k → Contains others k
        by on (inl there) = there
        by on (inr its) = absurd (true≢false (sym on ∙ one_of IsBody (bodies_read (e ∷ p)) k (of_bodies (e ∷ p) (index limits w (e ∷ p))) its))

    kept_back : Has others (filter is_no_body ordered)
    kept_back k has =
        in_kept is_no_body ordered k
        (same.1 k (subst (λ (ks : List Key). Contains ks k) (sym (read_is e p plain)) (Contains-append_left others (bodies_read (e ∷ p)) k has)))
        (one_of NoBody others k no_body has)

    pub taken_over : Same (without_bodies ordered) others
    unfolding without_bodies
    taken_over = (kept_there, kept_back)

  -- ---- all of it

  same_node : (h : Node → Here) (m : Meaning) (s room : ℕ) (n : Node) → node_of (tree_with limits h m s room n) ≡ n
  same_node h m zero room n = refl
  same_node h m (suc s) room n = refl

  top_is : (n : Node) → node_of (grown_at w n) ≡ n
  unfolding full_tree tree_below
  top_is n = same_node (said limits w) (deeper limits (said limits w) 64) 4096 4096 n

  arranged : {K : Type 0} (x : K) (front rules nodes own tree its : List K) → Same front (rules ++ nodes)
      → Same (front ++ (x ∷ (own ++ (tree ++ its)))) (((x ∷ rules) ++ (nodes ++ (own ++ tree))) ++ its)
  arranged x front rules nodes own tree its s =
      let all = ((x ∷ rules) ++ (nodes ++ (own ++ tree))) ++ its in
      let mine = front ++ (x ∷ (own ++ (tree ++ its))) in
      let one : Has (x ∷ []) all = in_first (x ∷ []) ((x ∷ rules) ++ (nodes ++ (own ++ tree))) its (in_first (x ∷ []) (x ∷ rules) (nodes ++ (own ++ tree)) (in_first (x ∷ []) (x ∷ []) rules (λ k h. h))) in
      let lower : Has (nodes ++ (own ++ tree)) all = in_first (nodes ++ (own ++ tree)) ((x ∷ rules) ++ (nodes ++ (own ++ tree))) its (in_second (nodes ++ (own ++ tree)) (x ∷ rules) (nodes ++ (own ++ tree)) (λ k h. h)) in
      let there : Has mine all =
      has_both front (x ∷ (own ++ (tree ++ its))) all
      (λ k h. has_both rules nodes all
      (in_first rules ((x ∷ rules) ++ (nodes ++ (own ++ tree))) its (in_first rules (x ∷ rules) (nodes ++ (own ++ tree)) (in_second rules (x ∷ []) rules (λ j g. g))))
      (λ j g. lower j (in_first nodes nodes (own ++ tree) (λ i f. f) j g)) k (s.0 k h))
      (has_both (x ∷ []) (own ++ (tree ++ its)) all one
      (has_both own (tree ++ its) all (λ j g. lower j (in_second own nodes (own ++ tree) (in_first own own tree (λ i f. f)) j g))
      (has_both tree its all (λ j g. lower j (in_second tree nodes (own ++ tree) (in_second tree own tree (λ i f. f)) j g))
      (in_second its ((x ∷ rules) ++ (nodes ++ (own ++ tree))) its (λ j g. g))))) in
      let before : Has (rules ++ nodes) mine = λ k h. in_first (rules ++ nodes) front (x ∷ (own ++ (tree ++ its))) s.1 k h in
      let later : Has (own ++ (tree ++ its)) mine = in_second (own ++ (tree ++ its)) front (x ∷ (own ++ (tree ++ its))) (in_second (own ++ (tree ++ its)) (x ∷ []) (own ++ (tree ++ its)) (λ k h. h)) in
      let back : Has all mine =
      has_both ((x ∷ rules) ++ (nodes ++ (own ++ tree))) its mine
      (has_both (x ∷ rules) (nodes ++ (own ++ tree)) mine
      (has_both (x ∷ []) rules mine (in_second (x ∷ []) front (x ∷ (own ++ (tree ++ its))) (in_first (x ∷ []) (x ∷ []) (own ++ (tree ++ its)) (λ k h. h)))
      (λ k h. before k (in_first rules rules nodes (λ j g. g) k h)))
      (has_both nodes (own ++ tree) mine (λ k h. before k (in_second nodes rules nodes (λ j g. g) k h))
      (has_both own tree mine (λ k h. later k (in_first own own (tree ++ its) (λ j g. g) k h))
      (λ k h. later k (in_second tree own (tree ++ its) (in_first tree tree its (λ j g. g)) k h)))))
      (λ k h. later k (in_second its own (tree ++ its) (in_second its tree its (λ j g. g)) k h)) in
      (there, back)

  module _ (e : Element) (p : Path) (plain : list_all is_prim_name (e ∷ p) ≡ true) (front : List Key)
      (taken : Same front (loads_read (take (length p) (e ∷ p)) ++ nodes_read w (take (length p) (e ∷ p)))) where
    abbrev q : Path
    q = e ∷ p

    abbrev tree : Tree
    tree = grown_at w (its_node w q (length p) refl)

    abbrev own : List Key
    own = own_rounds w q (last w q (length p) refl ∷ above w q (length p) refl)

    abbrev rules : List Key
    rules = loads_read (take (length p) q)

    abbrev nodes : List Key
    nodes = nodes_read w (take (length p) q)

    own_is : own_keys w q tree ≡ Load q ∷ (own ++ (tree_keys w 64 4096 tree ++ own_bodies w tree))
    unfolding own_keys
    own_is = ap (λ (n : Node). Load q ∷ (own_rounds w q n.frames ++ (tree_keys w 64 4096 tree ++ own_bodies w tree))) (top_is (its_node w q (length p) refl))

    pub whole_same : Same (front ++ own_keys w q tree) (map key_in (prim_reads limits w q))
    whole_same =
        let keys_of_tree : List Key = tree_keys w 64 4096 tree in
        let mine : List Key = front ++ (Load q ∷ (own ++ (keys_of_tree ++ own_bodies w tree))) in
        let middle : List Key = ((Load q ∷ rules) ++ (nodes ++ (own ++ keys_of_tree))) ++ own_bodies w tree in
        let all : List Key = (loads_read q ++ nodes_read w q) ++ bodies_read q in
        through (front ++ own_keys w q tree) mine (map key_in (prim_reads limits w q))
        (same_list (front ++ own_keys w q tree) mine (ap (λ (ks : List Key). front ++ ks) own_is))
        (through mine middle (map key_in (prim_reads limits w q)) (arranged (Load q) front rules nodes own keys_of_tree (own_bodies w tree) taken)
        (through middle all (map key_in (prim_reads limits w q))
        (joined ((Load q ∷ rules) ++ (nodes ++ (own ++ keys_of_tree))) (own_bodies w tree) (loads_read q ++ nodes_read w q) (bodies_read q)
        (joined (Load q ∷ rules) (nodes ++ (own ++ keys_of_tree)) (loads_read q) (nodes_read w q)
        (turned (loads_read q) (Load q ∷ rules) (loads_same w q (length p) refl)) (turned (nodes_read w q) (nodes ++ (own ++ keys_of_tree)) (nodes_same w q (length p) refl)))
        (same_list (own_bodies w tree) (bodies_read q) (sym (bodies_are q (length p) refl))))
        (same_list all (map key_in (prim_reads limits w q)) (sym (read_is e p plain)))))
