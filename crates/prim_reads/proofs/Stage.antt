-- What a prim of the stage reads, by what the prim above it reads.
use Rattle.std.proofs.Common.{◌≡◌, ◌⊎◌, inl, inr, refl, sym, ap, subst, ◌∙◌, ℕ, zero, suc, ◌+◌, ◌-◌, ◌≤◌, ◌<◌, Bool, true, false, List, [], ◌∷◌, ◌++◌, map, flat_map, filter, take, length, arith}
use Rattle.std.specs.List.{Contains, list_all}
use Rattle.std.proofs.Math.Seq.{take-length}
use Rattle.std.proofs.lemmas.Bool.{cases_lt}
use Rattle.std.proofs.lemmas.List.{length-take-le, take-take, map-append}
use Rattle.std.proofs.lemmas.List.Elements.{All-from_recursion, All-contains, Contains-append_left, Contains-append_right, Contains-append_cases}
use Rattle.sdf_paths.specs.Paths.{is_prim_name}
use Rattle.composition.specs.Paths.{Path, limits, up, below, levels_of}
use Rattle.composition.specs.World.{World, Root, identity, is_loaded}
use Rattle.composition.specs.Nodes.{Node, Frame, bare, bare_node}
use Rattle.composition.specs.Trees.{Tree, node_of}
use Rattle.composition.specs.Compose.{rounds, frames_along, tree_of, stage_tree}
use Rattle.composition.specs.Visits.{visited_in_rounds, visited_along, visits, stage_visits}
use Rattle.composition.proofs.Members.{none_in, head_in, tail_in, cases_in}
use Rattle.layer_set.specs.declared.key.Key.{Key}
use Rattle.layer_set.specs.declared.key.Key.TheVariants.{Load}
use Rattle.prim_index.specs.Reading.{said}
use Rattle.prim_index.specs.Depths.{full_tree, tree_below}
use Rattle.prim_reads.specs.Gathered.{is_plain, own_rounds, rounds_keys, tree_keys}
use Rattle.prim_reads.proofs.Gathers.{read_at, read_at_all, same_append, meaning_is, tree_read, rounds_read}
use Rattle.prim_reads.proofs.Rounds.{still_loaded, one_tree_made, along_front}
use Rattle.prim_reads.proofs.Same.{Has, Same, itself, turned, through, joined, has_both, in_first, in_second, same_list, parts_append}

-- ---- lists over levels

module _ {K : Type 0} (f : ℕ → List K) where
  split : (n : ℕ) → flat_map f (below (suc n)) ≡ flat_map f (below n) ++ (f n ++ [])
  split n = parts_append f (below n) (n ∷ [])

  pub in_levels : (n j : ℕ) (k : K) → j < n → Contains (f j) k → Contains (flat_map f (below n)) k
  in_levels zero j k less has = absurd (omega (arith, less))
  in_levels (suc n) j k less has = subst (λ (xs : List K). Contains xs k) (sym (split n)) (by (in_levels n j k) (cases_lt j n))
    where
      by : (j < n → Contains (f j) k → Contains (flat_map f (below n)) k) → (j < n) ⊎ (n ≤ j) → Contains (flat_map f (below n) ++ (f n ++ [])) k
      by rest (inl before) = Contains-append_left (flat_map f (below n)) (f n ++ []) k (rest before has)
      by rest (inr last) =
          let same : j ≡ n = omega (arith, last, less) in
          Contains-append_right (flat_map f (below n)) (f n ++ []) k (Contains-append_left (f n) [] k (subst (λ (i : ℕ). Contains (f i) k) same has))

  pub of_levels : (n : ℕ) (k : K) → Contains (flat_map f (below n)) k → (j : ℕ) × (j < n) × Contains (f j) k
  of_levels zero k has = absurd (none_in k has)
  of_levels (suc n) k has = by (of_levels n k) (Contains-append_cases (flat_map f (below n)) (f n ++ []) k (subst (λ (xs : List K). Contains xs k) (split n) has))
    where
      further : (j : ℕ) × (j < n) × Contains (f j) k → (j : ℕ) × (j < suc n) × Contains (f j) k
      further found = let less : found.0 < suc n = omega (arith, found.1) in (found.0, less, found.2)

      last : Contains (f n) k ⊎ Contains [] k → (j : ℕ) × (j < suc n) × Contains (f j) k
      last (inl here) = let less : n < suc n = omega arith in (n, less, here)
      last (inr none) = absurd (none_in k none)

      by : (Contains (flat_map f (below n)) k → (j : ℕ) × (j < n) × Contains (f j) k) → Contains (flat_map f (below n)) k ⊎ Contains (f n ++ []) k
          → (j : ℕ) × (j < suc n) × Contains (f j) k
      by rest (inl before) = further (rest before)
      by rest (inr here) = last (Contains-append_cases (f n) [] k here)

-- ---- a prim

-- the load rules at a path and above it
abbrev pub loads_read : Path → List Key
loads_read p = flat_map (λ j. Load (up p j) ∷ []) (below (length p))

module _ (w : World) where
  abbrev pub grown_at : Node → Tree
  grown_at = full_tree limits (said limits w) 64

  abbrev seen : Tree → List Node
  seen = (visits limits (said limits w) 64).for_tree

  abbrev at : Path → Node
  at q = bare_node Root q [] 64 identity

  abbrev pub visits_at_path : Path → List Node
  visits_at_path q = stage_visits limits (said limits w) (is_loaded w) q

  -- what is read at the nodes that are visited for a path and those above it
  abbrev pub nodes_read : Path → List Key
  nodes_read p = flat_map (λ j. read_at_all w (visits_at_path (up p j))) (below (length p))

  abbrev along : Path → ℕ → List Node
  along q k = visited_along limits grown_at seen (is_loaded w) (at q) k

  pub top_tree : ◌≡◌ {A = Node → Tree} (tree_of limits (said limits w)) grown_at
  unfolding full_tree tree_below
  top_tree = λ i n. meaning_is w 64 4096 n i

  by_tree : (q : Path) → visits_at_path q ≡ along q (length q) ++ seen (grown_at (record (at q) { frames = frames_along limits grown_at (is_loaded w) (at q) (length q) }))
  by_tree q = ap (λ (t : Node → Tree). visited_along limits t seen (is_loaded w) (at q) (length q) ++ seen (t (record (at q) { frames = frames_along limits t (is_loaded w) (at q) (length q) }))) top_tree

  module _ (q : Path) (m : ℕ) (long : length q ≡ suc m) where
    abbrev pub above : List Frame
    above = frames_along limits grown_at (is_loaded w) (at q) m

    abbrev first : Frame
    first = record bare { loaded = is_loaded w q }

    abbrev pub last : Frame
    last = rounds limits grown_at 16 (at q) above first

    abbrev pub its_node : Node
    its_node = record (at q) { frames = last ∷ above }

    abbrev in_rounds : List Node
    in_rounds = visited_in_rounds limits grown_at seen 16 (at q) above first

    whole : take (suc m) q ≡ q
    whole = ap (λ (n : ℕ). take n q) (sym long) ∙ take-length q

    frames_are : frames_along limits grown_at (is_loaded w) (at q) (length q) ≡ last ∷ above
    frames_are =
        ap (λ (n : ℕ). frames_along limits grown_at (is_loaded w) (at q) n) long
        ∙ (λ i. rounds limits grown_at 16 (at (whole i)) above (record bare { loaded = is_loaded w (whole i) }) ∷ above)

    along_is : along q (length q) ≡ along q m ++ in_rounds
    along_is =
        ap (λ (n : ℕ). along q n) long
        ∙ (λ i. along q m ++ visited_in_rounds limits grown_at seen 16 (at (whole i)) above (record bare { loaded = is_loaded w (whole i) }))

    pub visits_are : visits_at_path q ≡ (along q m ++ in_rounds) ++ seen (grown_at its_node)
    visits_are = by_tree q ∙ (λ i. along_is i ++ seen (grown_at (record (at q) { frames = frames_are i })))

    -- the tree of the prim, as the stage has it
    pub stage_tree_is : stage_tree limits (said limits w) (is_loaded w) q ≡ grown_at its_node
    stage_tree_is =
        ap (λ (t : Node → Tree). t (record (at q) { frames = frames_along limits t (is_loaded w) (at q) (length q) })) top_tree
        ∙ ap (λ (fs : List Frame). grown_at (record (at q) { frames = fs })) frames_are

    -- ---- its own rounds and its tree

    its_keys : Same (tree_keys w 64 4096 (grown_at its_node)) (read_at_all w (seen (grown_at its_node)))
    its_keys = tree_read w 64 its_node

    twice : (xs : List Key) → Same xs ((xs ++ []) ++ xs)
    twice xs = (in_second xs (xs ++ []) xs (λ k h. h), has_both (xs ++ []) xs xs (has_both xs [] xs (λ k h. h) (λ k h. absurd (none_in k h))) (λ k h. h))

    plain_same : is_plain last ≡ true → Same (tree_keys w 64 4096 (grown_at its_node)) (read_at_all w (in_rounds ++ seen (grown_at its_node)))
    plain_same plain =
        let mine : List Key = tree_keys w 64 4096 (grown_at its_node) in
        let nodes : List Node = seen (grown_at its_node) in
        through mine ((mine ++ []) ++ mine) (read_at_all w (in_rounds ++ nodes)) (twice mine)
        (through ((mine ++ []) ++ mine) (read_at_all w ((nodes ++ []) ++ nodes)) (read_at_all w (in_rounds ++ nodes))
        (same_append w (nodes ++ []) nodes (mine ++ []) mine (same_append w nodes [] mine [] its_keys (itself [])) its_keys)
        (same_list (read_at_all w ((nodes ++ []) ++ nodes)) (read_at_all w (in_rounds ++ nodes))
        (ap (λ (ns : List Node). read_at_all w (ns ++ nodes)) (sym (one_tree_made limits grown_at seen (at q) above (is_loaded w q) 15 plain)))))

    again_same : Same (rounds_keys w 64 16 (at q) above (record bare { loaded = last.loaded })) (read_at_all w in_rounds)
    again_same =
        subst (λ (b : Bool). Same (rounds_keys w 64 16 (at q) above (record bare { loaded = b })) (read_at_all w in_rounds)) (sym (still_loaded limits grown_at 16 (at q) above first))
        (rounds_read w 64 16 (at q) above first)

    pub own_same : Same (own_rounds w q (last ∷ above) ++ tree_keys w 64 4096 (grown_at its_node)) (read_at_all w (in_rounds ++ seen (grown_at its_node)))
    unfolding own_rounds
    own_same = by (is_plain last) refl
      where
        by : (b : Bool) → is_plain last ≡ b
            → Same ((elim b as (λ _. List Key) [ true ↦ [] | false ↦ rounds_keys w 64 16 (at q) above (record bare { loaded = last.loaded }) ]) ++ tree_keys w 64 4096 (grown_at its_node))
            (read_at_all w (in_rounds ++ seen (grown_at its_node)))
        by true plain = plain_same plain
        by false other =
            same_append w in_rounds (seen (grown_at its_node)) (rounds_keys w 64 16 (at q) above (record bare { loaded = last.loaded })) (tree_keys w 64 4096 (grown_at its_node)) again_same its_keys

    -- ---- the levels above

    abbrev pub parent : Path
    parent = take m q

    parent_long : length parent ≡ m
    parent_long = length-take-le m q (omega (arith, long))

    level_zero : up q 0 ≡ q
    level_zero = let all : length q - 0 ≡ length q = omega arith in ap (λ (k : ℕ). take k q) all ∙ take-length q

    parent_zero : up parent 0 ≡ parent
    parent_zero = let all : length parent - 0 ≡ length parent = omega arith in ap (λ (k : ℕ). take k parent) all ∙ take-length parent

    level_above : (j : ℕ) → up q (suc j) ≡ up parent j
    level_above j =
        let mine : length q - suc j ≡ m - j = omega (arith, long) in
        let its : length parent - j ≡ m - j = omega (arith, parent_long) in
        ap (λ (k : ℕ). take k q) mine ∙ sym (ap (λ (k : ℕ). take k parent) its ∙ take-take (m - j) m q (omega arith))

    abbrev own_read : List Key
    own_read = own_rounds w q (last ∷ above) ++ tree_keys w 64 4096 (grown_at its_node)

    -- what is visited on the way to the prim above is visited for that prim
    on_the_way : Has (read_at_all w (along q m)) (nodes_read parent)
    on_the_way k has = by m refl has
      where
        by : (n : ℕ) → m ≡ n → Contains (read_at_all w (along q n)) k → Contains (nodes_read parent) k
        by zero none has = absurd (none_in k has)
        by (suc n) some has =
            let same : along parent (length parent) ≡ along q (suc n) =
            ap (λ (i : ℕ). along parent i) (parent_long ∙ some) ∙ along_front limits grown_at seen (is_loaded w) 64 (suc n) m q (omega (arith, some)) in
            let within : 0 < length parent = omega (arith, parent_long, some) in
            let there : Contains (read_at_all w (along parent (length parent))) k = subst (λ (ns : List Node). Contains (read_at_all w ns) k) (sym same) has in
            let rest : List Node = seen (grown_at (record (at parent) { frames = frames_along limits grown_at (is_loaded w) (at parent) (length parent) })) in
            let whole_read : Contains (read_at_all w (along parent (length parent) ++ rest)) k =
            subst (λ (xs : List Key). Contains xs k) (sym (parts_append (read_at w) (along parent (length parent)) rest))
            (Contains-append_left (read_at_all w (along parent (length parent))) (read_at_all w rest) k there) in
            let visited : Contains (read_at_all w (visits_at_path parent)) k = subst (λ (ns : List Node). Contains (read_at_all w ns) k) (sym (by_tree parent)) whole_read in
            in_levels (λ j. read_at_all w (visits_at_path (up parent j))) (length parent) 0 k within
            (subst (λ (p : Path). Contains (read_at_all w (visits_at_path p)) k) (sym parent_zero) visited)

    assoc : (a b c : List Node) → (a ++ b) ++ c ≡ a ++ (b ++ c)
    assoc [] b c = refl
    assoc (x ∷ a) b c = ap (λ (ns : List Node). x ∷ ns) (assoc a b c)

    parts_of_level : Same (read_at_all w (visits_at_path q)) (read_at_all w (along q m) ++ own_read)
    parts_of_level =
        let e : read_at_all w (visits_at_path q) ≡ read_at_all w (along q m) ++ read_at_all w (in_rounds ++ seen (grown_at its_node)) =
        ap (λ (ns : List Node). read_at_all w ns) (visits_are ∙ assoc (along q m) in_rounds (seen (grown_at its_node)))
        ∙ parts_append (read_at w) (along q m) (in_rounds ++ seen (grown_at its_node)) in
        through (read_at_all w (visits_at_path q)) (read_at_all w (along q m) ++ read_at_all w (in_rounds ++ seen (grown_at its_node))) (read_at_all w (along q m) ++ own_read)
        (same_list (read_at_all w (visits_at_path q)) (read_at_all w (along q m) ++ read_at_all w (in_rounds ++ seen (grown_at its_node))) e)
        (joined (read_at_all w (along q m)) (read_at_all w (in_rounds ++ seen (grown_at its_node))) (read_at_all w (along q m)) own_read (itself (read_at_all w (along q m)))
        (turned own_read (read_at_all w (in_rounds ++ seen (grown_at its_node))) own_same))

    level_has : (k : Key) → Contains (read_at_all w (visits_at_path q)) k → Contains (nodes_read parent ++ own_read) k
    level_has k has = elim (Contains-append_cases (read_at_all w (along q m)) own_read k (parts_of_level.0 k has)) [
      | inl on ↦ Contains-append_left (nodes_read parent) own_read k (on_the_way k on)
      | inr mine ↦ Contains-append_right (nodes_read parent) own_read k mine
    ]

    nodes_there : Has (nodes_read q) (nodes_read parent ++ own_read)
    nodes_there k has = let found = of_levels (λ j. read_at_all w (visits_at_path (up q j))) (length q) k has in by found.0 found.1 found.2
      where
        by : (j : ℕ) → j < length q → Contains (read_at_all w (visits_at_path (up q j))) k → Contains (nodes_read parent ++ own_read) k
        by zero less has = level_has k (subst (λ (p : Path). Contains (read_at_all w (visits_at_path p)) k) level_zero has)
        by (suc j) less has =
            let within : j < length parent = omega (arith, less, long, parent_long) in
            Contains-append_left (nodes_read parent) own_read k
            (in_levels (λ i. read_at_all w (visits_at_path (up parent i))) (length parent) j k within
            (subst (λ (p : Path). Contains (read_at_all w (visits_at_path p)) k) (level_above j) has))

    nodes_back : Has (nodes_read parent ++ own_read) (nodes_read q)
    nodes_back k has = by (Contains-append_cases (nodes_read parent) own_read k has)
      where
        by : Contains (nodes_read parent) k ⊎ Contains own_read k → Contains (nodes_read q) k
        by (inl up_there) =
            let found = of_levels (λ j. read_at_all w (visits_at_path (up parent j))) (length parent) k up_there in
            let within : suc found.0 < length q = omega (arith, found.1, long, parent_long) in
            in_levels (λ j. read_at_all w (visits_at_path (up q j))) (length q) (suc found.0) k within
            (subst (λ (p : Path). Contains (read_at_all w (visits_at_path p)) k) (sym (level_above found.0)) found.2)
        by (inr mine) =
            let within : 0 < length q = omega (arith, long) in
            in_levels (λ j. read_at_all w (visits_at_path (up q j))) (length q) 0 k within
            (subst (λ (p : Path). Contains (read_at_all w (visits_at_path p)) k) (sym level_zero)
            (parts_of_level.1 k (Contains-append_right (read_at_all w (along q m)) own_read k mine)))

    -- what is read at the nodes that are visited for a prim and those above it
    pub nodes_same : Same (nodes_read q) (nodes_read parent ++ own_read)
    nodes_same = (nodes_there, nodes_back)

    -- ---- load rules

    loads_there : Has (loads_read q) (Load q ∷ loads_read parent)
    loads_there k has = let found = of_levels (λ j. Load (up q j) ∷ []) (length q) k has in by found.0 found.1 found.2
      where
        by : (j : ℕ) → j < length q → Contains (Load (up q j) ∷ []) k → Contains (Load q ∷ loads_read parent) k
        by zero less has =
            Contains-append_left (Load q ∷ []) (loads_read parent) k (subst (λ (p : Path). Contains (Load p ∷ []) k) level_zero has)
        by (suc j) less has =
            let within : j < length parent = omega (arith, less, long, parent_long) in
            tail_in (Load q) (loads_read parent) k
            (in_levels (λ i. Load (up parent i) ∷ []) (length parent) j k within (subst (λ (p : Path). Contains (Load p ∷ []) k) (level_above j) has))

    loads_back : Has (Load q ∷ loads_read parent) (loads_read q)
    loads_back k has = by (cases_in (Load q) (loads_read parent) k has)
      where
        by : (Load q ≡ k) ⊎ Contains (loads_read parent) k → Contains (loads_read q) k
        by (inl e) =
            let within : 0 < length q = omega (arith, long) in
            in_levels (λ j. Load (up q j) ∷ []) (length q) 0 k within
            (subst (λ (p : Path). Contains (Load p ∷ []) k) (sym level_zero) (subst (λ (x : Key). Contains (Load q ∷ []) x) e (head_in (Load q) [])))
        by (inr more) =
            let found = of_levels (λ j. Load (up parent j) ∷ []) (length parent) k more in
            let within : suc found.0 < length q = omega (arith, found.1, long, parent_long) in
            in_levels (λ j. Load (up q j) ∷ []) (length q) (suc found.0) k within
            (subst (λ (p : Path). Contains (Load p ∷ []) k) (sym (level_above found.0)) found.2)

    pub loads_same : Same (loads_read q) (Load q ∷ loads_read parent)
    loads_same = (loads_there, loads_back)
