-- Children one after the other, and the tree that they make.
use Rattle.std.proofs.Common.{◌≡◌, ◌∙◌, sym, ap, refl, arith, ℕ, ◌+◌, ◌-◌, ◌<◌, true, false, List, [], ◌∷◌, ◌++◌, map, length, get_or, drop, drop-cons, add-one, zero, suc, ◌≤◌}
use Rattle.std.proofs.lemmas.List.{map-append}
use Rattle.prim_nodes.specs.declared.arcs.Branch.{Branch}
use Rattle.composition.specs.Paths.{Limits}
use Rattle.composition.specs.Nodes.{Node, Here}
use Rattle.composition.specs.Trees.{Tree, Trees, node, none, cut, child, size, size_among, own_branches, lifted_branches}
use Rattle.prim_trees.specs.declared.tree.Child.{Child}
use Rattle.prim_trees.specs.Meant.{Led, all_of, led, trees_of}
use Rattle.prim_index.specs.Depths.{tree_below, child_below, grown_below}
use Rattle.prim_index.specs.Grown.{before}
use Rattle.prim_index.proofs.Depths.{tree_grown, grown_none, grown_cut, grown_more}

pub before_none : (cs : List Led) → before cs none ≡ all_of cs false
before_none [] = refl
before_none (c ∷ cs) = ap (child c.0 c.1) (before_none cs)

pub before_cut : (cs : List Led) → before cs cut ≡ all_of cs true
before_cut [] = refl
before_cut (c ∷ cs) = ap (child c.0 c.1) (before_cut cs)

pub before_more : (cs : List Led) (c : Led) (ts : Trees) → before (cs ++ c ∷ []) ts ≡ before cs (child c.0 c.1 ts)
before_more [] c ts = refl
before_more (x ∷ cs) c ts = ap (child x.0 x.1) (before_more cs c ts)

size_more : (cs : List Led) (c : Led) → size_among (all_of (cs ++ c ∷ []) false) ≡ size_among (all_of cs false) + size c.1
size_more [] c = omega arith
size_more (x ∷ cs) c = omega (arith, size_more cs c)

size_cut : (cs : List Led) → size_among (all_of cs true) ≡ size_among (all_of cs false)
size_cut [] = refl
size_cut (x ∷ cs) = ap (λ k. size x.1 + k) (size_cut cs)

pub led_more : (cs : List Child) (c : Child) → map led (cs ++ c ∷ []) ≡ map led cs ++ led c ∷ []
led_more cs c = map-append led cs (c ∷ [])

module _ (l : Limits) (h : Node → Here) (d steps : ℕ) (n : Node) where
  -- with all arcs done
  pub grown_done : (cs : List Child) (left : ℕ) (all : Trees) → before (map led cs) (grown_below l h d steps n left []) ≡ all → trees_of cs false ≡ all
  grown_done cs left all is = sym (before_none (map led cs)) ∙ sym (ap (before (map led cs)) (grown_none l h d steps left n)) ∙ is

  -- with no room left
  pub grown_stops : (cs : List Child) (b : Branch) (bs : List Branch) (left : ℕ) (all : Trees) → left ≡ 0 → before (map led cs) (grown_below l h d steps n left (b ∷ bs)) ≡ all → trees_of cs true ≡ all
  grown_stops cs b bs left all empty is =
      sym (before_cut (map led cs)) ∙ sym (ap (before (map led cs)) (ap (λ k. grown_below l h d steps n k (b ∷ bs)) empty ∙ grown_cut l h d steps n b bs)) ∙ is

  -- with one child more
  pub grown_goes : (cs : List Child) (c : Child) (b : Branch) (bs : List Branch) (left next : ℕ) (all : Trees) → 0 < left
      → led c ≡ (b, child_below l h d steps n b left) → next ≡ left - size (child_below l h d steps n b left)
      → before (map led cs) (grown_below l h d steps n left (b ∷ bs)) ≡ all
      → before (map led (cs ++ c ∷ [])) (grown_below l h d steps n next bs) ≡ all
  grown_goes cs c b bs left next all some made e is =
      ap (λ (xs : List Led). before xs (grown_below l h d steps n next bs)) (led_more cs c ∙ ap (λ (x : Led). map led cs ++ x ∷ []) made)
      ∙ before_more (map led cs) (b, child_below l h d steps n b left) (grown_below l h d steps n next bs)
      ∙ ap (before (map led cs)) (ap (λ k. child b (child_below l h d steps n b left) (grown_below l h d steps n k bs)) e ∙ sym (grown_more l h d steps left n b bs some))
      ∙ is

  pub tree_is : (room own_room : ℕ) (own lifted : Trees) → 0 < steps → own ≡ grown_below l h d (steps - 1) n (room - 1) (own_branches n (h n))
      → own_room ≡ room - 1 - size_among own → lifted ≡ grown_below l h d (steps - 1) n own_room (lifted_branches l n own)
      → node n (h n) own lifted ≡ tree_below l h d steps room n
  tree_is room own_room own lifted some first left second =
      let whole = tree_grown l h d steps room n some in
      cc

-- how much room is left after one child more
pub room_after : (cs : List Child) (c : Child) (room left next s : ℕ) → left ≡ room - size_among (trees_of cs false) → size (led c).1 ≡ s → next ≡ left - s
    → next ≡ room - size_among (trees_of (cs ++ c ∷ []) false)
room_after cs c room left next s is made e =
    let more = ap (λ (xs : List Led). size_among (all_of xs false)) (led_more cs c) ∙ size_more (map led cs) (led c) in
    omega (arith, is, made, e, more)

pub room_cut : (cs : List Child) (room left : ℕ) → left ≡ 0 → left ≡ room - size_among (trees_of cs false) → 0 ≡ room - size_among (trees_of cs true)
room_cut cs room left empty is = omega (arith, empty, is, size_cut (map led cs))

-- what is left of a list at an item
pub at_item : {A : Type 0} → (xs : List A) (i : ℕ) (x : A) → i < length xs → x ≡ get_or xs i x → drop i xs ≡ x ∷ drop (i + 1) xs
at_item xs i x within is =
    rw (add-one, drop-cons xs i x) (ap (λ y. y ∷ drop (suc i) xs) (sym is))

pub past_items : {A : Type 0} → (xs : List A) (i : ℕ) → length xs ≤ i → drop i xs ≡ []
past_items [] zero h = refl
past_items [] (suc i) h = refl
past_items (x ∷ xs) zero h = absurd (omega arith)
past_items (x ∷ xs) (suc i) h = past_items xs i (omega arith)

module _ (l : Limits) (h : Node → Here) (d steps : ℕ) (n : Node) where
  with_rest : (cs : List Child) (left : ℕ) (rest rest' : List Branch) (all : Trees) → rest ≡ rest' → before (map led cs) (grown_below l h d steps n left rest) ≡ all
      → before (map led cs) (grown_below l h d steps n left rest') ≡ all
  with_rest cs left rest rest' all e is = ap (λ (bs : List Branch). before (map led cs) (grown_below l h d steps n left bs)) (sym e) ∙ is

  pub all_done : (cs : List Child) (rest : List Branch) (left : ℕ) (all : Trees) → rest ≡ [] → before (map led cs) (grown_below l h d steps n left rest) ≡ all → trees_of cs false ≡ all
  all_done cs rest left all e is = grown_done l h d steps n cs left all (with_rest cs left rest [] all e is)

  pub no_room : (cs : List Child) (rest : List Branch) (b : Branch) (bs : List Branch) (left : ℕ) (all : Trees) → left ≡ 0 → rest ≡ b ∷ bs
      → before (map led cs) (grown_below l h d steps n left rest) ≡ all → trees_of cs true ≡ all
  no_room cs rest b bs left all empty e is = grown_stops l h d steps n cs b bs left all empty (with_rest cs left rest (b ∷ bs) all e is)

  pub grown_next : (cs cs' : List Child) (c : Child) (b : Branch) (rest bs : List Branch) (left next : ℕ) (all : Trees) (t : Tree) → 0 < left → cs' ≡ cs ++ c ∷ []
      → led c ≡ (b, t) → t ≡ child_below l h d steps n b left → next ≡ left - size t → rest ≡ b ∷ bs
      → before (map led cs) (grown_below l h d steps n left rest) ≡ all → before (map led cs') (grown_below l h d steps n next bs) ≡ all
  grown_next cs cs' c b rest bs left next all t some more is made shrunk e before_is =
      ap (λ (xs : List Child). before (map led xs) (grown_below l h d steps n next bs)) more
      ∙ grown_goes l h d steps n cs c b bs left next all some (is ∙ ap (λ (x : Tree). (b, x)) made) (shrunk ∙ ap (λ (x : Tree). left - size x) made)
      (with_rest cs left rest (b ∷ bs) all e before_is)

pub room_next : (cs cs' : List Child) (c : Child) (b : Branch) (room left next : ℕ) (t : Tree) → left ≡ room - size_among (trees_of cs false) → cs' ≡ cs ++ c ∷ []
    → led c ≡ (b, t) → next ≡ left - size t → next ≡ room - size_among (trees_of cs' false)
room_next cs cs' c b room left next t is more made shrunk =
    room_after cs c room left next (size t) is (ap (λ (e : Led). size e.1) made) shrunk ∙ ap (λ (xs : List Child). room - size_among (trees_of xs false)) (sym more)
