-- A tree one level down: its children one after the other, and which of them are known.
use Rattle.std.proofs.Common.{◌≡◌, ◌∙◌, sym, ap, refl, arith, ℕ, zero, suc, ◌-◌, ◌<◌, ◌==◌, Bool, true, false, List, [], ◌∷◌, ◌++◌, map, length, drop, Option, Some, None}
use Rattle.std.specs.Prelude.{option_map}
use Rattle.std.proofs.Math.Dec.{eqb-suc-zero}
use Rattle.prim_nodes.specs.declared.arcs.Branch.{Branch}
use Rattle.composition.specs.Texts.{Text, both}
use Rattle.composition.specs.Paths.{limits, same_path}
use Rattle.composition.specs.World.{World, same_stack, same_offset}
use Rattle.composition.specs.Arcs.{same_kind}
use Rattle.composition.specs.Nodes.{Node, Here, Frame, here}
use Rattle.composition.specs.Trees.{Tree, Trees, node, none, cut, child, node_of, here_of, size, size_among, own_branches, lifted_branches}
use Rattle.prim_trees.specs.declared.tree.Tree.{Tree as Built, out-Tree}
use Rattle.prim_trees.specs.declared.tree.Child.{Child, out-Child}
use Rattle.prim_trees.specs.Meant.{Led, meant, all_of, led, trees_of}
use Rattle.prim_trees.specs.Unfolded.{meant_is, node_is, here_is}
use Rattle.laws_extending.specs.Extending.{lowered, lowered_branch, same_arc, here_at_0, here_below, Known, known_or, extended, known, fresh_tree}
use Rattle.prim_index.specs.Extending.{said_at_0, fresh, extended_by, known_of, known_at, arc_tree, grown_from, found_in}
use Rattle.prim_index.specs.Grown.{before}
use Rattle.prim_index.proofs.Grown.{before_none, before_cut, before_more, led_more}

-- ---- children one after the other

module _ (tree : Branch → ℕ → Tree) where
  from_none : (room : ℕ) → grown_from tree room [] ≡ none
  unfolding grown_from
  from_none room = refl

  from_cut : (b : Branch) (bs : List Branch) → grown_from tree 0 (b ∷ bs) ≡ cut
  unfolding grown_from
  from_cut b bs = refl

  from_more : (room : ℕ) (b : Branch) (bs : List Branch) → 0 < room → grown_from tree room (b ∷ bs) ≡ child b (tree b room) (grown_from tree (room - size (tree b room)) bs)
  unfolding grown_from
  from_more zero b bs some = absurd (omega arith)
  from_more (suc room) b bs some = refl

  with_rest : (cs : List Child) (left : ℕ) (rest rest' : List Branch) (all : Trees) → rest ≡ rest' → before (map led cs) (grown_from tree left rest) ≡ all
      → before (map led cs) (grown_from tree left rest') ≡ all
  with_rest cs left rest rest' all e is = ap (λ (bs : List Branch). before (map led cs) (grown_from tree left bs)) (sym e) ∙ is

  -- with all arcs done
  pub all_below : (cs : List Child) (rest : List Branch) (left : ℕ) (all : Trees) → rest ≡ [] → before (map led cs) (grown_from tree left rest) ≡ all → trees_of cs false ≡ all
  all_below cs rest left all e is =
      sym (before_none (map led cs)) ∙ sym (ap (before (map led cs)) (from_none left)) ∙ with_rest cs left rest [] all e is

  -- with no room left
  pub none_below : (cs : List Child) (rest : List Branch) (b : Branch) (bs : List Branch) (left : ℕ) (all : Trees) → left ≡ 0 → rest ≡ b ∷ bs
      → before (map led cs) (grown_from tree left rest) ≡ all → trees_of cs true ≡ all
  none_below cs rest b bs left all empty e is =
      sym (before_cut (map led cs)) ∙ sym (ap (before (map led cs)) (ap (λ k. grown_from tree k (b ∷ bs)) empty ∙ from_cut b bs))
      ∙ with_rest cs left rest (b ∷ bs) all e is

  one_goes : (cs : List Child) (c : Child) (b : Branch) (bs : List Branch) (left next : ℕ) (all : Trees) → 0 < left
      → led c ≡ (b, tree b left) → next ≡ left - size (tree b left) → before (map led cs) (grown_from tree left (b ∷ bs)) ≡ all
      → before (map led (cs ++ c ∷ [])) (grown_from tree next bs) ≡ all
  one_goes cs c b bs left next all some made e is =
      ap (λ (xs : List Led). before xs (grown_from tree next bs)) (led_more cs c ∙ ap (λ (x : Led). map led cs ++ x ∷ []) made)
      ∙ before_more (map led cs) (b, tree b left) (grown_from tree next bs)
      ∙ ap (before (map led cs)) (ap (λ k. child b (tree b left) (grown_from tree k bs)) e ∙ sym (from_more left b bs some))
      ∙ is

  -- with one child more
  pub next_below : (cs cs' : List Child) (c : Child) (b : Branch) (rest bs : List Branch) (left next : ℕ) (all : Trees) (t : Tree) → 0 < left → cs' ≡ cs ++ c ∷ []
      → led c ≡ (b, t) → t ≡ tree b left → next ≡ left - size t → rest ≡ b ∷ bs
      → before (map led cs) (grown_from tree left rest) ≡ all → before (map led cs') (grown_from tree next bs) ≡ all
  next_below cs cs' c b rest bs left next all t some more is made shrunk e before_is =
      ap (λ (xs : List Child). before (map led xs) (grown_from tree next bs)) more
      ∙ one_goes cs c b bs left next all some (is ∙ ap (λ (x : Tree). (b, x)) made) (shrunk ∙ ap (λ (x : Tree). left - size x) made)
      (with_rest cs left rest (b ∷ bs) all e before_is)

-- ---- what is known

module _ (w : World) (f : Frame) (name : Text) where
  abbrev below : Trees → Known
  below ts = known limits (here_at_0 limits w) (fresh_tree limits (here limits w)) f name ts

  below_cut : (cs : List Led) (is_cut : Bool) → below (all_of cs is_cut) ≡ below (all_of cs false)
  below_cut [] true = refl
  below_cut [] false = refl
  below_cut (c ∷ cs) is_cut = ap (λ (es : Known). (lowered_branch c.0, extended limits (here_at_0 limits w) (fresh_tree limits (here limits w)) f name c.1) ∷ es) (below_cut cs is_cut)

  known_is : (t : Built) → known_at w f name (meant t) ≡ known_of w f name (out-Tree t).own ++ known_of w f name (out-Tree t).lifted
  unfolding known_of
  known_is t =
      ap (known_at w f name) (meant_is t)
      ∙ (λ i. below_cut (map led (out-Tree t).own) (out-Tree t).own_cut i ++ below_cut (map led (out-Tree t).lifted) (out-Tree t).lifted_cut i)

  abbrev found_by : Bool → Known → Tree → Branch → ℕ → Option Tree
  found_by b es t arc room = elim b as (λ _. Option Tree) [ true ↦ Some t | false ↦ found_in es arc room ]

  found_nothing : (b : Branch) (room : ℕ) → found_in (known_of w f name []) b room ≡ None
  unfolding known_of
  found_nothing b room = refl

  found_first : (c : Child) (cs : List Child) (b : Branch) (room : ℕ)
      → found_in (known_of w f name (c ∷ cs)) b room
      ≡ found_by (same_arc (lowered_branch (out-Child c).branch) b) (known_of w f name cs) (extended_by w f name (meant (out-Child c).tree) room) b room
  unfolding known_of extended_by
  found_first c cs b room = refl

  pub no_more_known : (cs : List Child) (b : Branch) (room : ℕ) (all : Option Tree) → cs ≡ [] → found_in (known_of w f name cs) b room ≡ all → None ≡ all
  no_more_known cs b room all e is = sym (ap (λ (xs : List Child). found_in (known_of w f name xs) b room) e ∙ found_nothing b room) ∙ is

  pub known_here : (cs rest : List Child) (c : Child) (b : Branch) (room : ℕ) (r : Bool) (t : Tree) (all : Option Tree) → rest ≡ c ∷ cs
      → r ≡ same_arc (lowered_branch (out-Child c).branch) b → r ≡ true → t ≡ extended_by w f name (meant (out-Child c).tree) room
      → found_in (known_of w f name rest) b room ≡ all → Some t ≡ all
  known_here cs rest c b room r t all e told on made is =
      ap (λ (x : Tree). Some x) made
      ∙ sym (ap (λ (xs : List Child). found_in (known_of w f name xs) b room) e ∙ found_first c cs b room
      ∙ ap (λ (x : Bool). found_by x (known_of w f name cs) (extended_by w f name (meant (out-Child c).tree) room) b room) (sym told ∙ on))
      ∙ is

  pub known_later : (cs rest : List Child) (c : Child) (b : Branch) (room : ℕ) (r : Bool) (all : Option Tree) → rest ≡ c ∷ cs
      → r ≡ same_arc (lowered_branch (out-Child c).branch) b → r ≡ false
      → found_in (known_of w f name rest) b room ≡ all → found_in (known_of w f name cs) b room ≡ all
  known_later cs rest c b room r all e told off is =
      sym (ap (λ (xs : List Child). found_in (known_of w f name xs) b room) e ∙ found_first c cs b room
      ∙ ap (λ (x : Bool). found_by x (known_of w f name cs) (extended_by w f name (meant (out-Child c).tree) room) b room) (sym told ∙ off))
      ∙ is

  -- ---- the tree of an arc

  abbrev or_else : Option Tree → Tree → Tree
  or_else (Some t) other = t
  or_else None other = other

  search : (grow : Branch → ℕ → Tree) (xs ys : Known) (b : Branch) (room : ℕ) → known_or grow (xs ++ ys) b room ≡ or_else (found_in xs b room) (known_or grow ys b room)
  search grow [] ys b room = refl
  search grow (e ∷ xs) ys b room = by (same_arc e.0 b) (search grow xs ys b room)
    where
      by : (r : Bool) → known_or grow (xs ++ ys) b room ≡ or_else (found_in xs b room) (known_or grow ys b room)
          → (elim r as (λ _. Tree) [ true ↦ e.1 room | false ↦ known_or grow (xs ++ ys) b room ])
          ≡ or_else (elim r as (λ _. Option Tree) [ true ↦ Some (e.1 room) | false ↦ found_in xs b room ]) (known_or grow ys b room)
      by true h = refl
      by false h = h

  search_all : (grow : Branch → ℕ → Tree) (xs : Known) (b : Branch) (room : ℕ) → known_or grow xs b room ≡ or_else (found_in xs b room) (grow b room)
  search_all grow [] b room = refl
  search_all grow (e ∷ xs) b room = by (same_arc e.0 b) (search_all grow xs b room)
    where
      by : (r : Bool) → known_or grow xs b room ≡ or_else (found_in xs b room) (grow b room)
          → (elim r as (λ _. Tree) [ true ↦ e.1 room | false ↦ known_or grow xs b room ])
          ≡ or_else (elim r as (λ _. Option Tree) [ true ↦ Some (e.1 room) | false ↦ found_in xs b room ]) (grow b room)
      by true h = refl
      by false h = h

  module _ (t : Built) (n : Node) (b : Branch) (room : ℕ) where
    abbrev own_found : Option Tree
    own_found = found_in (known_of w f name (out-Tree t).own) b room

    abbrev lifted_found : Option Tree
    lifted_found = found_in (known_of w f name (out-Tree t).lifted) b room

    arc_tree_is : arc_tree w f name (meant t) n b room ≡ or_else own_found (or_else lifted_found (fresh w n b room))
    unfolding arc_tree fresh
    arc_tree_is =
        ap (λ (es : Known). known_or (fresh_tree limits (here limits w) n) es b room) (known_is t)
        ∙ search (fresh_tree limits (here limits w) n) (known_of w f name (out-Tree t).own) (known_of w f name (out-Tree t).lifted) b room
        ∙ ap (λ (x : Tree). or_else own_found x) (search_all (fresh_tree limits (here limits w) n) (known_of w f name (out-Tree t).lifted) b room)

    pub known_own : (x : Tree) → Some x ≡ own_found → x ≡ arc_tree w f name (meant t) n b room
    known_own x is = ap (λ (o : Option Tree). or_else o (or_else lifted_found (fresh w n b room))) is ∙ sym arc_tree_is

    pub known_lifted : (x : Tree) → None ≡ own_found → Some x ≡ lifted_found → x ≡ arc_tree w f name (meant t) n b room
    known_lifted x not_own is = (λ i. or_else (not_own i) (or_else (is i) (fresh w n b room))) ∙ sym arc_tree_is

    pub known_nowhere : (x : Tree) → None ≡ own_found → None ≡ lifted_found → x ≡ fresh w n b room → x ≡ arc_tree w f name (meant t) n b room
    known_nowhere x not_own not_lifted is = is ∙ (λ i. or_else (not_own i) (or_else (not_lifted i) (fresh w n b room))) ∙ sym arc_tree_is

    zero_test : (m : ℕ) → (suc m == 0) ≡ false
    zero_test m = eqb-suc-zero m

    never : (a : Bool) → both a false ≡ false
    never true = refl
    never false = refl

    not_at_0 : (c : Branch) → b.level ≡ 0 → same_arc (lowered_branch c) b ≡ false
    not_at_0 c is =
        ap (λ (j : ℕ). both (same_kind c.kind b.kind) (both (suc c.level == j)
        (both (same_stack c.lead.stack b.lead.stack) (both (same_path c.lead.target b.lead.target) (same_offset c.lead.offset b.lead.offset))))) is
        ∙ ap (λ (x : Bool). both (same_kind c.kind b.kind) (both x
        (both (same_stack c.lead.stack b.lead.stack) (both (same_path c.lead.target b.lead.target) (same_offset c.lead.offset b.lead.offset))))) (zero_test c.level)
        ∙ never (same_kind c.kind b.kind)

    none_at_0 : (cs : List Child) → b.level ≡ 0 → found_in (known_of w f name cs) b room ≡ None
    none_at_0 [] is = found_nothing b room
    none_at_0 (c ∷ cs) is =
        found_first c cs b room
        ∙ ap (λ (x : Bool). found_by x (known_of w f name cs) (extended_by w f name (meant (out-Child c).tree) room) b room) (not_at_0 (out-Child c).branch is)
        ∙ none_at_0 cs is

    -- an arc of the new level is not known
    pub known_not_yet : (x : Tree) → b.level ≡ 0 → x ≡ fresh w n b room → x ≡ arc_tree w f name (meant t) n b room
    known_not_yet x is made = known_nowhere x (sym (none_at_0 (out-Tree t).own is)) (sym (none_at_0 (out-Tree t).lifted is)) made

  -- ---- the tree

  abbrev built : Tree → ℕ → Node → Here → Tree
  built t room n h =
      let own = grown_from (arc_tree w f name t n) (room - 1) (own_branches n h) in
      node n h own (grown_from (arc_tree w f name t n) (room - 1 - size_among own) (lifted_branches limits n own))

  abbrev said_there : Node → Here → Here
  said_there n h = here_below limits n h (said_at_0 w n)

  extended_is : (t : Tree) (room : ℕ) → extended_by w f name t room ≡ built t room (lowered f name (node_of t)) (said_there (lowered f name (node_of t)) (here_of t))
  unfolding extended_by grown_from arc_tree said_at_0
  extended_is (node n h own lifted) room = refl

  joined_is : (t : Tree) (room left : ℕ) (n : Node) (h : Here) (own lifted : Trees) → left ≡ room - 1
      → own ≡ grown_from (arc_tree w f name t n) left (own_branches n h) → lifted ≡ grown_from (arc_tree w f name t n) (left - size_among own) (lifted_branches limits n own)
      → node n h own lifted ≡ built t room n h
  joined_is t room left n h own lifted begun grew lift =
      let own_is : own ≡ grown_from (arc_tree w f name t n) (room - 1) (own_branches n h) = grew ∙ ap (λ (k : ℕ). grown_from (arc_tree w f name t n) k (own_branches n h)) begun in
      let lifted_is : lifted ≡ grown_from (arc_tree w f name t n) (room - 1 - size_among own) (lifted_branches limits n own) =
      lift ∙ ap (λ (k : ℕ). grown_from (arc_tree w f name t n) (k - size_among own) (lifted_branches limits n own)) begun in
      ap (λ (ts : Trees). node n h own ts) lifted_is
      ∙ ap (λ (ts : Trees). node n h ts (grown_from (arc_tree w f name t n) (room - 1 - size_among ts) (lifted_branches limits n ts))) own_is

  pub extended_made : (t : Built) (room left : ℕ) (n : Node) (h : Here) (own lifted : Trees) (x : Tree) → n ≡ lowered f name (out-Tree t).node
      → h ≡ said_there n (out-Tree t).here → left ≡ room - 1 → own ≡ grown_from (arc_tree w f name (meant t) n) left (own_branches n h)
      → lifted ≡ grown_from (arc_tree w f name (meant t) n) (left - size_among own) (lifted_branches limits n own) → x ≡ node n h own lifted
      → x ≡ extended_by w f name (meant t) room
  extended_made t room left n h own lifted x down told begun grew lift made =
      let node_there : n ≡ lowered f name (node_of (meant t)) = down ∙ ap (λ (m : Node). lowered f name m) (sym (node_is t)) in
      let here_there : h ≡ said_there n (here_of (meant t)) = told ∙ ap (λ (y : Here). said_there n y) (sym (here_is t)) in
      made ∙ joined_is (meant t) room left n h own lifted begun grew lift
      ∙ ap (λ (y : Here). built (meant t) room n y) here_there
      ∙ ap (λ (m : Node). built (meant t) room m (said_there m (here_of (meant t)))) node_there
      ∙ sym (extended_is (meant t) room)
