-- Rounds of choices that decide nothing make the prim's own tree alone, and what stands on the front of a path rests on that front.
use Rattle.std.proofs.Common.{◌≡◌, refl, sym, ap, subst, ◌∙◌, ℕ, zero, suc, ◌+◌, ◌-◌, ◌≤◌, ◌<◌, ◌==◌, ◌||◌, not, Bool, true, false, List, [], ◌∷◌, ◌++◌, length, length-append, take, arith}
use Rattle.std.proofs.lemmas.Bool.{eqb-true}
use Rattle.std.proofs.lemmas.List.{take-take}
use Rattle.composition.specs.Paths.{Path, Limits, limits}
use Rattle.composition.specs.World.{StackName, Root, identity}
use Rattle.composition.specs.Nodes.{Node, Frame, bare, bare_node}
use Rattle.composition.specs.Trees.{Tree}
use Rattle.composition.specs.Compose.{decides_nothing, decided, tree_in_round, round, rounds, frames_along}
use Rattle.composition.specs.Visits.{visited_in_rounds, visited_along}
use Rattle.prim_reads.specs.Gathered.{is_plain}

no_items : {A : Type 0} (xs : List A) → (length xs == 0) ≡ true → xs ≡ []
no_items [] h = refl
no_items (x ∷ xs) h = let e : length (x ∷ xs) ≡ 0 = eqb-true (length (x ∷ xs)) 0 h in absurd (omega (arith, e))

plain_parts : (f : Frame) → is_plain f ≡ true → ((length f.choices == 0) ≡ true) × (f.overgrown ≡ false)
plain_parts f h = by (length f.choices == 0) f.overgrown h
  where
    by : (a b : Bool) → (elim a as (λ _. Bool) [ true ↦ not b | false ↦ false ]) ≡ true → (a ≡ true) × (b ≡ false)
    by true true h = absurd cc
    by true false h = (refl, refl)
    by false b h = absurd cc

none_left : (m n : ℕ) → m ≤ n → (n == 0) ≡ true → (m == 0) ≡ true
none_left zero n less h = refl
none_left (suc m) zero less h = absurd (omega (arith, less))
none_left (suc m) (suc n) less h = let e : suc n ≡ 0 = eqb-true (suc n) 0 h in absurd (omega (arith, e))

module _ (l : Limits) (tree : Node → Tree) where
  round_loaded : (k : ℕ) (n : Node) (above : List Frame) (f : Frame) → (rounds l tree k n above f).loaded ≡ f.loaded
  round_loaded zero n above f = refl
  round_loaded (suc k) n above f = by (decides_nothing f (round l tree n above f)) (round_loaded k n above (round l tree n above f))
    where
      by : (b : Bool) → (rounds l tree k n above (round l tree n above f)).loaded ≡ f.loaded
          → (elim b as (λ _. Frame) [ true ↦ round l tree n above f | false ↦ rounds l tree k n above (round l tree n above f) ]).loaded ≡ f.loaded
      by true rest = refl
      by false rest = rest

  pub still_loaded : (k : ℕ) (n : Node) (above : List Frame) (f : Frame) → (rounds l tree k n above f).loaded ≡ f.loaded
  still_loaded k n above f = round_loaded k n above f

  one_grows : (n : Node) (above : List Frame) (f : Frame) → length f.choices ≤ length (round l tree n above f).choices
  one_grows n above f = let more = length-append f.choices (decided l (tree_in_round l tree n above f) f.choices) in omega (arith, more)

  grows : (k : ℕ) (n : Node) (above : List Frame) (f : Frame) → length f.choices ≤ length (rounds l tree k n above f).choices
  grows zero n above f = omega arith
  grows (suc k) n above f = by (decides_nothing f (round l tree n above f)) (grows k n above (round l tree n above f)) (one_grows n above f)
    where
      by : (b : Bool) → length (round l tree n above f).choices ≤ length (rounds l tree k n above (round l tree n above f)).choices → length f.choices ≤ length (round l tree n above f).choices
          → length f.choices ≤ length (elim b as (λ _. Frame) [ true ↦ round l tree n above f | false ↦ rounds l tree k n above (round l tree n above f) ]).choices
      by true rest first = first
      by false rest first = omega (arith, rest, first)

  module _ (visit : Tree → List Node) (n : Node) (above : List Frame) (on : Bool) where
    abbrev first : Frame
    first = record bare { loaded = on }

    abbrev next : Frame
    next = round l tree n above first

    same_frame : is_plain next ≡ true → next ≡ first
    same_frame plain =
        let parts = plain_parts next plain in
        let chosen : next.choices ≡ [] = no_items next.choices parts.0 in
        λ i. record first { choices = chosen i; overgrown = parts.1 i }

    -- where nothing is chosen the rounds make one tree, the prim's own
    pub one_tree_made : (k : ℕ) → is_plain (rounds l tree (suc k) n above first) ≡ true
        → visited_in_rounds l tree visit (suc k) n above first ≡ visit (tree (record n { frames = rounds l tree (suc k) n above first ∷ above })) ++ []
    one_tree_made k plain = by (decides_nothing first next) refl plain
      where
        by : (b : Bool) → decides_nothing first next ≡ b → is_plain (elim b as (λ _. Frame) [ true ↦ next | false ↦ rounds l tree k n above next ]) ≡ true
            → visit (tree (record n { frames = first ∷ above })) ++ (elim b as (λ _. List Node) [ true ↦ [] | false ↦ visited_in_rounds l tree visit k n above next ])
            ≡ visit (tree (record n { frames = (elim b as (λ _. Frame) [ true ↦ next | false ↦ rounds l tree k n above next ]) ∷ above })) ++ []
        by true is plain = ap (λ (f : Frame). visit (tree (record n { frames = f ∷ above })) ++ []) (sym (same_frame plain))
        by false is plain =
            let none : (length next.choices == 0) ≡ true = none_left (length next.choices) (length (rounds l tree k n above next).choices) (grows k n above next) (plain_parts (rounds l tree k n above next) plain).0 in
            absurd cc

-- ---- fronts of a path

module _ (l : Limits) (tree : Node → Tree) (visit : Tree → List Node) (loaded : Path → Bool) (d : ℕ) where
  abbrev at : Path → Node
  at q = bare_node Root q [] d identity

  pub frames_front : (k m : ℕ) (q : Path) → k ≤ m → frames_along l tree loaded (at (take m q)) k ≡ frames_along l tree loaded (at q) k
  frames_front zero m q less = refl
  frames_front (suc k) m q less =
      let one : take (suc k) (take m q) ≡ take (suc k) q = take-take (suc k) m q less in
      let above : frames_along l tree loaded (at (take m q)) k ≡ frames_along l tree loaded (at q) k = frames_front k m q (omega (arith, less)) in
      λ i. rounds l tree l.rounds (at (one i)) (above i) (record bare { loaded = loaded (one i) }) ∷ above i

  pub along_front : (k m : ℕ) (q : Path) → k ≤ m → visited_along l tree visit loaded (at (take m q)) k ≡ visited_along l tree visit loaded (at q) k
  along_front zero m q less = refl
  along_front (suc k) m q less =
      let one : take (suc k) (take m q) ≡ take (suc k) q = take-take (suc k) m q less in
      let above : frames_along l tree loaded (at (take m q)) k ≡ frames_along l tree loaded (at q) k = frames_front k m q (omega (arith, less)) in
      let rest : visited_along l tree visit loaded (at (take m q)) k ≡ visited_along l tree visit loaded (at q) k = along_front k m q (omega (arith, less)) in
      λ i. rest i ++ visited_in_rounds l tree visit l.rounds (at (one i)) (above i) (record bare { loaded = loaded (one i) })
