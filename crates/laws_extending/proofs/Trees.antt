-- The tree of a node one level down is the node's tree, extended.
use Rattle.std.proofs.Common.{◌≡◌, refl, sym, ap, ◌∙◌, ℕ, ℤ, pos, negsuc, int_le, zero, suc, ◌-◌, ◌≤◌, ◌==◌, Bool, true, false, true≢false, List, [], ◌∷◌, ◌++◌, arith}
use Rattle.std.proofs.lemmas.Bool.{leb-true, eqb-true}
use Rattle.path_maps.specs.declared.kind.ArcKind.{ArcKind}
use Rattle.path_maps.specs.declared.kind.ArcKind.TheVariants.{Inherits, Variant, Reference, Payload, Specializes}
use Rattle.composition.specs.Texts.{Text, both}
use Rattle.composition.specs.Paths.{Limits, same_path}
use Rattle.composition.specs.World.{same_stack, same_number}
use Rattle.composition.specs.Arcs.{same_kind}
use Rattle.composition.specs.Nodes.{Node, Frame, Here}
use Rattle.composition.specs.Trees.{Tree, node, Trees, child, Branch, size, size_among, grown, own_branches, lifted_branches, Meaning, child_tree, arc_child, variant_child, tree_with}
use Rattle.composition.specs.Compose.{bottom, meaning}
use Rattle.composition.proofs.Same.{path_same, stack_same}
use Rattle.agreeing_worlds.proofs.Each.{Each, joined}
use Rattle.agreeing_worlds.proofs.Good.{GoodHere, GoodBranch, GoodTree, GoodAmong, good_own, good_lifted_branches, good_tree}
use Rattle.laws_extending.specs.Extending.{lowered, lowered_branch, here_below, Known, same_arc, known_or, extended, known, below_depth, fresh_tree}
use Rattle.laws_extending.proofs.Lowered.{arc_below, variant_below}

-- ---- arcs that are one

both_parts : (b c : Bool) → both b c ≡ true → (b ≡ true) × (c ≡ true)
both_parts true c h = (refl, h)
both_parts false c h = absurd (true≢false (sym h))

pub kind_same : (a b : ArcKind) → same_kind a b ≡ true → a ≡ b
kind_same Inherits Inherits h = refl
kind_same Variant Variant h = refl
kind_same Reference Reference h = refl
kind_same Payload Payload h = refl
kind_same Specializes Specializes h = refl
kind_same Inherits Variant h = absurd cc
kind_same Inherits Reference h = absurd cc
kind_same Inherits Payload h = absurd cc
kind_same Inherits Specializes h = absurd cc
kind_same Variant Inherits h = absurd cc
kind_same Variant Reference h = absurd cc
kind_same Variant Payload h = absurd cc
kind_same Variant Specializes h = absurd cc
kind_same Reference Inherits h = absurd cc
kind_same Reference Variant h = absurd cc
kind_same Reference Payload h = absurd cc
kind_same Reference Specializes h = absurd cc
kind_same Payload Inherits h = absurd cc
kind_same Payload Variant h = absurd cc
kind_same Payload Reference h = absurd cc
kind_same Payload Specializes h = absurd cc
kind_same Specializes Inherits h = absurd cc
kind_same Specializes Variant h = absurd cc
kind_same Specializes Reference h = absurd cc
kind_same Specializes Payload h = absurd cc

number_same : (a b : ℤ) → same_number a b ≡ true → a ≡ b
number_same (pos m) (pos n) h =
    let parts = both_parts (int_le (pos m) (pos n)) (int_le (pos n) (pos m)) h in
    let one = leb-true m n parts.0 in
    let two = leb-true n m parts.1 in
    let same : m ≡ n = omega (arith, one, two) in
    ap pos same
number_same (pos m) (negsuc n) h = absurd cc
number_same (negsuc m) (pos n) h = absurd cc
number_same (negsuc m) (negsuc n) h =
    let parts = both_parts (int_le (negsuc m) (negsuc n)) (int_le (negsuc n) (negsuc m)) h in
    let one = leb-true n m parts.0 in
    let two = leb-true m n parts.1 in
    let same : m ≡ n = omega (arith, one, two) in
    ap negsuc same

-- what an arc leads to is told by its kind, level and lead
arc_same : (deeper : Meaning) (tree : ℕ → Node → Tree) (n : Node) (a b : Branch) (room : ℕ) → same_arc a b ≡ true → child_tree deeper tree n a room ≡ child_tree deeper tree n b room
arc_same deeper tree n a b room h =
    let one = both_parts (same_kind a.kind b.kind) _ h in
    let two = both_parts (a.level == b.level) _ one.1 in
    let three = both_parts (same_stack a.lead.stack b.lead.stack) _ two.1 in
    let four = both_parts (same_path a.lead.target b.lead.target) _ three.1 in
    let five = both_parts (same_number a.lead.offset.offset b.lead.offset.offset) _ four.1 in
    let kind : a.kind ≡ b.kind = kind_same a.kind b.kind one.0 in
    let lev : a.level ≡ b.level = eqb-true a.level b.level two.0 in
    let stack : a.lead.stack ≡ b.lead.stack = stack_same a.lead.stack b.lead.stack three.0 in
    let target : a.lead.target ≡ b.lead.target = path_same a.lead.target b.lead.target four.0 in
    let offset : a.lead.offset.offset ≡ b.lead.offset.offset = number_same a.lead.offset.offset b.lead.offset.offset five.0 in
    let scale : a.lead.offset.scale ≡ b.lead.offset.scale = number_same a.lead.offset.scale b.lead.offset.scale five.1 in
    λ i. child_tree deeper tree n (record {
      kind = kind i;
      level = lev i;
      lead = record { stack = stack i; target = target i; offset = record { offset = offset i; scale = scale i } };
      lifted = false;
    }) room

-- ---- trees that are grown in one way

same_grown : (t u : Branch → ℕ → Tree) (k : ℕ) → ((b : Branch) (r : ℕ) → suc r ≤ k → t b (suc r) ≡ u b (suc r)) → (bs : List Branch) (room : ℕ) → room ≤ k → grown t room bs ≡ grown u room bs
same_grown t u k same [] room h = refl
same_grown t u k same (b ∷ bs) zero h = refl
same_grown t u k same (b ∷ bs) (suc room) h =
    ap (λ (x : Tree). child b x (grown t (suc room - size x) bs)) (same b room h)
    ∙ ap (λ (xs : Trees). child b (u b (suc room)) xs) (same_grown t u k same bs (suc room - size (u b (suc room))) (omega (arith, h)))

module _ (l : Limits) (here : Node → Here) where
  -- with more steps than there is room nothing else grows
  same_steps : (deeper : Meaning) (s s' : ℕ) (r : ℕ) → suc r ≤ s → suc r ≤ s' → (n : Node) → tree_with l here deeper s (suc r) n ≡ tree_with l here deeper s' (suc r) n
  same_steps deeper zero s' r h h' n = absurd (omega (arith, h))
  same_steps deeper (suc s) zero r h h' n = absurd (omega (arith, h'))
  same_steps deeper (suc s) (suc s') r h h' n = by (λ q e e'. same_steps deeper s s' q e e')
    where
      by : ((q : ℕ) → suc q ≤ s → suc q ≤ s' → (x : Node) → tree_with l here deeper s (suc q) x ≡ tree_with l here deeper s' (suc q) x)
          → tree_with l here deeper (suc s) (suc r) n ≡ tree_with l here deeper (suc s') (suc r) n
      by same =
          let t : Branch → ℕ → Tree = child_tree deeper (tree_with l here deeper s) n in
          let u : Branch → ℕ → Tree = child_tree deeper (tree_with l here deeper s') n in
          let one : (b : Branch) (q : ℕ) → suc q ≤ r → t b (suc q) ≡ u b (suc q) = λ b q e. kinds b q e (same_kind Variant b.kind) in
          let own : grown t (suc r - 1) (own_branches n (here n)) ≡ grown u (suc r - 1) (own_branches n (here n)) = same_grown t u r one (own_branches n (here n)) (suc r - 1) (omega arith) in
          let left : Trees → ℕ = λ ts. suc r - 1 - size_among ts in
          let lifted : grown t (left (grown u (suc r - 1) (own_branches n (here n)))) (lifted_branches l n (grown u (suc r - 1) (own_branches n (here n))))
          ≡ grown u (left (grown u (suc r - 1) (own_branches n (here n)))) (lifted_branches l n (grown u (suc r - 1) (own_branches n (here n)))) =
          same_grown t u r one (lifted_branches l n (grown u (suc r - 1) (own_branches n (here n)))) (left (grown u (suc r - 1) (own_branches n (here n)))) (omega arith) in
          ap (λ (ts : Trees). node n (here n) ts (grown t (left ts) (lifted_branches l n ts))) own
          ∙ ap (λ (ts : Trees). node n (here n) (grown u (suc r - 1) (own_branches n (here n))) ts) lifted
        where
          kinds : (b : Branch) (q : ℕ) → suc q ≤ r → (c : Bool)
              → (elim c as (λ _. Tree) [ true ↦ tree_with l here deeper s (suc q) (variant_child deeper n b) | false ↦ deeper.tree (suc q) (arc_child deeper n b) ])
              ≡ (elim c as (λ _. Tree) [ true ↦ tree_with l here deeper s' (suc q) (variant_child deeper n b) | false ↦ deeper.tree (suc q) (arc_child deeper n b) ])
          kinds b q e true = same q (omega (arith, e, h)) (omega (arith, e, h')) (variant_child deeper n b)
          kinds b q e false = refl

  -- ---- the depths

  pub tree_below : (d : ℕ) (room : ℕ) (n : Node) → (meaning l here d).tree room n ≡ tree_with l here (below_depth l here d) l.nodes room n
  unfolding meaning
  tree_below zero room n = refl
  tree_below (suc d) room n = refl

  good_below : ((n : Node) → GoodHere n (here n)) → (d : ℕ) (room : ℕ) (n : Node) → GoodTree ((below_depth l here d).tree room n)
  unfolding meaning
  good_below says zero room n = tt
  good_below says (suc zero) room n = good_tree l here bottom says (good_below says zero) l.nodes room n
  good_below says (suc (suc d)) room n = good_tree l here (meaning l here d) says (good_below says (suc d)) l.nodes room n

-- ---- what is known is what grows

-- `says`: no arc leads from a node from which none is left; `tells`: what is said at a node one level down
module _ (l : Limits) (here : Node → Here) (says : (n : Node) → GoodHere n (here n)) (new : Node → Here) (f : Frame) (name : Text)
    (tells : (n : Node) → here (lowered f name n) ≡ here_below l (lowered f name n) (here n) (new (lowered f name n))) where
  abbrev fresh : Node → Branch → ℕ → Tree
  fresh = fresh_tree l here

  abbrev further : Tree → ℕ → Tree
  further = extended l new fresh f name

  -- of a node at a depth
  abbrev Extends : ℕ → ℕ → Type 0
  Extends d s = (n : Node) → n.depth ≡ d → (r : ℕ) → suc r ≤ s → suc r ≤ l.nodes → (s' r' : ℕ) → suc r' ≤ s' → suc r' ≤ l.nodes
      → further (tree_with l here (below_depth l here d) s (suc r) n) (suc r') ≡ tree_with l here (below_depth l here d) s' (suc r') (lowered f name n)

  -- of what an arc leads to at a depth
  abbrev ExtendsBelow : ℕ → Type 0
  ExtendsBelow d = (n : Node) → n.depth ≡ d → (b : Branch) → (n.depth == 0) ≡ false → (r : ℕ) → suc r ≤ l.nodes → (r' : ℕ) → suc r' ≤ l.nodes
      → further ((below_depth l here d).tree (suc r) (arc_child (below_depth l here d) n b)) (suc r')
      ≡ (below_depth l here d).tree (suc r') (lowered f name (arc_child (below_depth l here d) n b))

  module _ (d : ℕ) (below : ExtendsBelow d) where
    abbrev deeper : Meaning
    deeper = below_depth l here d

    module _ (s : ℕ) (same : Extends d s) (s' : ℕ) (n : Node) (at : n.depth ≡ d) where
      abbrev m : Node
      m = lowered f name n

      abbrev old : Branch → ℕ → Tree
      old = child_tree deeper (tree_with l here deeper s) n

      abbrev right : Branch → ℕ → Tree
      right = child_tree deeper (tree_with l here deeper s') m

      abbrev IsRight : Branch × (ℕ → Tree) → Type 0
      IsRight e = (r' : ℕ) → suc r' ≤ s' → suc r' ≤ l.nodes → e.1 (suc r') ≡ right e.0 (suc r')

      one_known : (b : Branch) → GoodBranch n b → (r : ℕ) → suc r ≤ s → suc r ≤ l.nodes → (r' : ℕ) → suc r' ≤ s' → suc r' ≤ l.nodes → (c : Bool) → same_kind Variant b.kind ≡ c
          → further (elim c as (λ _. Tree) [ true ↦ tree_with l here deeper s (suc r) (variant_child deeper n b) | false ↦ deeper.tree (suc r) (arc_child deeper n b) ]) (suc r')
          ≡ elim c as (λ _. Tree) [
            | true ↦ tree_with l here deeper s' (suc r') (variant_child deeper m (lowered_branch b))
            | false ↦ deeper.tree (suc r') (arc_child deeper m (lowered_branch b))
          ]
      one_known b good r h k r' h' k' true is =
          same (variant_child deeper n b) at r h k s' r' h' k'
          ∙ ap (λ (x : Node). tree_with l here deeper s' (suc r') x) (sym (variant_below f name deeper n b))
      one_known b good r h k r' h' k' false is =
          below n at b (good.2 is) r k r' k'
          ∙ ap (λ (x : Node). deeper.tree (suc r') x) (sym (arc_below f name deeper n b))

      all_known : (bs : List Branch) → Each (GoodBranch n) bs → (room : ℕ) → room ≤ s → room ≤ l.nodes → Each IsRight (known l new fresh f name (grown old room bs))
      all_known [] good room h k = tt
      all_known (b ∷ bs) good zero h k = tt
      all_known (b ∷ bs) good (suc room) h k = (
        λ r' h' k'. one_known b good.0 room h k r' h' k' (same_kind Variant b.kind) refl,
        all_known bs good.1 (suc room - size (old b (suc room))) (omega (arith, h)) (omega (arith, k)),
      )

      fresh_right : (b : Branch) (r' : ℕ) → suc r' ≤ s' → suc r' ≤ l.nodes → fresh m b (suc r') ≡ right b (suc r')
      fresh_right b r' h' k' =
          ap (λ (a : ℕ). child_tree (below_depth l here a) (tree_with l here (below_depth l here a) l.nodes) m b (suc r')) at
          ∙ by (same_kind Variant b.kind)
        where
          by : (c : Bool) → (elim c as (λ _. Tree) [ true ↦ tree_with l here deeper l.nodes (suc r') (variant_child deeper m b) | false ↦ deeper.tree (suc r') (arc_child deeper m b) ])
              ≡ elim c as (λ _. Tree) [ true ↦ tree_with l here deeper s' (suc r') (variant_child deeper m b) | false ↦ deeper.tree (suc r') (arc_child deeper m b) ]
          by true = same_steps l here deeper l.nodes s' r' k' h' (variant_child deeper m b)
          by false = refl

      known_right : (es : Known) → Each IsRight es → (b : Branch) (r' : ℕ) → suc r' ≤ s' → suc r' ≤ l.nodes → known_or (fresh m) es b (suc r') ≡ right b (suc r')
      known_right [] rights b r' h' k' = fresh_right b r' h' k'
      known_right (e ∷ es) rights b r' h' k' = by (same_arc e.0 b) refl (known_right es rights.1 b r' h' k')
        where
          by : (c : Bool) → same_arc e.0 b ≡ c → known_or (fresh m) es b (suc r') ≡ right b (suc r')
              → (elim c as (λ _. Tree) [ true ↦ e.1 (suc r') | false ↦ known_or (fresh m) es b (suc r') ]) ≡ right b (suc r')
          by true is rest = rights.0 r' h' k' ∙ arc_same deeper (tree_with l here deeper s') m e.0 b (suc r') is
          by false is rest = rest

    extends : (s : ℕ) → Extends d s
    extends zero n at r h k s' r' h' k' = absurd (omega (arith, h))
    extends (suc s) n at r h k zero r' h' k' = absurd (omega (arith, h'))
    extends (suc s) n at r h k (suc s') r' h' k' = by (extends s)
      where
        by : Extends d s → further (tree_with l here deeper (suc s) (suc r) n) (suc r') ≡ tree_with l here deeper (suc s') (suc r') (lowered f name n)
        by same =
            let x : Node = lowered f name n in
            let tree : Branch → ℕ → Tree = child_tree deeper (tree_with l here deeper s) n in
            let own : Trees = grown tree (suc r - 1) (own_branches n (here n)) in
            let left : ℕ = suc r - 1 - size_among own in
            let lifted : Trees = grown tree left (lifted_branches l n own) in
            let there : Branch → ℕ → Tree = child_tree deeper (tree_with l here deeper s') x in
            let es : Known = known l new fresh f name own ++ known l new fresh f name lifted in
            let mine : Branch → ℕ → Tree = known_or (fresh x) es in
            let good_among : GoodAmong n own = good_tree l here deeper says (good_below l here says d) (suc s) (suc r) n in
            let rights : Each (IsRight s same s' n at) es =
            joined (IsRight s same s' n at) (known l new fresh f name own) (known l new fresh f name lifted)
            (all_known s same s' n at (own_branches n (here n)) (good_own n (here n) (says n)) (suc r - 1) (omega (arith, h)) (omega (arith, k)))
            (all_known s same s' n at (lifted_branches l n own) (good_lifted_branches l n own good_among) left (omega (arith, h)) (omega (arith, k))) in
            let one : (b : Branch) (q : ℕ) → suc q ≤ r' → mine b (suc q) ≡ there b (suc q) = λ b q e. known_right s same s' n at es rights b q (omega (arith, e, h')) (omega (arith, e, k')) in
            let said : here_below l x (here n) (new x) ≡ here x = sym (tells n) in
            let room : Trees → ℕ = λ ts. suc r' - 1 - size_among ts in
            let own_here : Trees = grown there (suc r' - 1) (own_branches x (here x)) in
            ap (λ (y : Here). node x y (grown mine (suc r' - 1) (own_branches x y)) (grown mine (room (grown mine (suc r' - 1) (own_branches x y))) (lifted_branches l x (grown mine (suc r' - 1) (own_branches x y))))) said
            ∙ ap (λ (ts : Trees). node x (here x) ts (grown mine (room ts) (lifted_branches l x ts))) (same_grown mine there r' one (own_branches x (here x)) (suc r' - 1) (omega arith))
            ∙ ap (λ (ts : Trees). node x (here x) own_here ts) (same_grown mine there r' one (lifted_branches l x own_here) (room own_here) (omega arith))

  one_deeper : (d : ℕ) → Extends d l.nodes → ExtendsBelow (suc d)
  one_deeper d same n at b some r k r' k' =
      let y : Node = arc_child (meaning l here d) n b in
      ap (λ (t : Tree). further t (suc r')) (tree_below l here d (suc r) y)
      ∙ same y (omega (arith, at)) r k k l.nodes r' k' k'
      ∙ sym (tree_below l here d (suc r') (lowered f name y))

  none_deeper : ExtendsBelow zero
  none_deeper n at b some r k r' k' = absurd (true≢false (sym (ap (λ (a : ℕ). a == 0) at) ∙ some))

  pub extends_at : (d s : ℕ) → Extends d s
  extends_at zero s = extends zero none_deeper s
  extends_at (suc d) s = extends (suc d) (one_deeper d (extends_at d l.nodes)) s
