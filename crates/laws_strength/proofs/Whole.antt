-- Each node of a tree's listing stands at one of its sites.
use Rattle.std.proofs.Common.{◌≡◌, ◌∙◌, ap, sym, refl, ℕ, Bool, true, false, not, cond, ◌||◌, List, [], ◌∷◌, ◌++◌, map, filter, ◌⊎◌, inl, inr, arith}
use Rattle.std.specs.Prelude.{nat_lt, nat_le}
use Rattle.std.specs.List.{list_any}
use Rattle.std.proofs.lemmas.Bool.Decides.{nat_tests}
use Rattle.composition.specs.Texts.{both}
use Rattle.composition.specs.Paths.{Limits, same_path}
use Rattle.composition.specs.World.{same_stack}
use Rattle.composition.specs.Strength.{Ranked, same_place, best_places, not_among, strong_of, weak_of, sites}
use Rattle.composition.specs.Trees.{Tree, node_of}
use Rattle.composition.proofs.Same.{path_same, path_itself, stack_same, stack_itself}
use Rattle.composition.proofs.Tests.{both_hold, both_parts}
use Rattle.laws_strength.proofs.Lists.{each, together}
use Rattle.laws_strength.proofs.Once.{beaten, beaten_later, kept_if}
use Rattle.laws_strength.specs.Laws.{EachNodeAtASite}
use Rattle.laws_strength.specs.Ways.{Each}

-- ---- places

same_itself : (s : Tree) → same_place s s ≡ true
same_itself s =
    both_hold (same_stack (node_of s).stack (node_of s).stack) (same_path (node_of s).path (node_of s).path) (stack_itself (node_of s).stack) (path_itself (node_of s).path)

-- a place is of the site of a second, and that of the site of a third
same_on : (s t u : Tree) → same_place s t ≡ true → same_place t u ≡ true → same_place s u ≡ true
same_on s t u h k =
    let first = both_parts (same_stack (node_of s).stack (node_of t).stack) (same_path (node_of s).path (node_of t).path) h in
    let second = both_parts (same_stack (node_of t).stack (node_of u).stack) (same_path (node_of t).path (node_of u).path) k in
    let stack = stack_same (node_of t).stack (node_of u).stack second.0 in
    let path = path_same (node_of t).path (node_of u).path second.1 in
    both_hold (same_stack (node_of s).stack (node_of u).stack) (same_path (node_of s).path (node_of u).path)
    (ap (λ a. same_stack (node_of s).stack a) (sym stack) ∙ first.0) (ap (λ p. same_path (node_of s).path p) (sym path) ∙ first.1)

at_most : (a b c : ℕ) → nat_le a b ≡ true → nat_le b c ≡ true → nat_le a c ≡ true
at_most a b c h k = grind (arith, nat_tests)

at_most_below : (a b c : ℕ) → nat_le a b ≡ true → nat_lt b c ≡ true → nat_le a c ≡ true
at_most_below a b c h k = grind (arith, nat_tests)

not_both : (a b : ℕ) → nat_le a b ≡ true → nat_lt b a ≡ true → ⊥
not_both a b h k = grind (arith, nat_tests)

-- a place beats another of its site: its rank is no greater
abbrev Beats : Ranked → Ranked → Type 0
Beats x e = both (nat_le x.1 e.1) (same_place x.0 e.0) ≡ true

-- or it is less
abbrev BeatsLater : Ranked → Ranked → Type 0
BeatsLater x e = both (nat_lt x.1 e.1) (same_place x.0 e.0) ≡ true

beats_on : (x y e : Ranked) → Beats x y → Beats y e → Beats x e
beats_on x y e h k =
    let first = both_parts (nat_le x.1 y.1) (same_place x.0 y.0) h in
    let second = both_parts (nat_le y.1 e.1) (same_place y.0 e.0) k in
    both_hold (nat_le x.1 e.1) (same_place x.0 e.0) (at_most x.1 y.1 e.1 first.0 second.0) (same_on x.0 y.0 e.0 first.1 second.1)

beats_below : (x y e : Ranked) → Beats x y → BeatsLater y e → Beats x e
beats_below x y e h k =
    let first = both_parts (nat_le x.1 y.1) (same_place x.0 y.0) h in
    let second = both_parts (nat_lt y.1 e.1) (same_place y.0 e.0) k in
    both_hold (nat_le x.1 e.1) (same_place x.0 e.0) (at_most_below x.1 y.1 e.1 first.0 second.0) (same_on x.0 y.0 e.0 first.1 second.1)

beats_not : (x e : Ranked) → Beats x e → BeatsLater e x → ⊥
beats_not x e h k = not_both x.1 e.1 (both_parts (nat_le x.1 e.1) (same_place x.0 e.0) h).0 (both_parts (nat_lt e.1 x.1) (same_place e.0 x.0) k).0

-- ---- lists

-- some entry of a list is such
abbrev At : (Ranked → Type 0) → List Ranked → Type 0
At P [] = ⊥
At P (x ∷ xs) = P x ⊎ At P xs

at_too : (P Q : Ranked → Type 0) → ((x : Ranked) → P x → Q x) → (xs : List Ranked) → At P xs → At Q xs
at_too P Q f [] there = absurd there
at_too P Q f (x ∷ xs) (inl here) = inl (f x here)
at_too P Q f (x ∷ xs) (inr there) = inr (at_too P Q f xs there)

found : (p : Ranked → Bool) (xs : List Ranked) → list_any p xs ≡ true → At (λ x. p x ≡ true) xs
found p [] h = absurd (cc h)
found p (x ∷ xs) h = by (p x) refl h (found p xs)
  where
    by : (b : Bool) → p x ≡ b → (b || list_any p xs) ≡ true → (list_any p xs ≡ true → At (λ y. p y ≡ true) xs) → At (λ y. p y ≡ true) (x ∷ xs)
    by true is h more = inl is
    by false is h more = inr (more h)

told : (p : Ranked → Bool) (xs : List Ranked) → At (λ x. p x ≡ true) xs → list_any p xs ≡ true
told p [] there = absurd there
told p (x ∷ xs) (inl here) = ap (λ b. b || list_any p xs) here
told p (x ∷ xs) (inr there) = ap (λ b. p x || b) (told p xs there) ∙ or_true (p x)
  where
    or_true : (b : Bool) → (b || true) ≡ true
    or_true true = refl
    or_true false = refl

-- what holds of each entry and what holds of some meet in one
meet : (P Q : Ranked → Type 0) (R : Type 0) → ((x : Ranked) → P x → Q x → R) → (xs : List Ranked) → Each P xs → At Q xs → R
meet P Q R f [] all there = absurd there
meet P Q R f (x ∷ xs) all (inl here) = f x all.0 here
meet P Q R f (x ∷ xs) all (inr there) = meet P Q R f xs all.1 there

in_front : (P : Ranked → Type 0) (xs ys : List Ranked) → At P xs → At P (xs ++ ys)
in_front P [] ys there = absurd there
in_front P (x ∷ xs) ys (inl here) = inl here
in_front P (x ∷ xs) ys (inr there) = inr (in_front P xs ys there)

behind : (P : Ranked → Type 0) (xs ys : List Ranked) → At P ys → At P (xs ++ ys)
behind P [] ys there = there
behind P (x ∷ xs) ys there = inr (behind P xs ys there)

-- ---- the places that are kept

-- an entry is beaten by one of these, or its site is kept
abbrev IsSettled : List Ranked → List Ranked → Ranked → Type 0
IsSettled before kept e = At (λ x. Beats x e) before ⊎ At (λ k. same_place k.0 e.0 ≡ true) kept

module _ (l : Limits) where
  kept_more : (P : Ranked → Type 0) (one two : Bool) (f : Ranked) (rest : List Ranked) → At P rest → At P (kept_if l one two f rest)
  kept_more P true two f rest there = there
  kept_more P false true f rest there = there
  kept_more P false false f rest there = inr there

  -- the first of some entries, once the others are settled
  first_settled : (f : Ranked) (before after rest : List Ranked) → Each (IsSettled (f ∷ before) rest) after → (one two : Bool) → beaten l f before ≡ one → beaten_later l f after ≡ two
      → IsSettled before (kept_if l one two f rest) f
  first_settled f before after rest others true two is later = inl (found (λ x. both (nat_le x.1 f.1) (same_place x.0 f.0)) before is)
  first_settled f before after rest others false false is later = inr (inl (same_itself f.0))
  first_settled f before after rest others false true is later =
      meet (IsSettled (f ∷ before) rest) (λ y. BeatsLater y f) (IsSettled before rest f) by after others (found (λ x. both (nat_lt x.1 f.1) (same_place x.0 f.0)) after later)
    where
      by : (y : Ranked) → IsSettled (f ∷ before) rest y → BeatsLater y f → IsSettled before rest f
      by y (inl (inl beats)) less = absurd (beats_not f y beats less)
      by y (inl (inr there)) less = inl (at_too (λ x. Beats x y) (λ x. Beats x f) (λ x beats. beats_below x y f beats less) before there)
      by y (inr there) less =
          inr (at_too (λ k. same_place k.0 y.0 ≡ true) (λ k. same_place k.0 f.0 ≡ true) (λ k same. same_on k.0 y.0 f.0 same (both_parts (nat_lt y.1 f.1) (same_place y.0 f.0) less).1) rest there)

  -- an entry behind the first one, which is settled with those that stand before it
  later_settled : (f : Ranked) (before after : List Ranked) → IsSettled before (best_places l before (f ∷ after)) f → (e : Ranked) → IsSettled (f ∷ before) (best_places l (f ∷ before) after) e
      → IsSettled before (best_places l before (f ∷ after)) e
  later_settled f before after (inl there) e (inl (inl beats)) = inl (at_too (λ x. Beats x f) (λ x. Beats x e) (λ x one. beats_on x f e one beats) before there)
  later_settled f before after (inr there) e (inl (inl beats)) =
      inr
      (at_too (λ k. same_place k.0 f.0 ≡ true) (λ k. same_place k.0 e.0 ≡ true) (λ k same. same_on k.0 f.0 e.0 same (both_parts (nat_le f.1 e.1) (same_place f.0 e.0) beats).1)
      (best_places l before (f ∷ after)) there)
  later_settled f before after own e (inl (inr there)) = inl there
  later_settled f before after own e (inr there) = inr (kept_more (λ k. same_place k.0 e.0 ≡ true) (beaten l f before) (beaten_later l f after) f (best_places l (f ∷ before) after) there)

  settled : (before es : List Ranked) → Each (IsSettled before (best_places l before es)) es
  settled before [] = tt
  settled before (f ∷ after) =
      let others = settled (f ∷ before) after in
      let own : IsSettled before (best_places l before (f ∷ after)) f =
      first_settled f before after (best_places l (f ∷ before) after) others (beaten l f before) (beaten_later l f after) refl refl in
      (own, each (IsSettled (f ∷ before) (best_places l (f ∷ before) after)) (IsSettled before (best_places l before (f ∷ after))) (later_settled f before after own) after others)

  -- of some places each is of a site that is kept
  all_kept : (es : List Ranked) → Each (λ e. At (λ k. same_place k.0 e.0 ≡ true) (best_places l [] es)) es
  all_kept es = each (IsSettled [] (best_places l [] es)) (λ e. At (λ k. same_place k.0 e.0 ≡ true) (best_places l [] es)) by es (settled [] es)
    where
      by : (e : Ranked) → IsSettled [] (best_places l [] es) e → At (λ k. same_place k.0 e.0 ≡ true) (best_places l [] es)
      by e (inl there) = absurd there
      by e (inr there) = there

-- ---- the law

-- a place that a filter leaves out fails its test
left_or_kept : (P : Ranked → Type 0) (p : Ranked → Bool) (ys : List Ranked) → Each P (filter p ys) → ((y : Ranked) → p y ≡ false → P y) → Each P ys
left_or_kept P p [] kept left = tt
left_or_kept P p (y ∷ ys) kept left = by (p y) refl kept (λ rest. left_or_kept P p ys rest left)
  where
    by : (b : Bool) → p y ≡ b → Each P (cond b (y ∷ filter p ys) (filter p ys)) → (Each P (filter p ys) → Each P ys) → Each P (y ∷ ys)
    by true is kept more = (kept.0, more kept.1)
    by false is kept more = (left y is, more kept)

as_trees : (kept es : List Ranked) → Each (λ e. At (λ k. same_place k.0 e.0 ≡ true) kept) es → Each (λ s. list_any (λ k. same_place k s) (map (λ e. e.0) kept) ≡ true) (map (λ e. e.0) es)
as_trees kept [] all = tt
as_trees kept (e ∷ es) all = (any_tree kept ∙ told (λ k. same_place k.0 e.0) kept all.0, as_trees kept es all.1)
  where
    any_tree : (ks : List Ranked) → list_any (λ k. same_place k e.0) (map (λ x. x.0) ks) ≡ list_any (λ k. same_place k.0 e.0) ks
    any_tree [] = refl
    any_tree (k ∷ ks) = ap (λ b. same_place k.0 e.0 || b) (any_tree ks)

pub each_at_a_site : EachNodeAtASite
each_at_a_site l t =
    let strong = strong_of l t in
    let weak = filter (not_among l strong) (weak_of l t) in
    let kept = best_places l [] strong ++ best_places l [] weak in
    let P : Ranked → Type 0 = λ e. At (λ k. same_place k.0 e.0 ≡ true) kept in
    let of_strong : Each (λ e. At (λ k. same_place k.0 e.0 ≡ true) (best_places l [] strong)) strong = all_kept l strong in
    as_trees kept (strong ++ weak_of l t)
    (together P strong (weak_of l t)
    (each (λ e. At (λ k. same_place k.0 e.0 ≡ true) (best_places l [] strong)) P (λ e there. in_front (λ k. same_place k.0 e.0 ≡ true) (best_places l [] strong) (best_places l [] weak) there) strong of_strong)
    (left_or_kept P (not_among l strong) (weak_of l t)
    (each (λ e. At (λ k. same_place k.0 e.0 ≡ true) (best_places l [] weak)) P (λ e there. behind (λ k. same_place k.0 e.0 ≡ true) (best_places l [] strong) (best_places l [] weak) there) weak (all_kept l weak))
    (λ y left.
    meet (λ e. At (λ k. same_place k.0 e.0 ≡ true) (best_places l [] strong)) (λ e. same_place e.0 y.0 ≡ true) (P y)
    (λ e there same.
    in_front (λ k. same_place k.0 y.0 ≡ true) (best_places l [] strong) (best_places l [] weak)
    (at_too (λ k. same_place k.0 e.0 ≡ true) (λ k. same_place k.0 y.0 ≡ true) (λ k one. same_on k.0 e.0 y.0 one same) (best_places l [] strong) there))
    strong of_strong (found (λ e. same_place e.0 y.0) strong (not_not (list_any (λ e. same_place e.0 y.0) strong) left)))))
  where
    not_not : (b : Bool) → not b ≡ false → b ≡ true
    not_not true h = refl
    not_not false h = absurd (cc h)
