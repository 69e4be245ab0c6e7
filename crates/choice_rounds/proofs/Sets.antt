-- The sets that a round decides, and the first opinions on them, told in both ways.
use Rattle.std.proofs.Common.{◌≡◌, Bool, true, false, cond, not, ◌||◌, List, [], ◌∷◌, ◌++◌, map, filter, Option, Some, None, refl, sym, ap, ◌∙◌}
use Rattle.std.specs.List.{filter_map, cons_option}
use Rattle.std.specs.Option.{option_or, option_map}
use Rattle.std.proofs.lemmas.Map.Text.{is_eq-slice_cmp}
use Rattle.std.proofs.Math.Bool.{or-true}
use Rattle.variant_select.specs.Rounds.{same_name, is_decided, if_new, new_sets, opinion_on, first_opinion, choice_of, decided as decided_of}
use Rattle.list_ops.specs.ListEdits.{contains, without, firsts}
use Rattle.composition.specs.Texts.{Text, same_text}
use Rattle.composition.specs.Nodes.{Choices}
use Rattle.choice_rounds.specs.Met.{met_with}
use Rattle.composition.proofs.Same.{same_is_bytes, same_text_same, same_itself}

-- ---- names

-- names are compared by one test
pub one_test : (a b : Text) → same_name a b ≡ same_text a b
one_test a b = is_eq-slice_cmp a b ∙ sym (same_is_bytes a b)

-- ---- tests

twice : (b : Bool) → cond b b false ≡ b
twice true = refl
twice false = refl

both_ways : (a b : Bool) → cond a b false ≡ cond b a false
both_ways true true = refl
both_ways true false = refl
both_ways false true = refl
both_ways false false = refl

neither_known : (a b : Bool) → cond (not (a || false)) (not b) false ≡ not (a || b)
neither_known true b = refl
neither_known false b = refl

-- ---- lists without some of their items

-- s is another item than x
abbrev pub differs : Text → Text → Bool
differs x s = not (contains same_text (x ∷ []) s)

-- two tests that answer the same keep the same
kept_alike : (p q : Text → Bool) → ((s : Text) → p s ≡ q s) → (xs : List Text) → filter p xs ≡ filter q xs
kept_alike p q h [] = refl
kept_alike p q h (x ∷ xs) = ap (λ (b : Bool). cond b (x ∷ filter p xs) (filter p xs)) (h x) ∙ ap (λ (l : List Text). cond (q x) (x ∷ l) l) (kept_alike p q h xs)

-- what one test keeps of what another keeps
kept_by_both : (p q r : Text → Bool) → ((s : Text) → cond (q s) (p s) false ≡ r s) → (xs : List Text) → filter p (filter q xs) ≡ filter r xs
kept_by_both p q r h [] = refl
kept_by_both p q r h (x ∷ xs) =
    first (q x)
    ∙ ap (λ (b : Bool). cond b (x ∷ filter p (filter q xs)) (filter p (filter q xs))) (h x)
    ∙ ap (λ (l : List Text). cond (r x) (x ∷ l) l) (kept_by_both p q r h xs)
  where
    first : (b : Bool) → filter p (cond b (x ∷ filter q xs) (filter q xs)) ≡ cond (cond b (p x) false) (x ∷ filter p (filter q xs)) (filter p (filter q xs))
    first true = refl
    first false = refl

-- two tests in either order
kept_in_turn : (p q : Text → Bool) (xs : List Text) → filter p (filter q xs) ≡ filter q (filter p xs)
kept_in_turn p q xs = kept_by_both p q (λ s. cond (q s) (p s) false) (λ s. refl) xs ∙ sym (kept_by_both q p (λ s. cond (q s) (p s) false) (λ s. both_ways (p s) (q s)) xs)

-- one test twice
kept_twice : (p : Text → Bool) (xs : List Text) → filter p (filter p xs) ≡ filter p xs
kept_twice p xs = kept_by_both p p p (λ s. twice (p s)) xs

-- where a test refuses x, the items that are the same need not be left out before
without_refused : (p : Text → Bool) (x : Text) → p x ≡ false → (xs : List Text) → filter p (filter (differs x) xs) ≡ filter p xs
without_refused p x out xs = kept_by_both p (differs x) p (λ s. gone s (same_text x s) refl) xs
  where
    gone : (s : Text) (t : Bool) → same_text x s ≡ t → cond (not (t || false)) (p s) false ≡ p s
    gone s true h = sym (ap p (sym (same_text_same x s h)) ∙ out)
    gone s false h = refl

-- the first of each item that a test keeps
firsts_kept : (p : Text → Bool) (xs : List Text) → firsts same_text (filter p xs) ≡ filter p (firsts same_text xs)
firsts_kept p [] = refl
firsts_kept p (x ∷ xs) = by_test (p x) refl (firsts_kept p xs)
  where
    by_test : (b : Bool) → p x ≡ b → firsts same_text (filter p xs) ≡ filter p (firsts same_text xs)
        → firsts same_text (cond b (x ∷ filter p xs) (filter p xs)) ≡ cond b (x ∷ filter p (filter (differs x) (firsts same_text xs))) (filter p (filter (differs x) (firsts same_text xs)))
    by_test true is before = ap (λ (l : List Text). x ∷ l) (ap (filter (differs x)) before ∙ kept_in_turn (differs x) p (firsts same_text xs))
    by_test false is before = before ∙ sym (without_refused p x is (firsts same_text xs))

-- where repeats are dropped, none are left
firsts_twice : (xs : List Text) → firsts same_text (firsts same_text xs) ≡ firsts same_text xs
firsts_twice [] = refl
firsts_twice (x ∷ xs) = ap (λ (l : List Text). x ∷ l) (
    ap (filter (differs x)) (firsts_kept (differs x) (firsts same_text xs) ∙ ap (filter (differs x)) (firsts_twice xs)) ∙ kept_twice (differs x) (firsts same_text xs))

one_more : (b same kept all : Bool) → (kept ≡ true → all ≡ true) → cond b (same || kept) kept ≡ true → (same || all) ≡ true
one_more true true kept all h is = refl
one_more true false kept all h is = h is
one_more false true kept all h is = refl
one_more false false kept all h is = h is

-- what is among the items that a test keeps is among them all
pub kept_were : (p : Text → Bool) (xs : List Text) (x : Text) → contains same_text (filter p xs) x ≡ true → contains same_text xs x ≡ true
kept_were p [] x h = h
kept_were p (y ∷ ys) x h = one_more (p y) (same_text y x) (contains same_text (filter p ys) x) (contains same_text ys x) (kept_were p ys x) (sym (through (p y)) ∙ h)
  where
    through : (b : Bool) → contains same_text (cond b (y ∷ filter p ys) (filter p ys)) x ≡ cond b (same_text y x || contains same_text (filter p ys) x) (contains same_text (filter p ys) x)
    through true = refl
    through false = refl

-- and what is among the first of each item
pub firsts_were : (xs : List Text) (x : Text) → contains same_text (firsts same_text xs) x ≡ true → contains same_text xs x ≡ true
firsts_were [] x h = h
firsts_were (y ∷ ys) x h =
    let others = filter (differs y) (firsts same_text ys) in
    one_more true (same_text y x) (contains same_text others x) (contains same_text ys x) (λ kept. firsts_were ys x (kept_were (differs y) (firsts same_text ys) x kept)) h

-- two functions that give the same of each item of a list
pub given_alike : (g h : Text → Option (Text × Text)) (xs : List Text) → ((x : Text) → contains same_text xs x ≡ true → g x ≡ h x) → filter_map g xs ≡ filter_map h xs
given_alike g h [] same = refl
given_alike g h (x ∷ xs) same =
    ap (λ (o : Option (Text × Text)). cons_option o (filter_map g xs)) (same x (ap (λ (b : Bool). b || contains same_text xs x) (same_itself x)))
    ∙ ap (λ (l : List (Text × Text)). cons_option (h x) l) (given_alike g h xs (λ y there. same y (ap (λ (b : Bool). same_text x y || b) there ∙ or-true (same_text x y))))

-- ---- the sets that are met, and the opinions on them

-- what is new once x is known
new_beside : (known : Text → Bool) (x : Text) (xs : List Text) → filter (λ s. not (same_name x s || known s)) xs ≡ filter (λ s. not (known s)) (filter (differs x) xs)
new_beside known x xs =
    kept_alike (λ s. not (same_name x s || known s)) (λ s. not (same_text x s || known s)) (λ s. ap (λ (b : Bool). not (b || known s)) (one_test x s)) xs
    ∙ sym (kept_by_both (λ s. not (known s)) (differs x) (λ s. not (same_text x s || known s)) (λ s. neither_known (same_text x s) (known s)) xs)

-- the sets that are met, each once, without those that are known
new_are : (o : Text → Option Text) (known : Text → Bool) (xs : List Text) → new_sets known (map (met_with o) xs) ≡ filter (λ s. not (known s)) (firsts same_text xs)
new_are o known [] = refl
new_are o known (x ∷ xs) =
    ap (λ (l : List Text). if_new known x ++ l) (new_are o (λ s. same_name x s || known s) xs ∙ new_beside known x (firsts same_text xs))
    ∙ first (known x) (filter (λ s. not (known s)) (filter (differs x) (firsts same_text xs)))
  where
    first : (b : Bool) (l : List Text) → (elim b as (λ _. List Text) [ true ↦ [] | false ↦ x ∷ [] ]) ++ l ≡ cond (not b) (x ∷ l) l
    first true l = refl
    first false l = refl

-- the sets that have a choice
chosen_are : (cs : Choices) (set : Text) → is_decided cs set ≡ contains same_text (map (λ c. c.0) cs) set
chosen_are [] set = refl
chosen_are (c ∷ cs) set = ap (λ (b : Bool). b || is_decided cs set) (one_test c.0 set) ∙ ap (λ (b : Bool). same_text c.0 set || b) (chosen_are cs set)

-- the sets on which a round decides
abbrev pub undecided : List Text → Choices → List Text
undecided xs cs = without same_text xs (map (λ c. c.0) cs)

pub undecided_are : (o : Text → Option Text) (xs : List Text) (cs : Choices) → new_sets (is_decided cs) (map (met_with o) xs) ≡ undecided (firsts same_text xs) cs
undecided_are o xs cs =
    new_are o (is_decided cs) xs
    ∙ kept_alike (λ s. not (is_decided cs s)) (λ s. not (contains same_text (map (λ c. c.0) cs) s)) (λ s. ap not (chosen_are cs s)) (firsts same_text xs)

pub undecided_were : (xs : List Text) (cs : Choices) (set : Text) → contains same_text (undecided xs cs) set ≡ true → contains same_text xs set ≡ true
undecided_were xs cs set there = kept_were (λ s. not (contains same_text (map (λ c. c.0) cs) s)) xs set there

first_or : (a b there : Bool) (mine its : Option Text) → a ≡ b → (b ≡ true → mine ≡ its)
    → option_or (elim a as (λ _. Option Text) [ true ↦ mine | false ↦ None ]) (cond there its None) ≡ cond (b || there) its None
first_or true true there mine its e h = ap (λ (m : Option Text). option_or m (cond there its None)) (h refl) ∙ itself its there
  where
    itself : (o : Option Text) (t : Bool) → option_or o (cond t o None) ≡ o
    itself None true = refl
    itself None false = refl
    itself (Some v) t = refl
first_or true false there mine its e h = absurd cc
first_or false true there mine its e h = absurd cc
first_or false false there mine its e h = refl

-- the first opinion on a set: the one that it is met with, if it is met
pub first_is : (o : Text → Option Text) (xs : List Text) (set : Text) → first_opinion (map (met_with o) xs) set ≡ cond (contains same_text xs set) (o set) None
first_is o [] set = refl
first_is o (x ∷ xs) set =
    ap (λ (r : Option Text). option_or (opinion_on set (met_with o x)) r) (first_is o xs set)
    ∙ first_or (same_name x set) (same_text x set) (contains same_text xs set) (o x) (o set) (one_test x set) (λ same. ap o (same_text_same x set same))

pub first_of_met : (o : Text → Option Text) (xs : List Text) (set : Text) → contains same_text xs set ≡ true → first_opinion (map (met_with o) xs) set ≡ o set
first_of_met o xs set there = first_is o xs set ∙ ap (λ (b : Bool). cond b (o set) None) there

-- a set with the variant that is selected of it
abbrev pub with_variant : Text → Option Text → Option (Text × Text)
with_variant set o = option_map (λ v. (set, v)) o

-- what a round decides
pub decided_is : (o : Text → Option Text) (xs : List Text) (cs : Choices)
    → filter_map (λ set. with_variant set (o set)) (undecided (firsts same_text xs) cs) ≡ decided_of cs (map (met_with o) (firsts same_text xs))
decided_is o xs cs =
    let sets = firsts same_text xs in
    given_alike (λ set. with_variant set (o set)) (choice_of (map (met_with o) sets)) (undecided sets cs) (λ set there.
    ap (with_variant set) (sym (first_of_met o sets set (undecided_were sets cs set there))))
    ∙ ap (filter_map (choice_of (map (met_with o) sets))) (sym (undecided_are o sets cs ∙ ap (λ (l : List Text). undecided l cs) (firsts_twice xs)))
