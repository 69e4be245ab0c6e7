-- Each site of a tree stands once.
use Rattle.std.proofs.Common.{◌≡◌, ◌∙◌, ap, sym, refl, subst, ℕ, Bool, true, false, not, ◌||◌, List, [], ◌∷◌, ◌++◌, map, filter, ◌⊎◌, inl, inr, arith}
use Rattle.std.specs.Prelude.{nat_lt, nat_le}
use Rattle.std.specs.List.{list_any}
use Rattle.std.proofs.lemmas.Bool.{cases_Bool}
use Rattle.std.proofs.lemmas.Bool.Decides.{nat_tests}
use Rattle.std.proofs.lemmas.List.Folds.{list_any-append}
use Rattle.composition.specs.Texts.{both}
use Rattle.composition.specs.Paths.{Limits, same_path}
use Rattle.composition.specs.World.{same_stack}
use Rattle.composition.specs.Strength.{Ranked, same_place, best_places, not_among, strong_of, weak_of, sites}
use Rattle.composition.specs.Trees.{Tree, node_of}
use Rattle.composition.proofs.Same.{path_same, path_itself, stack_same, stack_itself}
use Rattle.composition.proofs.Tests.{both_hold, both_parts}
use Rattle.laws_strength.specs.Laws.{EachSiteOnce}
use Rattle.laws_strength.proofs.Lists.{each}
use Rattle.laws_strength.specs.Ways.{Each, AreApart}

-- ---- tests

neither : (a b : Bool) → (a || b) ≡ false → (a ≡ false) × (b ≡ false)
neither false b h = (refl, h)
neither true b h = absurd (cc h)

both_false : (a b : Bool) → a ≡ false → b ≡ false → (a || b) ≡ false
both_false a b ha hb = λ i. ha i || hb i

not_first : (a b : Bool) → both a b ≡ false → b ≡ true → a ≡ false
not_first false b h there = refl
not_first true b h there = absurd (cc (h, there))

not_both : (a b : ℕ) → nat_le a b ≡ false → nat_lt b a ≡ false → ⊥
not_both a b le lt = grind (arith, nat_tests)

-- two places of one site are so either way round
same_back : (s t : Tree) → same_place s t ≡ true → same_place t s ≡ true
same_back s t h =
    let parts = both_parts (same_stack (node_of s).stack (node_of t).stack) (same_path (node_of s).path (node_of t).path) h in
    let stack = stack_same (node_of s).stack (node_of t).stack parts.0 in
    let path = path_same (node_of s).path (node_of t).path parts.1 in
    both_hold (same_stack (node_of t).stack (node_of s).stack) (same_path (node_of t).path (node_of s).path)
    (ap (λ a. same_stack (node_of t).stack a) stack ∙ stack_itself (node_of t).stack) (ap (λ p. same_path (node_of t).path p) path ∙ path_itself (node_of t).path)

-- ---- lists

-- an entry stands in a list
abbrev In : Ranked → List Ranked → Type 0
In e [] = ⊥
In e (x ∷ xs) = (x ≡ e) ⊎ In e xs

none_at : (p : Ranked → Bool) (e : Ranked) (xs : List Ranked) → In e xs → list_any p xs ≡ false → p e ≡ false
none_at p e [] there none = absurd there
none_at p e (x ∷ xs) (inl is) none = ap p (sym is) ∙ (neither (p x) (list_any p xs) none).0
none_at p e (x ∷ xs) (inr there) none = none_at p e xs there (neither (p x) (list_any p xs) none).1

all_in : (xs : List Ranked) → Each (λ x. In x xs) xs
all_in [] = tt
all_in (x ∷ xs) = (inl refl, each (λ y. In y xs) (λ y. In y (x ∷ xs)) (λ y there. inr there) xs (all_in xs))

passed : (p : Ranked → Bool) (xs : List Ranked) → Each (λ x. p x ≡ true) (filter p xs)
passed p [] = tt
passed p (x ∷ xs) = elim (cases_Bool (p x)) [
  | inl here ↦ rw here (here, passed p xs)
  | inr other ↦ rw other (passed p xs)
]

-- no two entries are of one site
abbrev Apart : List Ranked → Type 0
Apart [] = Unit {0}
Apart (e ∷ es) = (list_any (λ k. same_place e.0 k.0) es ≡ false) × Apart es

joined : (xs ys : List Ranked) → Apart xs → Apart ys → Each (λ x. list_any (λ k. same_place x.0 k.0) ys ≡ false) xs → Apart (xs ++ ys)
joined [] ys first second across = second
joined (x ∷ xs) ys first second across = (
  list_any-append (λ k. same_place x.0 k.0) xs ys ∙ both_false (list_any (λ k. same_place x.0 k.0) xs) (list_any (λ k. same_place x.0 k.0) ys) first.0 across.0,
  joined xs ys first.1 second across.1,
)

any_tree : (t : Tree) (es : List Ranked) → list_any (same_place t) (map (λ e. e.0) es) ≡ list_any (λ k. same_place t k.0) es
any_tree t [] = refl
any_tree t (e ∷ es) = ap (λ b. same_place t e.0 || b) (any_tree t es)

as_trees : (es : List Ranked) → Apart es → AreApart (map (λ e. e.0) es)
as_trees [] apart = tt
as_trees (e ∷ es) apart = (any_tree e.0 es ∙ apart.0, as_trees es apart.1)

-- ---- the places that are kept

module _ (l : Limits) where
  -- the two tests of a place
  abbrev pub beaten : Ranked → List Ranked → Bool
  beaten e before = list_any (λ x. both (nat_le x.1 e.1) (same_place x.0 e.0)) before

  abbrev pub beaten_later : Ranked → List Ranked → Bool
  beaten_later e after = list_any (λ x. both (nat_lt x.1 e.1) (same_place x.0 e.0)) after

  -- a place and those that are kept behind it, by its two tests
  abbrev pub kept_if : Bool → Bool → Ranked → List Ranked → List Ranked
  kept_if one two e es = elim one as (λ _. List Ranked) [ true ↦ es | false ↦ elim two as (λ _. List Ranked) [ true ↦ es | false ↦ e ∷ es ] ]

  within : (P : Ranked → Type 0) (before es : List Ranked) → Each P es → Each P (best_places l before es)
  within P before [] all = tt
  within P before (e ∷ after) all = by (beaten e before) (beaten_later e after) (within P (e ∷ before) after all.1)
    where
      by : (one two : Bool) → Each P (best_places l (e ∷ before) after) → Each P (kept_if one two e (best_places l (e ∷ before) after))
      by true two rest = rest
      by false true rest = rest
      by false false rest = (all.0, rest)

  -- none of the places that are kept later is of the site of a kept one
  apart_from : (e : Ranked) (before es : List Ranked) → In e before → beaten_later e es ≡ false → list_any (λ k. same_place e.0 k.0) (best_places l before es) ≡ false
  apart_from e before [] there none = refl
  apart_from e before (k ∷ after) there none =
      let parts = neither (both (nat_lt k.1 e.1) (same_place k.0 e.0)) (beaten_later e after) none in
      by (beaten k before) (beaten_later k after) refl parts.0 (apart_from e (k ∷ before) after (inr there) parts.1)
    where
      apart : beaten k before ≡ false → both (nat_lt k.1 e.1) (same_place k.0 e.0) ≡ false → (b : Bool) → same_place e.0 k.0 ≡ b → b ≡ false
      apart still later false is = refl
      apart still later true is =
          absurd
          (not_both e.1 k.1 (not_first (nat_le e.1 k.1) (same_place e.0 k.0) (none_at (λ x. both (nat_le x.1 k.1) (same_place x.0 k.0)) e before there still) is)
          (not_first (nat_lt k.1 e.1) (same_place k.0 e.0) later (same_back e.0 k.0 is)))

      by : (one two : Bool) → beaten k before ≡ one → both (nat_lt k.1 e.1) (same_place k.0 e.0) ≡ false → list_any (λ x. same_place e.0 x.0) (best_places l (k ∷ before) after) ≡ false
          → list_any (λ x. same_place e.0 x.0) (kept_if one two k (best_places l (k ∷ before) after)) ≡ false
      by true two is later rest = rest
      by false true is later rest = rest
      by false false is later rest = both_false (same_place e.0 k.0) _ (apart is later (same_place e.0 k.0) refl) rest

  kept_apart : (before es : List Ranked) → Apart (best_places l before es)
  kept_apart before [] = tt
  kept_apart before (e ∷ after) = by (beaten e before) (beaten_later e after) refl (kept_apart (e ∷ before) after)
    where
      by : (one two : Bool) → beaten_later e after ≡ two → Apart (best_places l (e ∷ before) after) → Apart (kept_if one two e (best_places l (e ∷ before) after))
      by true two is rest = rest
      by false true is rest = rest
      by false false is rest = (apart_from e (e ∷ before) after (inl refl) is, rest)

-- ---- the law

no_test : (b : Bool) → not b ≡ true → b ≡ false
no_test false h = refl
no_test true h = absurd (cc h)

across : (strong : List Ranked) (x : Ranked) → In x strong → (ys : List Ranked) → Each (λ y. list_any (λ e. same_place e.0 y.0) strong ≡ false) ys → list_any (λ k. same_place x.0 k.0) ys ≡ false
across strong x there [] all = refl
across strong x there (y ∷ ys) all = both_false (same_place x.0 y.0) _ (none_at (λ e. same_place e.0 y.0) x strong there all.0) (across strong x there ys all.1)

pub each_once : EachSiteOnce
each_once l t =
    let strong = strong_of l t in
    let weak = filter (not_among l strong) (weak_of l t) in
    let alone : Each (λ y. list_any (λ e. same_place e.0 y.0) strong ≡ false) (best_places l [] weak) =
    within l (λ y. list_any (λ e. same_place e.0 y.0) strong ≡ false) [] weak
    (each (λ y. not_among l strong y ≡ true) (λ y. list_any (λ e. same_place e.0 y.0) strong ≡ false) (λ y h. no_test (list_any (λ e. same_place e.0 y.0) strong) h) weak (passed (not_among l strong) (weak_of l t))) in
    as_trees (best_places l [] strong ++ best_places l [] weak)
    (joined (best_places l [] strong) (best_places l [] weak) (kept_apart l [] strong) (kept_apart l [] weak)
    (each (λ x. In x strong) (λ x. list_any (λ k. same_place x.0 k.0) (best_places l [] weak) ≡ false) (λ x there. across strong x there (best_places l [] weak) alone) (best_places l [] strong)
    (within l (λ x. In x strong) [] strong (all_in strong))))
