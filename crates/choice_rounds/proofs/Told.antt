-- What a round decides where sets are told node by node, and opinions site by site.
use Rattle.std.proofs.Common.{◌≡◌, Bool, true, false, cond, ◌&&◌, ◌||◌, List, [], ◌∷◌, ◌++◌, map, flat_map, Option, Some, None, refl, sym, ap, ◌∙◌}
use Rattle.std.specs.List.{list_all, filter_map}
use Rattle.std.specs.Option.{option_or}
use Rattle.std.proofs.lemmas.List.Folds.{list_all-append}
use Rattle.std.proofs.Math.Bool.{or-true}
use Rattle.std.proofs.lemmas.Bool.{and_parts}
use Rattle.variant_select.specs.declared.met.Met.{Met}
use Rattle.variant_select.specs.Rounds.{same_name, is_decided, if_new, new_sets, opinion_on, first_opinion, choice_of, decided as decided_of}
use Rattle.list_ops.specs.ListEdits.{contains, firsts}
use Rattle.composition.specs.Texts.{Text, same_text}
use Rattle.composition.specs.Nodes.{Choices}
use Rattle.composition.specs.Trees.{Tree}
use Rattle.choice_rounds.specs.Met.{met_with, selected_at, opinion_at, met_at_each}
use Rattle.choice_rounds.proofs.Sets.{one_test, firsts_were, given_alike, undecided, undecided_are, undecided_were, first_is, first_of_met, with_variant}
use Rattle.composition.proofs.Same.{same_itself}

-- what each of these places selects of these sets
abbrev pub said_at_each : List Text → List Tree → List Met
said_at_each sets places = flat_map (λ s. map (met_with (selected_at s)) sets) places

-- ---- the first opinion in two lists

or_or : (a b c : Option Text) → option_or a (option_or b c) ≡ option_or (option_or a b) c
or_or None b c = refl
or_or (Some v) b c = refl

first_of_both : (ms rest : List Met) (set : Text) → first_opinion (ms ++ rest) set ≡ option_or (first_opinion ms set) (first_opinion rest set)
first_of_both [] rest set = refl
first_of_both (m ∷ ms) rest set =
    ap (λ (o : Option Text). option_or (opinion_on set m) o) (first_of_both ms rest set) ∙ or_or (opinion_on set m) (first_opinion ms set) (first_opinion rest set)

no_opinions : (xs : List Text) (set : Text) → first_opinion (map (met_with (λ s. None)) xs) set ≡ None
no_opinions xs set = first_is (λ s. None) xs set ∙ none_at (contains same_text xs set)
  where
    none_at : (b : Bool) → ◌≡◌ {A = Option Text} (cond b None None) None
    none_at true = refl
    none_at false = refl

first_said : (xs : List Text) (places : List Tree) (set : Text) → contains same_text xs set ≡ true
    → first_opinion (said_at_each xs places) set ≡ opinion_at places set
first_said xs [] set there = refl
first_said xs (s ∷ places) set there =
    first_of_both (map (met_with (selected_at s)) xs) (said_at_each xs places) set
    ∙ ap (λ (o : Option Text). option_or o (first_opinion (said_at_each xs places) set)) (first_of_met (selected_at s) xs set there)
    ∙ ap (λ (o : Option Text). option_or (selected_at s set) o) (first_said xs places set there)
    ∙ or_else (selected_at s set) (opinion_at places set)
  where
    or_else : (a b : Option Text) → option_or a b ≡ elim a as (λ _. Option Text) [ Some v ↦ Some v | None ↦ b ]
    or_else None b = refl
    or_else (Some v) b = refl

-- ---- sets that are known already

swapped : (a b c : Bool) → ((a || b) || c) ≡ (b || (a || c))
swapped true true c = refl
swapped true false c = refl
swapped false true c = refl
swapped false false c = refl

all_alike : (p q : Met → Bool) → ((m : Met) → p m ≡ q m) → (ms : List Met) → list_all p ms ≡ list_all q ms
all_alike p q h [] = refl
all_alike p q h (m ∷ ms) = ap (λ (b : Bool). b && list_all p ms) (h m) ∙ ap (λ (b : Bool). q m && b) (all_alike p q h ms)

still_all : (p q : Met → Bool) (ms : List Met) → list_all q ms ≡ true → list_all (λ m. p m || q m) ms ≡ true
still_all p q [] h = refl
still_all p q (m ∷ ms) h =
    let two = and_parts (q m) (list_all q ms) h in
    ap (λ (b : Bool). b && list_all (λ m. p m || q m) ms) (ap (λ (b : Bool). p m || b) two.0 ∙ or-true (p m)) ∙ still_all p q ms two.1

none_new : (known : Text → Bool) (ms : List Met) → list_all (λ m. known m.set) ms ≡ true → new_sets known ms ≡ []
none_new known [] h = refl
none_new known (m ∷ ms) h =
    let two = and_parts (known m.set) (list_all (λ (x : Met). known x.set) ms) h in
    ap (λ (b : Bool). (elim b as (λ _. List Text) [ true ↦ [] | false ↦ m.set ∷ [] ]) ++ new_sets (λ s. same_name m.set s || known s) ms) two.0
    ∙ none_new (λ s. same_name m.set s || known s) ms (still_all (λ x. same_name m.set x.set) (λ x. known x.set) ms two.1)

-- what is met again gives no new sets
new_once : (o : Text → Option Text) (known : Text → Bool) (xs : List Text) (ms : List Met) → list_all (λ m. contains same_text xs m.set || known m.set) ms ≡ true
    → new_sets known (map (met_with o) xs ++ ms) ≡ new_sets known (map (met_with o) xs)
new_once o known [] ms h = none_new known ms h
new_once o known (x ∷ xs) ms h =
    ap (λ (l : List Text). if_new known x ++ l) (new_once o (λ s. same_name x s || known s) xs ms (
    sym (all_alike (λ m. (same_text x m.set || contains same_text xs m.set) || known m.set) (λ m. contains same_text xs m.set || (same_name x m.set || known m.set)) (λ m.
    swapped (same_text x m.set) (contains same_text xs m.set) (known m.set) ∙ ap (λ (b : Bool). contains same_text xs m.set || (b || known m.set)) (sym (one_test x m.set))) ms)
    ∙ h))

all_mapped : (q : Text → Bool) (o : Text → Option Text) (xs : List Text) → list_all (λ m. q m.set) (map (met_with o) xs) ≡ list_all q xs
all_mapped q o [] = refl
all_mapped q o (x ∷ xs) = ap (λ (b : Bool). q x && b) (all_mapped q o xs)

all_said : (q : Text → Bool) (xs : List Text) → list_all q xs ≡ true → (places : List Tree) → list_all (λ m. q m.set) (said_at_each xs places) ≡ true
all_said q xs h [] = refl
all_said q xs h (s ∷ places) =
    list_all-append (λ (m : Met). q m.set) (map (met_with (selected_at s)) xs) (said_at_each xs places)
    ∙ ap (λ (b : Bool). b && list_all (λ (m : Met). q m.set) (said_at_each xs places)) (all_mapped q (selected_at s) xs ∙ h)
    ∙ all_said q xs h places

all_among : (q : Text → Bool) (xs : List Text) → ((s : Text) → contains same_text xs s ≡ true → q s ≡ true) → list_all q xs ≡ true
all_among q [] h = refl
all_among q (x ∷ xs) h =
    ap (λ (b : Bool). b && list_all q xs) (h x (ap (λ (b : Bool). b || contains same_text xs x) (same_itself x)))
    ∙ all_among q xs (λ s there. h s (ap (λ (b : Bool). same_text x s || b) there ∙ or-true (same_text x s)))

-- the first opinion on a set that is met: that of the first place that selects a variant of it
first_told : (xs : List Text) (places : List Tree) (set : Text) → contains same_text xs set ≡ true → first_opinion (met_at_each xs places) set ≡ opinion_at places set
first_told xs places set there =
    first_of_both (map (met_with (λ s. None)) xs) (said_at_each xs places) set
    ∙ ap (λ (o : Option Text). option_or o (first_opinion (said_at_each xs places) set)) (no_opinions xs set)
    ∙ first_said xs places set there

-- the sets on which a round decides
sets_told : (xs : List Text) (places : List Tree) (cs : Choices) → new_sets (is_decided cs) (met_at_each xs places) ≡ undecided (firsts same_text xs) cs
sets_told xs places cs = new_once (λ s. None) (is_decided cs) xs (said_at_each xs places) (all_said (λ s. contains same_text xs s || is_decided cs s) xs (all_among (λ s. contains same_text xs s || is_decided cs s) xs among) places) ∙ undecided_are (λ s. None) xs cs
  where
    among : (s : Text) → contains same_text xs s ≡ true → (contains same_text xs s || is_decided cs s) ≡ true
    among s there = ap (λ (b : Bool). b || is_decided cs s) there

-- what a round decides
pub told_is : (xs : List Text) (places : List Tree) (cs : Choices)
    → filter_map (λ set. with_variant set (opinion_at places set)) (undecided (firsts same_text xs) cs) ≡ decided_of cs (met_at_each xs places)
told_is xs places cs =
    given_alike (λ set. with_variant set (opinion_at places set)) (choice_of (met_at_each xs places)) (undecided (firsts same_text xs) cs) (λ set there.
    ap (with_variant set) (sym (first_told xs places set (firsts_were xs set (undecided_were (firsts same_text xs) cs set there)))))
    ∙ ap (filter_map (choice_of (met_at_each xs places))) (sym (sets_told xs places cs))
