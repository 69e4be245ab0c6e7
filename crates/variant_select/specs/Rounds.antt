-- How the variants of a prim are chosen: by rounds, each over the variant sets that are met with the choices so far.
use Rattle.std.specs.Prelude.{ℕ, zero, suc, Bool, true, false, ◌||◌, List, [], ◌∷◌, ◌++◌, Option, None}
use Rattle.std.specs.Option.{option_map, option_or}
use Rattle.std.specs.Ordering.{nat_cmp}
use Rattle.std.specs.Cmp.Lexicographic.{slice_cmp}
use Rattle.std.specs.BTreeMap.{is_at}
use Rattle.std.specs.List.{list_any, filter_map}
use Rattle.variant_select.specs.declared.met.Met.{Met}

-- the two names are one: they have the same bytes
abbrev pub same_name : List ℕ → List ℕ → Bool
same_name a b = is_at (slice_cmp nat_cmp a) b

-- the set has a choice
abbrev pub is_decided : List (List ℕ × List ℕ) → List ℕ → Bool
is_decided chosen set = list_any (λ c. same_name c.0 set) chosen

-- a set that is met, where it is not known
abbrev pub if_new : (List ℕ → Bool) → List ℕ → List (List ℕ)
if_new known set = elim (known set) [ true ↦ [] | false ↦ set ∷ [] ]

-- the sets that are met, each once, in the order in which they are met, without those that are known
abbrev pub new_sets : (List ℕ → Bool) → List Met → List (List ℕ)
new_sets known [] = []
new_sets known (m ∷ rest) = if_new known m.set ++ new_sets (λ s. same_name m.set s || known s) rest

-- what one opinion says of a set
abbrev pub opinion_on : List ℕ → Met → Option (List ℕ)
opinion_on set m = elim (same_name m.set set) [ true ↦ m.opinion | false ↦ None ]

-- the first opinion on a set in the order of the list
abbrev pub first_opinion : List Met → List ℕ → Option (List ℕ)
first_opinion [] set = None
first_opinion (m ∷ rest) set = option_or (opinion_on set m) (first_opinion rest set)

-- a set with the first opinion on it, where there is one
abbrev pub choice_of : List Met → List ℕ → Option (List ℕ × List ℕ)
choice_of met set = option_map (λ variant. (set, variant)) (first_opinion met set)

-- what a round decides: each set that is met and has no choice takes the first opinion on it, if there is one
abbrev pub decided : List (List ℕ × List ℕ) → List Met → List (List ℕ × List ℕ)
decided chosen met = filter_map (choice_of met) (new_sets (is_decided chosen) met)

-- the choices after one more round, where `met_with` says what is met with given choices
abbrev pub after_round : (List (List ℕ × List ℕ) → List Met) → List (List ℕ × List ℕ) → List (List ℕ × List ℕ)
after_round met_with chosen = chosen ++ decided chosen (met_with chosen)

-- the choices after so many more rounds
unfoldable pub after_rounds : (List (List ℕ × List ℕ) → List Met) → ℕ → List (List ℕ × List ℕ) → List (List ℕ × List ℕ)
after_rounds met_with zero chosen = chosen
after_rounds met_with (suc k) chosen = after_rounds met_with k (after_round met_with chosen)

-- how many rounds are made
abbrev pub round_limit : ℕ
round_limit = 16

-- all choices: those after the rounds, from none
unfoldable pub choices : (List (List ℕ × List ℕ) → List Met) → List (List ℕ × List ℕ)
choices met_with = after_rounds met_with round_limit []
