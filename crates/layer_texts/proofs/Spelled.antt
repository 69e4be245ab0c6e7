-- Texts that spell words, one behind the other.
use Rattle.std.proofs.Common.{◌≡◌, ℕ, ◌+◌, Bool, true, List, [], ◌∷◌, ◌++◌, append-nil, length, refl, subst}
use Rattle.std.specs.List.{list_all, flat_map}
use Rattle.std.proofs.lemmas.Bool.{and_parts}
use Rattle.value_texts.specs.Cuts.{Said, IsCut}
use Rattle.value_texts.specs.Follows.{anything}
use Rattle.value_texts.specs.Words.{is_no_dot}
use Rattle.value_texts.proofs.Pieces.{nothing_cut}
use Rattle.value_texts.proofs.WordCuts.{cut_worded, both_worded}
use Rattle.layer_texts.specs.Spelled.{IsSpelled}

abbrev pub Follow : Type 0
Follow = List ℕ → Bool

-- a text that is cut into tokens among which is no `.`
pub of_cut : (F : Follow) (t : List ℕ) (x : List Said) → list_all is_no_dot x ≡ true → ((at : ℕ) (rest : List ℕ) → F rest ≡ true → IsCut at t x rest) → IsSpelled F t x
of_cut F t x n cut = record { worded = λ at b rest h k. cut_worded at b t x rest h n (cut at rest k) }

-- one text behind another, which ends the first one
pub joined : {F G : Follow} {s t : List ℕ} {x y : List Said} → IsSpelled G s x → IsSpelled F t y → ((rest : List ℕ) → F rest ≡ true → G (t ++ rest) ≡ true) → IsSpelled F (s ++ t) (x ++ y)
joined {s = s} {t = t} {x = x} {y = y} p q ends = record { worded = λ at b rest h k. both_worded at b s t x y rest (p.worded at b (t ++ rest) h (ends rest k)) (λ c n. q.worded (at + length s) c rest n k) }

-- behind a text that anything may follow
pub then_more : {F : Follow} {s t : List ℕ} {x y : List Said} → IsSpelled anything s x → IsSpelled F t y → IsSpelled F (s ++ t) (x ++ y)
then_more p q = joined p q (λ rest k. refl)

-- a text without words behind another
pub silent : {F G : Follow} {s t : List ℕ} {x : List Said} → IsSpelled G s x → IsSpelled F t [] → ((rest : List ℕ) → F rest ≡ true → G (t ++ rest) ≡ true) → IsSpelled F (s ++ t) x
silent {F = F} {s = s} {t = t} {x = x} p q ends = subst (IsSpelled F (s ++ t)) (append-nil x) (joined p q ends)

pub nothing : (F : Follow) → IsSpelled F [] []
nothing F = of_cut F [] [] refl (λ at rest k. nothing_cut at rest)

-- what may stand before anything may stand before less
pub weaker : {F : Follow} {t : List ℕ} {x : List Said} → IsSpelled anything t x → IsSpelled F t x
weaker p = record { worded = λ at b rest h k. p.worded at b rest h refl }

pub same_text : {F : Follow} {s t : List ℕ} {x : List Said} → s ≡ t → IsSpelled F s x → IsSpelled F t x
same_text {F = F} {x = x} e p = subst (λ u. IsSpelled F u x) e p

-- texts that anything may follow, one behind the other
pub all_spelled : {T : Type 0} (f : T → List ℕ) (g : T → List Said) (w : T → Bool) → ((x : T) → w x ≡ true → IsSpelled anything (f x) (g x))
    → (xs : List T) → list_all w xs ≡ true → IsSpelled anything (flat_map f xs) (flat_map g xs)
all_spelled f g w each [] h = nothing anything
all_spelled f g w each (x ∷ xs) h = let p = and_parts (w x) (list_all w xs) h in then_more (each x p.0) (all_spelled f g w each xs p.1)
