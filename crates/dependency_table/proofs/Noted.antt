-- Places that are noted at keys, and taken away again.
use Rattle.std.proofs.Common.{◌≡◌, ℕ, Bool, true, false, ◌&&◌, ◌||◌, not, List, take, drop, sym, refl, ap, ◌∙◌}
use Rattle.std.specs.List.{list_any}
use Rattle.std.proofs.lemmas.List.Folds.{list_any-append}
use lib.ListN.{take-append-drop}

or_left : (a b : Bool) → a ≡ true → (a || b) ≡ true
or_left true b is = refl
or_left false b is = absurd cc

-- what the first elements pass, the list passes
pub any_of_first : {X : Type 0} (p : X → Bool) (xs : List X) (i : ℕ) → list_any p (take i xs) ≡ true → list_any p xs ≡ true
any_of_first p xs i is = ap (list_any p) (sym (take-append-drop i xs)) ∙ (list_any-append p (take i xs) (drop i xs) ∙ or_left (list_any p (take i xs)) (list_any p (drop i xs)) is)

-- what was noted at some of these keys, at none of which it was before, and then taken away from all of them
pub undone : (was some all here : Bool) → (some ≡ true → all ≡ true) → (all ≡ true → here ≡ true → was ≡ false) → ((was || (some && here)) && not (all && here)) ≡ was
undone true some true true within apart = absurd (let h : true ≡ false = apart refl refl in cc)
undone true some true false within apart = refl
undone true some false here within apart = refl
undone false true true true within apart = refl
undone false true true false within apart = refl
undone false true false here within apart = absurd (let h : false ≡ true = within refl in cc)
undone false false all here within apart = refl
