-- Paths to which no arc leads.
use Rattle.std.proofs.Common.{◌≡◌, ◌∙◌, sym, ap, refl, Bool, true, false, not, ◌&&◌, ◌||◌, IsTrue, ◌↔◌, [], ◌∷◌}
use Rattle.sdf_paths.specs.Paths.{is_selection, is_plain, is_property}
use Rattle.composition.specs.Paths.{Path, has_selections}
use Rattle.composition.specs.Arcs.{is_no_target}

turned : (a b : Bool) → not (not a && b) ≡ (a || not b)
turned true b = refl
turned false b = refl

pub selected : (p : Path) → not (is_plain p) ≡ has_selections p
selected [] = refl
selected (e ∷ p) = turned (is_selection e) (is_plain p) ∙ ap (λ (b : Bool). is_selection e || b) (selected p)

pub root_is_none : (p : Path) (r : Bool) → IsTrue r ↔ (p ≡ []) → r ≡ true → true ≡ is_no_target p
root_is_none p r told is = ap is_no_target (sym (told.0 is))

abbrev by_selection : Bool → Bool → Bool
by_selection property b = elim b as (λ _. Bool) [ true ↦ true | false ↦ property ]

pub selected_is_none : (p : Path) → has_selections p ≡ true → true ≡ is_no_target p
selected_is_none [] h = absurd cc
selected_is_none (e ∷ p) h = sym (ap (by_selection (is_property (e ∷ p))) h)

pub property_is_none : (p : Path) (r : Bool) → IsTrue r ↔ (p ≡ []) → r ≡ false → has_selections p ≡ false → is_property p ≡ is_no_target p
property_is_none [] r told off h = absurd (let on : r ≡ true = told.1 refl in cc)
property_is_none (e ∷ p) r told off h = sym (ap (by_selection (is_property (e ∷ p))) h)
