-- Names with a table of those that were met.
use Rattle.std.proofs.Common.{◌≡◌, ◌∙◌, sym, ap, refl, subst, Bool, true, false, cond, ◌||◌, List, [], ◌∷◌, ◌++◌, Option, Some}
use Rattle.std.specs.List.{list_any}
use Rattle.std.specs.Option.{is_some}
use Rattle.std.proofs.lemmas.List.Folds.{list_any-append}
use Rattle.composition.specs.Texts.{Text, same_text}
use Rattle.layer_set.specs.Named.{at_name, with_name}
use Rattle.layer_stack.proofs.Names.{at_with}

-- the table has the names of the list
abbrev pub Tells : List (Text × Bool) → List Text → Type 0
Tells met listed = (q : Text) → is_some (at_name q met) ≡ list_any (same_text q) listed

either : (t b : Bool) (o : Option Bool) → is_some o ≡ b → is_some (cond t (Some true) o) ≡ (b || (t || false))
either true true o h = refl
either true false o h = refl
either false true o h = h
either false false o h = h

still_tells : (met : List (Text × Bool)) (listed : List Text) (name : Text) → Tells met listed → Tells (with_name name true met) (listed ++ name ∷ [])
still_tells met listed name tells q =
    ap (λ (o : Option Bool). is_some o) (at_with q name true met)
    ∙ (either (same_text q name) (list_any (same_text q) listed) (at_name q met) (tells q)
    ∙ sym (list_any-append (same_text q) listed (name ∷ [])))

pub met_more : (met new_met : List (Text × Bool)) (listed new : List Text) (name key : Text) → Tells met listed → key ≡ name → new_met ≡ with_name key true met
    → new ≡ listed ++ name ∷ [] → Tells new_met new
met_more met new_met listed new name key tells same put pushed =
    let made : new_met ≡ with_name name true met = put ∙ ap (λ (k : Text). with_name k true met) same in
    subst (λ (m : List (Text × Bool)). Tells m new) (sym made)
    (subst (λ (l : List Text). Tells (with_name name true met) l) (sym pushed) (still_tells met listed name tells))
