-- A list without a last item.
use Rattle.std.proofs.Common.{◌≡◌, ◌∙◌, sym, ap, List, [], ◌∷◌, Option, None, Result, Ok, refl}
use Rattle.plain_data.specs.Ends.{last, front}
use Rattle.sdf_values.specs.declared.refusal.RefusalKind.{RefusalKind}
use Rattle.usda_lists.specs.Lists.{amended, amend_last}

some_last : {A : Type 0} (x : A) (xs : List A) → last (x ∷ xs) ≡ None → ⊥
some_last x [] e = cc
some_last x (y ∷ ys) e = some_last y ys e

pub front_none : {A : Type 0} (xs : List A) → last xs ≡ None → front xs ≡ xs
front_none [] e = refl
front_none (x ∷ xs) e = absurd (some_last x xs e)

-- a list without a last item stays as it is
pub amend_none : {A : Type 0} (change : A → Result A RefusalKind) (xs rest : List A) (o : Option A) → last xs ≡ o → o ≡ None → rest ≡ front xs → amend_last change xs ≡ Ok rest
amend_none change xs rest o is none left =
    ap (λ p. amended change p xs) (is ∙ none) ∙ ap Ok (sym (left ∙ front_none xs (is ∙ none)))
