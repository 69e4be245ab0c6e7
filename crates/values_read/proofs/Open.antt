-- Each token keeps the value of a statement sound.
use Rattle.std.proofs.Common.{◌≡◌, ℕ, Bool, true, false, not, List, Option, Some, None, Ok, Err, refl, subst}
use Rattle.std.specs.Prelude.{if◌then◌else◌}
use Rattle.sdf_paths.specs.Paths.{IsPath}
use Rattle.sdf_paths.specs.declared.element.Element.{Element}
use Rattle.sdf_values.specs.declared.refusal.RefusalKind.TheVariants.{ValueShape}
use Rattle.usda_lexer.specs.Meanings.{path_text}
use Rattle.usda_lexer.specs.declared.token.TokenKind.{TokenKind}
use Rattle.usda_lexer.specs.declared.token.TokenKind.TheVariants as kind
use Rattle.usda_fields.specs.Variants.{of_strings, is_behind_type, is_string}
use Rattle.usda_lists.specs.Acts.{and_then}
use Rattle.usda_lists.specs.Paths.{absolute_from}
use Rattle.usda_statements.specs.OpenValues.{given_token, given_path, given_in, with_draft, given}
use Rattle.usda_statements.specs.declared.open_value.OpenValue.{OpenValue}
use Rattle.usda_values.specs.Drafts.{Acted, value_act, is_complete}
use Rattle.usda_values.specs.declared.draft.ValueDraft.{ValueDraft}
use Rattle.usda_values.specs.declared.shape.Shape.{Shape}
use Rattle.values_read.specs.Laws.{OpenValuesAreSound}
use Rattle.values_read.specs.Sound.{IsSoundDraft}
use Rattle.values_read.specs.Tokens.{is_lexed, is_sound_token}
use Rattle.values_read.proofs.Keeps.{sound}
use Rattle.values_read.proofs.Paths.{paths_sound}

-- the test for strings leaves a draft as it is
strings_same : (d next : ValueDraft) → of_strings d ≡ Ok next → d ≡ next
strings_same d next h = cases (is_behind_type d.place) (is_string d.level.ty) h
  where
    cases : (a b : Bool) → (if a then (if b then Ok d else Err ValueShape) else Ok d) ≡ Ok next → d ≡ next
    cases true true g = cc g
    cases true false g = absurd cc
    cases false b g = cc g

token_given : (shape : Shape) (only : Bool) (k : TokenKind) (text : List ℕ) (d next : ValueDraft) → is_sound_token k text ≡ true → IsSoundDraft shape d → given_token only k text d ≡ Ok next → IsSoundDraft shape next
token_given shape false k text d next s is h = sound.kept shape d next k text s is h
token_given shape true k text d next s is h = cases (value_act k text d) refl h
  where
    cases : (r : Acted) → value_act k text d ≡ r → and_then r of_strings ≡ Ok next → IsSoundDraft shape next
    cases (Err e) acted g = absurd cc
    cases (Ok mid) acted g = subst (IsSoundDraft shape) (strings_same mid next g) (sound.kept shape d mid k text s is acted)

in_given : (shape : Shape) (base : List Element) (only : Bool) (k : TokenKind) (text : List ℕ) (d next : ValueDraft) → IsPath base → is_lexed k text ≡ true → IsSoundDraft shape d → given_in base only k text d ≡ Ok next
    → IsSoundDraft shape next
in_given shape base only kind.Path text d next path s is h = cases (absolute_from base (path_text text)) refl h
  where
    cases : (o : Option (List ℕ)) → absolute_from base (path_text text) ≡ o → given_path only o d ≡ Ok next → IsSoundDraft shape next
    cases None e g = absurd cc
    cases (Some token) e g = token_given shape only kind.Path token d next (paths_sound base (path_text text) token path s e) is g
in_given shape base only k text d next path s is h = token_given shape only k text d next s is h

kept : (shape : Shape) (base : List Element) (v next : OpenValue) (k : TokenKind) (text : List ℕ) → IsPath base → is_lexed k text ≡ true → IsSoundDraft shape v.draft → given base k text v ≡ Ok next → IsSoundDraft shape next.draft
kept shape base v next k text path s is h = cases (given_in base v.only_strings k text v.draft) refl h
  where
    cases : (r : Acted) → given_in base v.only_strings k text v.draft ≡ r → with_draft v r ≡ Ok next → IsSoundDraft shape next.draft
    cases (Err e) f g = absurd cc
    cases (Ok d) f g =
        let same : record v { draft = d } ≡ next = cc g in
        subst (λ (x : OpenValue). IsSoundDraft shape x.draft) same (in_given shape base v.only_strings k text v.draft d path s is f)

ended : (b : Bool) → not b ≡ false → b ≡ true
ended true h = refl
ended false h = absurd cc

pub open_sound : OpenValuesAreSound
open_sound = record { begun = λ shape only. sound.value shape; kept = kept; complete = λ shape v is closed. sound.complete shape v.draft is (ended (is_complete v.draft) closed) }
