-- The levels of a value, and what is awaited outside of them.
use Rattle.std.proofs.Common.{◌≡◌, ◌∙◌, ℕ, true, false, not, ◌&&◌, List, [], ◌∷◌, ◌++◌, append_assoc, append-nil, Ok, ap, sym, refl}
use Rattle.std.specs.List.{list_all}
use Rattle.std.proofs.lemmas.List.Folds.{list_all-append}
use Rattle.std.proofs.lemmas.Bool.{and_parts, and_from}
use Rattle.sdf_values.specs.declared.value.Value.{Value}
use Rattle.usda_grammar.specs.declared.symbols.Symbol.{Symbol}
use Rattle.usda_lexer.specs.declared.token.TokenKind.{TokenKind}
use Rattle.usda_values.specs.Drafts.{give_to, behind_value, is_statement}
use Rattle.usda_values.specs.declared.draft.ValueDraft.{ValueDraft}
use Rattle.usda_values.specs.declared.level.Bracket.{Bracket}
use Rattle.usda_values.specs.declared.level.Bracket.TheVariants as bracket
use Rattle.usda_values.specs.declared.level.Level.{Level}
use Rattle.usda_values.specs.declared.level.Place.{Place}
use Rattle.value_texts.specs.Following.{awaited_at, awaited_behind, awaited_outside, is_formed, is_place_of, is_inner, are_levels, GoesWith}

-- ---- levels

pub outside_push : (ls : List Level) (l : Level) → awaited_outside (ls ++ l ∷ []) ≡ awaited_behind l.bracket ++ awaited_outside ls
outside_push [] l = sym (append-nil (awaited_behind l.bracket))
outside_push (o ∷ os) l = ap (λ x. x ++ awaited_behind o.bracket) (outside_push os l) ∙ append_assoc (awaited_behind l.bracket) (awaited_outside os) (awaited_behind o.bracket)

pub levels_push : (ls : List Level) (l : Level) (b : Bracket) → are_levels ls l.bracket ≡ true → is_statement b ≡ false → are_levels (ls ++ l ∷ []) b ≡ true
levels_push [] l b h inner = and_from (is_statement l.bracket) (true && not (is_statement b)) h (ap not inner)
levels_push (o ∷ os) l b h inner =
    let p = and_parts (is_statement o.bracket) (list_all is_inner os && is_inner l) h in
    let q = and_parts (list_all is_inner os) (is_inner l) p.1 in
    and_from (is_statement o.bracket) (list_all is_inner (os ++ l ∷ []) && not (is_statement b)) p.0
    (and_from (list_all is_inner (os ++ l ∷ [])) (not (is_statement b)) (list_all-append is_inner os (l ∷ []) ∙ and_from (list_all is_inner os) (is_inner l && true) q.0 (and_from (is_inner l) true q.1 refl)) (ap not inner))

pub levels_pop : (ls : List Level) (l : Level) (b : Bracket) → are_levels (ls ++ l ∷ []) b ≡ true → are_levels ls l.bracket ≡ true
levels_pop [] l b h = (and_parts (is_statement l.bracket) (true && not (is_statement b)) h).0
levels_pop (o ∷ os) l b h =
    let p = and_parts (is_statement o.bracket) (list_all is_inner (os ++ l ∷ []) && not (is_statement b)) h in
    let q = and_parts (list_all is_inner (os ++ l ∷ [])) (not (is_statement b)) p.1 in
    let r = and_parts (list_all is_inner os) (is_inner l && true) (sym (list_all-append is_inner os (l ∷ [])) ∙ q.0) in
    and_from (is_statement o.bracket) (list_all is_inner os && is_inner l) p.0 (and_from (list_all is_inner os) (is_inner l) r.0 (and_parts (is_inner l) true r.1).0)

-- a list with a last element
abbrev pub Pushed : List Level → Type 0
Pushed ls = (os : List Level) × (o : Level) × (ls ≡ os ++ o ∷ [])

pushed : (l : Level) (ls : List Level) → Pushed (l ∷ ls)
pushed l [] = ([], l, refl)
pushed l (m ∷ ls) = let r : Pushed (m ∷ ls) = pushed m ls in (l ∷ r.0, r.1, ap (λ (x : List Level). l ∷ x) r.2)

pub stands_in : (ls : List Level) (b : Bracket) → are_levels ls b ≡ true → is_statement b ≡ false → Pushed ls
stands_in [] b h inner = absurd cc
stands_in (l ∷ ls) b h inner = pushed l ls

abbrev pub draft : Place → Level → List Level → ValueDraft
draft p l outer = record { place = p; level = l; outer = outer }

pub formed : (p : Place) (l : Level) (outer : List Level) → is_place_of p l.bracket ≡ true → are_levels outer l.bracket ≡ true → is_formed (draft p l outer) ≡ true
formed p l outer h k = and_from (is_place_of p l.bracket) (are_levels outer l.bracket) h k

-- ---- a value that is given

pub give_bracket : (b : Bracket) (v : Value) (l : Level) → (give_to b v l).bracket ≡ l.bracket
give_bracket bracket.Dict v l = refl
give_bracket _ v l = refl

behind_place : (b : Bracket) → awaited_at (behind_value b) b ≡ awaited_behind b
behind_place bracket.Statement = refl
behind_place _ = refl

behind_fits : (b : Bracket) → is_place_of (behind_value b) b ≡ true
behind_fits bracket.Statement = refl
behind_fits _ = refl

module _ (f : TokenKind) (text : List ℕ) (below : List Symbol) where
  pub behind_goes : (b : Bracket) (l : Level) (outer : List Level) (after : List Symbol) → l.bracket ≡ b → are_levels outer b ≡ true → after ≡ (awaited_behind b ++ awaited_outside outer) ++ below
      → GoesWith f text below after (Ok (draft (behind_value b) l outer))
  behind_goes b l outer after same h e = (
    formed (behind_value b) l outer (ap (is_place_of (behind_value b)) same ∙ behind_fits b) (ap (are_levels outer) same ∙ h),
    e ∙ ap (λ x. (x ++ awaited_outside outer) ++ below) (sym (ap (awaited_at (behind_value b)) same ∙ behind_place b)),
  )
