-- While a value is open, the word that is taken is one of the value, and the text does not end.
use Rattle.std.proofs.Common.{◌≡◌, ◌∙◌, Bool, true, false, not, ◌&&◌, ◌||◌, List, [], ◌∷◌, ◌++◌, Option, Some, None, refl, ap, sym}
use Rattle.std.proofs.lemmas.Bool.{not-true}
use Rattle.std.proofs.lemmas.Option.{same_Some}
use Rattle.usda_grammar.proofs.AllKinds.{front, back}
use Rattle.usda_grammar.specs.Machine.{step, choose, is_done}
use Rattle.usda_grammar.specs.Table.{starts, may_be_absent}
use Rattle.usda_grammar.specs.declared.kinds.WordKind.{WordKind}
use Rattle.usda_grammar.specs.declared.symbols.Symbol.{Symbol}
use Rattle.usda_values.specs.Drafts.{is_complete_at}
use Rattle.usda_values.specs.declared.draft.ValueDraft.{ValueDraft}
use Rattle.usda_values.specs.declared.level.Bracket.{Bracket}
use Rattle.usda_values.specs.declared.level.Bracket.TheVariants as bracket
use Rattle.usda_values.specs.declared.level.Level.{Level}
use Rattle.usda_values.specs.declared.level.Place.{Place}
use Rattle.usda_values.specs.declared.level.Place.TheVariants as place
use Rattle.value_texts.specs.Following.{awaited_behind, awaited_at, awaited_outside, awaited, is_place_of, are_levels, is_formed}
use Rattle.trees_read.specs.Stacks.{is_of_statement}

-- none of these is a symbol of a statement
abbrev pub are_apart : List Symbol → Bool
are_apart [] = true
are_apart (s ∷ stack) = not (is_of_statement s) && are_apart stack

-- one of these has to come
abbrev pub has_to_come : List Symbol → Bool
has_to_come [] = false
has_to_come (s ∷ stack) = not (may_be_absent s) || has_to_come stack

-- ---- stacks

pub apart_taken : (stack below : List Symbol) (k : WordKind) (s : Symbol) (after : List Symbol) → are_apart stack ≡ true → has_to_come stack ≡ true → step (stack ++ below) k ≡ Some (s, after) → is_of_statement s ≡ false
apart_taken [] below k s after apart must e = absurd cc
apart_taken (u ∷ stack) below k s after apart must e =
    cases (starts u k) (may_be_absent u) must e (λ m f. apart_taken stack below k s after (back (not (is_of_statement u)) (are_apart stack) apart) m f)
  where
    cases : (o : Option (List Symbol)) (b : Bool) → (not b || has_to_come stack) ≡ true → choose u (stack ++ below) o b (step (stack ++ below) k) ≡ Some (s, after)
        → (has_to_come stack ≡ true → step (stack ++ below) k ≡ Some (s, after) → is_of_statement s ≡ false) → is_of_statement s ≡ false
    cases (Some a) b must f more =
        let same : (u, a ++ (stack ++ below)) ≡ (s, after) = same_Some (u, a ++ (stack ++ below)) (s, after) f in
        ap (λ (x : Symbol × List Symbol). is_of_statement x.0) (sym same) ∙ not-true (is_of_statement u) (front (not (is_of_statement u)) (are_apart stack) apart)
    cases None true must f more = more must f
    cases None false must f more = absurd cc

pub not_done : (stack below : List Symbol) → has_to_come stack ≡ true → is_done (stack ++ below) ≡ false
not_done [] below h = absurd cc
not_done (u ∷ stack) below h = cases (may_be_absent u) h (not_done stack below)
  where
    cases : (b : Bool) → (not b || has_to_come stack) ≡ true → (has_to_come stack ≡ true → is_done (stack ++ below) ≡ false) → (b && is_done (stack ++ below)) ≡ false
    cases true h more = more h
    cases false h more = refl

-- ---- what a value awaits

apart_joined : (a b : List Symbol) → are_apart a ≡ true → are_apart b ≡ true → are_apart (a ++ b) ≡ true
apart_joined [] b h g = g
apart_joined (s ∷ a) b h g = both (not (is_of_statement s)) (are_apart (a ++ b)) (front (not (is_of_statement s)) (are_apart a) h) (apart_joined a b (back (not (is_of_statement s)) (are_apart a) h) g)
  where
    both : (x y : Bool) → x ≡ true → y ≡ true → (x && y) ≡ true
    both true y p q = q
    both false y p q = absurd cc

must_joined : (a b : List Symbol) → has_to_come a ≡ true → has_to_come (a ++ b) ≡ true
must_joined [] b h = absurd cc
must_joined (s ∷ a) b h = cases (not (may_be_absent s)) h (must_joined a b)
  where
    cases : (x : Bool) → (x || has_to_come a) ≡ true → (has_to_come a ≡ true → has_to_come (a ++ b) ≡ true) → (x || has_to_come (a ++ b)) ≡ true
    cases true h more = refl
    cases false h more = more h

behind_apart : (b : Bracket) → are_apart (awaited_behind b) ≡ true
behind_apart bracket.Statement = refl
behind_apart bracket.Tuple = refl
behind_apart bracket.Array = refl
behind_apart bracket.Dict = refl

outside_apart : (ls : List Level) → are_apart (awaited_outside ls) ≡ true
outside_apart [] = refl
outside_apart (l ∷ ls) = apart_joined (awaited_outside ls) (awaited_behind l.bracket) (outside_apart ls) (behind_apart l.bracket)

at_apart : (p : Place) (b : Bracket) → are_apart (awaited_at p b) ≡ true
at_apart place.Value b = behind_apart b
at_apart place.ValueOrEnd bracket.Statement = refl
at_apart place.ValueOrEnd bracket.Tuple = refl
at_apart place.ValueOrEnd bracket.Array = refl
at_apart place.ValueOrEnd bracket.Dict = refl
at_apart place.BehindMember b = behind_apart b
at_apart place.EntryType b = refl
at_apart place.BehindType b = refl
at_apart place.TypeEnd b = refl
at_apart place.Key b = refl
at_apart place.Equals b = behind_apart b
at_apart place.BehindEntry b = behind_apart b
at_apart place.Dictionary b = behind_apart b
at_apart place.Complete b = refl

at_must : (p : Place) (b : Bracket) → is_complete_at p ≡ false → is_place_of p b ≡ true → has_to_come (awaited_at p b) ≡ true
at_must place.Value b c h = refl
at_must place.ValueOrEnd bracket.Tuple c h = refl
at_must place.ValueOrEnd bracket.Array c h = refl
at_must place.ValueOrEnd bracket.Statement c h = absurd cc
at_must place.ValueOrEnd bracket.Dict c h = absurd cc
at_must place.BehindMember bracket.Tuple c h = refl
at_must place.BehindMember bracket.Array c h = refl
at_must place.BehindMember bracket.Statement c h = absurd cc
at_must place.BehindMember bracket.Dict c h = absurd cc
at_must place.EntryType b c h = refl
at_must place.BehindType b c h = refl
at_must place.TypeEnd b c h = refl
at_must place.Key b c h = refl
at_must place.Equals b c h = refl
at_must place.BehindEntry bracket.Dict c h = refl
at_must place.BehindEntry bracket.Statement c h = absurd cc
at_must place.BehindEntry bracket.Tuple c h = absurd cc
at_must place.BehindEntry bracket.Array c h = absurd cc
at_must place.Dictionary b c h = refl
at_must place.Complete b c h = absurd cc

pub awaited_apart : (v : ValueDraft) → are_apart (awaited v) ≡ true
awaited_apart v = apart_joined (awaited_at v.place v.level.bracket) (awaited_outside v.outer) (at_apart v.place v.level.bracket) (outside_apart v.outer)

pub awaited_must : (v : ValueDraft) → is_formed v ≡ true → is_complete_at v.place ≡ false → has_to_come (awaited v) ≡ true
awaited_must v formed open' = must_joined (awaited_at v.place v.level.bracket) (awaited_outside v.outer) (at_must v.place v.level.bracket open' (front (is_place_of v.place v.level.bracket) (are_levels v.outer v.level.bracket) formed))
