-- While a value is open, its words are taken by symbols of values.
use Rattle.std.proofs.Common.{◌≡◌, ap, refl, subst, Bool, true, false, not, ◌&&◌, ◌||◌, List, [], ◌∷◌, ◌++◌, append_assoc, Option, Some, None}
use Rattle.plain_data.specs.Exact.{both_true}
use Rattle.usda_grammar.specs.Machine.{choose, step}
use Rattle.usda_grammar.specs.Table.{starts, may_be_absent}
use Rattle.usda_grammar.specs.declared.kinds.WordKind.{WordKind}
use Rattle.usda_grammar.specs.declared.symbols.Symbol.{Symbol}
use Rattle.usda_values.specs.Drafts.{is_complete_at, is_complete}
use Rattle.usda_values.specs.declared.draft.ValueDraft.{ValueDraft}
use Rattle.usda_values.specs.declared.level.Bracket.{Bracket}
use Rattle.usda_values.specs.declared.level.Bracket.TheVariants as bracket
use Rattle.usda_values.specs.declared.level.Place.{Place}
use Rattle.usda_values.specs.declared.level.Place.TheVariants as place
use Rattle.value_texts.specs.Following.{awaited_at, awaited_outside, is_place_of, are_levels}
use Rattle.value_texts.proofs.Tests.{implied}
use Rattle.properties_read.specs.Drafts.{takes_values}
use Rattle.properties_read.specs.Stacks.{OpenValuesTakeTheirWords}

-- up to one that has to be there, these symbols are of values
abbrev is_barred : List Symbol → Bool
is_barred [] = false
is_barred (s ∷ rest) = takes_values s && (not (may_be_absent s) || is_barred rest)

taken_by_values : (stack below : List Symbol) (k : WordKind) (s : Symbol) (after : List Symbol) → is_barred stack ≡ true → step (stack ++ below) k ≡ Some (s, after) → takes_values s ≡ true
taken_by_values [] below k s after h e = absurd cc
taken_by_values (t ∷ stack) below k s after h e =
    let p = both_true (takes_values t) (not (may_be_absent t) || is_barred stack) h in
    by (starts t k) (may_be_absent t) refl p.0 p.1 e (λ g f. taken_by_values stack below k s after g f)
  where
    by : (o : Option (List Symbol)) (b : Bool) → may_be_absent t ≡ b → takes_values t ≡ true → (not (may_be_absent t) || is_barred stack) ≡ true → choose t (stack ++ below) o b (step (stack ++ below) k) ≡ Some (s, after)
        → (is_barred stack ≡ true → step (stack ++ below) k ≡ Some (s, after) → takes_values s ≡ true) → takes_values s ≡ true
    by (Some pushed) b ab v g e more =
        let pair : ◌≡◌ {A = Symbol × List Symbol} (t, pushed ++ (stack ++ below)) (s, after) = cc e in
        subst (λ x. takes_values x ≡ true) (ap (λ (p : Symbol × List Symbol). p.0) pair) v
    by None true ab v g e more = more (implied (may_be_absent t) (is_barred stack) ab g) e
    by None false ab v g e more = absurd cc

-- whether a draft at this place is complete
place_barred : (p : Place) (b : Bracket) → is_place_of p b ≡ true → (p ≡ place.Complete → ⊥) → is_barred (awaited_at p b) ≡ true
place_barred place.Value b h unlike = refl
place_barred place.ValueOrEnd bracket.Tuple h unlike = refl
place_barred place.ValueOrEnd bracket.Array h unlike = refl
place_barred place.ValueOrEnd b h unlike = absurd cc
place_barred place.BehindMember bracket.Tuple h unlike = refl
place_barred place.BehindMember bracket.Array h unlike = refl
place_barred place.BehindMember b h unlike = absurd cc
place_barred place.EntryType b h unlike = refl
place_barred place.BehindType b h unlike = refl
place_barred place.TypeEnd b h unlike = refl
place_barred place.Key b h unlike = refl
place_barred place.Equals b h unlike = refl
place_barred place.BehindEntry bracket.Dict h unlike = refl
place_barred place.BehindEntry b h unlike = absurd cc
place_barred place.Dictionary b h unlike = refl
place_barred place.Complete b h unlike = absurd (unlike refl)

pub words_taken : OpenValuesTakeTheirWords
words_taken v below after k s formed shut e =
    let f = both_true (is_place_of v.place v.level.bracket) (are_levels v.outer v.level.bracket) formed in
    let barred : is_barred (awaited_at v.place v.level.bracket) ≡ true = place_barred v.place v.level.bracket f.0 (λ p. not_complete v p shut) in
    taken_by_values (awaited_at v.place v.level.bracket) (awaited_outside v.outer ++ below) k s after barred
    (subst (λ l. step l k ≡ Some (s, after)) (append_assoc (awaited_at v.place v.level.bracket) (awaited_outside v.outer) below) e)
  where
    not_complete : (v : ValueDraft) → v.place ≡ place.Complete → is_complete v ≡ false → ⊥
    not_complete v p h = let is : is_complete v ≡ true = ap is_complete_at p in cc
