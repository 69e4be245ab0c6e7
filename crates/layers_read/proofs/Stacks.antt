-- A step of the machine, by what its stack tells of the list that is read, and of edit words.
use Rattle.std.proofs.Common.{◌≡◌, ◌∙◌, ◌⊎◌, inl, inr, ℕ, Bool, true, false, not, ◌&&◌, ◌||◌, List, [], ◌∷◌, ◌++◌, Option, Some, None, ap, sym, refl, subst}
use Rattle.std.proofs.lemmas.List.Folds.{list_any-append}
use Rattle.std.proofs.lemmas.Bool.{and_from, not-true, or_right, or_left}
use Rattle.std.proofs.lemmas.Option.{same_Some}
use Rattle.text_syntax.specs.Open.{Follows as ValueFollows, IsAwaited}
use Rattle.usda_drafts.specs.declared.draft.Draft.{Draft}
use Rattle.usda_grammar.proofs.AllKinds.{front, back}
use Rattle.usda_grammar.specs.Machine.{step, choose}
use Rattle.usda_grammar.specs.Table.{starts, may_be_absent}
use Rattle.usda_grammar.specs.declared.kinds.WordKind.{WordKind}
use Rattle.usda_grammar.specs.declared.kinds.WordKind.TheVariants as token
use Rattle.usda_grammar.specs.declared.symbols.Symbol.{Symbol}
use Rattle.usda_grammar.specs.declared.symbols.Symbol.TheVariants as symbol
use Rattle.usda_lexer.specs.Meanings.{path_text}
use Rattle.usda_statements.specs.OpenValues.{is_open}
use Rattle.usda_values.specs.Drafts.{is_complete_at}
use Rattle.usda_values.specs.declared.draft.ValueDraft.{ValueDraft}
use Rattle.usda_values.specs.declared.level.Bracket.{Bracket}
use Rattle.usda_values.specs.declared.level.Bracket.TheVariants as bracket
use Rattle.usda_values.specs.declared.level.Level.{Level}
use Rattle.usda_values.specs.declared.level.Place.{Place}
use Rattle.usda_values.specs.declared.level.Place.TheVariants as place
use Rattle.value_texts.specs.Following.{awaited_behind, awaited_at, awaited_outside, awaited, is_place_of, are_levels}
use Rattle.layer_texts.specs.Writable.{is_word}
use Rattle.value_returns.specs.Fields.{IsText}
use Rattle.trees_read.proofs.ListRows.{Part, none, begun, brackets, sublayers, part_of, or_part, part, is_none, is_of_item, has_item, is_light, has_parts, are_on_top}
use Rattle.trees_read.proofs.ListStacks.{is_the_none}
use Rattle.layers_read.proofs.Rows.{is_edited, has_edited, is_noted, is_edited_after, edited_rows}
use Rattle.layers_read.proofs.Words.{IsKnownAs}

-- ---- steps

pub record Took (stack : List Symbol) (k : WordKind) (s : Symbol) (after : List Symbol) : Type 0 where
  pub below : List Symbol
  pub rest : List Symbol
  pub starts_it : starts s k ≡ Some rest
  pub leaves : after ≡ rest ++ below
  pub edited : has_edited below ≡ true → has_edited stack ≡ true
  pub here : is_edited s ≡ true → has_edited stack ≡ true

pub took : (stack : List Symbol) (k : WordKind) (s : Symbol) (after : List Symbol) → step stack k ≡ Some (s, after) → Took stack k s after
took [] k s after e = absurd cc
took (u ∷ stack) k s after e = cases (starts u k) refl (may_be_absent u) e (λ f. took stack k s after f)
  where
    cases : (o : Option (List Symbol)) → starts u k ≡ o → (b : Bool) → choose u stack o b (step stack k) ≡ Some (s, after) → (step stack k ≡ Some (s, after) → Took stack k s after) → Took (u ∷ stack) k s after
    cases (Some a) is b f more =
        let same : (u, a ++ stack) ≡ (s, after) = same_Some (u, a ++ stack) (s, after) f in
        subst (λ (x : Symbol). Took (u ∷ stack) k x after) (ap (λ (x : Symbol × List Symbol). x.0) same)
        (record {
          below = stack;
          rest = a;
          starts_it = is;
          leaves = sym (ap (λ (x : Symbol × List Symbol). x.1) same);
          edited = λ h. or_right (is_edited u) (has_edited stack) h;
          here = λ h. or_left (is_edited u) (has_edited stack) h;
        })
    cases None is true f more =
        let t : Took stack k s after = more f in
        record {
          below = t.below;
          rest = t.rest;
          starts_it = t.starts_it;
          leaves = t.leaves;
          edited = λ h. or_right (is_edited u) (has_edited stack) (t.edited h);
          here = λ h. or_right (is_edited u) (has_edited stack) (t.here h);
        }
    cases None is false f more = absurd cc

edited_row : (s : Symbol) (k : WordKind) (rest : List Symbol) → starts s k ≡ Some rest → (not (has_edited rest) || is_noted s k) ≡ true
edited_row s k rest e = subst (λ o. is_edited_after s k o ≡ true) e (edited_rows s k)

-- a field behind an edit word was awaited before, unless the word is an edit word
pub edited_after : (stack : List Symbol) (k : WordKind) (s : Symbol) (after : List Symbol) → Took stack k s after → has_edited after ≡ true → (is_noted s k ≡ true) ⊎ (has_edited stack ≡ true)
edited_after stack k s after t h = by (has_edited t.rest) refl (sym (list_any-append is_edited t.rest t.below) ∙ sym (ap has_edited t.leaves) ∙ h)
  where
    by : (c : Bool) → has_edited t.rest ≡ c → (has_edited t.rest || has_edited t.below) ≡ true → (is_noted s k ≡ true) ⊎ (has_edited stack ≡ true)
    by true is e = inl (ap (λ c. not c || is_noted s k) (sym is) ∙ edited_row s k t.rest t.starts_it)
    by false is e = inr (t.edited (ap (λ c. c || has_edited t.below) (sym is) ∙ e))

pub path_known : (k : WordKind) (text : List ℕ) (rest : List Symbol) → starts symbol.MaybePath k ≡ Some rest → IsKnownAs k text → IsText (path_text text)
path_known token.Path text rest e h = h
path_known k text rest e h = absurd cc

pub type_known : (k : WordKind) (text : List ℕ) (rest : List Symbol) → starts symbol.MaybeTypeName k ≡ Some rest → IsKnownAs k text → is_word text ≡ true
type_known (token.Word x) text rest e h = h.0
type_known k text rest e h = absurd cc

-- ---- while a value is open no list is read

abbrev is_plain : Symbol → Bool
is_plain s = is_none (part_of s) && not (is_of_item s)

abbrev are_plain : List Symbol → Bool
are_plain [] = true
are_plain (s ∷ stack) = is_plain s && are_plain stack

abbrev has_heavy : List Symbol → Bool
has_heavy [] = false
has_heavy (s ∷ stack) = not (is_light s) || has_heavy stack

plain_parts : (s : Symbol) (x : List Symbol) → is_plain s ≡ true → has_parts (s ∷ x) ≡ has_parts x
plain_parts s x h =
    ap (λ p. not (is_none (or_part p (part x))) || (is_of_item s || has_item x)) (is_the_none (part_of s) (front (is_none (part_of s)) (not (is_of_item s)) h))
    ∙ ap (λ c. not (is_none (part x)) || (c || has_item x)) (not-true (is_of_item s) (back (is_none (part_of s)) (not (is_of_item s)) h))

heavy_bare : (a below : List Symbol) → has_heavy a ≡ true → are_plain a ≡ true → are_on_top (a ++ below) ≡ true → not (has_parts (a ++ below)) ≡ true
heavy_bare [] below heavy plain top = absurd cc
heavy_bare (s ∷ a) below heavy plain top =
    ap not (plain_parts s (a ++ below) (front (is_plain s) (are_plain a) plain))
    ∙ by (is_light s) heavy (front (is_light s || not (has_parts (a ++ below))) (are_on_top (a ++ below)) top)
    (λ h. heavy_bare a below h (back (is_plain s) (are_plain a) plain) (back (is_light s || not (has_parts (a ++ below))) (are_on_top (a ++ below)) top))
  where
    by : (c : Bool) → (not c || has_heavy a) ≡ true → (c || not (has_parts (a ++ below))) ≡ true → (has_heavy a ≡ true → not (has_parts (a ++ below)) ≡ true) → not (has_parts (a ++ below)) ≡ true
    by true h e more = more h
    by false h e more = e

plain_joined : (a b : List Symbol) → are_plain a ≡ true → are_plain b ≡ true → are_plain (a ++ b) ≡ true
plain_joined [] b h g = g
plain_joined (s ∷ a) b h g = and_from (is_plain s) (are_plain (a ++ b)) (front (is_plain s) (are_plain a) h) (plain_joined a b (back (is_plain s) (are_plain a) h) g)

heavy_joined : (a b : List Symbol) → has_heavy a ≡ true → has_heavy (a ++ b) ≡ true
heavy_joined [] b h = absurd cc
heavy_joined (s ∷ a) b h = cases (not (is_light s)) h (heavy_joined a b)
  where
    cases : (x : Bool) → (x || has_heavy a) ≡ true → (has_heavy a ≡ true → has_heavy (a ++ b) ≡ true) → (x || has_heavy (a ++ b)) ≡ true
    cases true h more = refl
    cases false h more = more h

behind_plain : (b : Bracket) → are_plain (awaited_behind b) ≡ true
behind_plain bracket.Statement = refl
behind_plain bracket.Tuple = refl
behind_plain bracket.Array = refl
behind_plain bracket.Dict = refl

outside_plain : (ls : List Level) → are_plain (awaited_outside ls) ≡ true
outside_plain [] = refl
outside_plain (l ∷ ls) = plain_joined (awaited_outside ls) (awaited_behind l.bracket) (outside_plain ls) (behind_plain l.bracket)

at_plain : (p : Place) (b : Bracket) → are_plain (awaited_at p b) ≡ true
at_plain place.Value b = behind_plain b
at_plain place.ValueOrEnd bracket.Statement = refl
at_plain place.ValueOrEnd bracket.Tuple = refl
at_plain place.ValueOrEnd bracket.Array = refl
at_plain place.ValueOrEnd bracket.Dict = refl
at_plain place.BehindMember b = behind_plain b
at_plain place.EntryType b = refl
at_plain place.BehindType b = refl
at_plain place.TypeEnd b = refl
at_plain place.Key b = refl
at_plain place.Equals b = behind_plain b
at_plain place.BehindEntry b = behind_plain b
at_plain place.Dictionary b = behind_plain b
at_plain place.Complete b = refl

at_heavy : (p : Place) (b : Bracket) → is_complete_at p ≡ false → is_place_of p b ≡ true → has_heavy (awaited_at p b) ≡ true
at_heavy place.Value b c h = refl
at_heavy place.ValueOrEnd bracket.Tuple c h = refl
at_heavy place.ValueOrEnd bracket.Array c h = refl
at_heavy place.ValueOrEnd bracket.Statement c h = absurd cc
at_heavy place.ValueOrEnd bracket.Dict c h = absurd cc
at_heavy place.BehindMember bracket.Tuple c h = refl
at_heavy place.BehindMember bracket.Array c h = refl
at_heavy place.BehindMember bracket.Statement c h = absurd cc
at_heavy place.BehindMember bracket.Dict c h = absurd cc
at_heavy place.EntryType b c h = refl
at_heavy place.BehindType b c h = refl
at_heavy place.TypeEnd b c h = refl
at_heavy place.Key b c h = refl
at_heavy place.Equals b c h = refl
at_heavy place.BehindEntry bracket.Dict c h = refl
at_heavy place.BehindEntry bracket.Statement c h = absurd cc
at_heavy place.BehindEntry bracket.Tuple c h = absurd cc
at_heavy place.BehindEntry bracket.Array c h = absurd cc
at_heavy place.Dictionary b c h = refl
at_heavy place.Complete b c h = absurd cc

pub value_bare : (stack : List Symbol) (d : Draft) → ValueFollows stack d → are_on_top stack ≡ true → is_open d.value ≡ true → not (has_parts stack) ≡ true
value_bare stack d follows top opened =
    let f : IsAwaited stack d.value.draft = follows opened in
    let v : ValueDraft = d.value.draft in
    ap (λ x. not (has_parts x)) f.2
    ∙ heavy_bare (awaited v) f.0 (heavy_joined (awaited_at v.place v.level.bracket) (awaited_outside v.outer) (at_heavy v.place v.level.bracket (not-true (is_complete_at v.place) opened) (front (is_place_of v.place v.level.bracket) (are_levels v.outer v.level.bracket) f.1)))
    (plain_joined (awaited_at v.place v.level.bracket) (awaited_outside v.outer) (at_plain v.place v.level.bracket) (outside_plain v.outer))
    (ap are_on_top (sym f.2) ∙ top)

pub no_parts : (stack : List Symbol) → not (has_parts stack) ≡ true → (part stack ≡ none) × (has_item stack ≡ false)
no_parts stack h = by (part stack) refl (has_item stack) refl h
  where
    by : (p : Part) → part stack ≡ p → (b : Bool) → has_item stack ≡ b → not (not (is_none p) || b) ≡ true → (part stack ≡ none) × (has_item stack ≡ false)
    by none is false item e = (is, item)
    by none is true item e = absurd cc
    by begun is b item e = absurd cc
    by brackets is b item e = absurd cc
    by sublayers is b item e = absurd cc
