-- A word of a value that is open, and the first word of one.
use Rattle.std.proofs.Common.{◌≡◌, ◌∙◌, ℕ, Bool, true, false, not, List, [], ◌∷◌, ◌++◌, Option, Some, None, Result, Ok, Err, ap, sym, refl, subst, inl, inr}
use Rattle.std.specs.Prelude.{if◌then◌else◌, ◌⊎◌}
use Rattle.std.proofs.lemmas.Option.{same_Some}
use Rattle.sdf_paths.specs.declared.element.Element.{Element}
use Rattle.sdf_values.specs.declared.refusal.RefusalKind.{RefusalKind}
use Rattle.sdf_values.specs.declared.refusal.RefusalKind.TheVariants.{Syntax, ValueShape, NumberTooLong}
use Rattle.sdf_values.specs.declared.value.Value.{Value}
use Rattle.sdf_values.specs.declared.value.Value.TheVariants as value
use Rattle.usda_drafts.specs.Acts.{bodies_act, act}
use Rattle.usda_drafts.specs.Drafts.{blank}
use Rattle.usda_drafts.specs.Refusals.{refused as refused_at, then_with}
use Rattle.usda_drafts.specs.Values.{completed, after_token, token_act, first_act, with_value_begun, with_said, with_property}
use Rattle.usda_drafts.specs.declared.aim.Goal.{Goal}
use Rattle.usda_drafts.specs.declared.aim.Goal.TheVariants as goal
use Rattle.usda_drafts.specs.declared.draft.Draft.{Draft}
use Rattle.usda_drafts.specs.declared.fault.Refused.{Refused}
use Rattle.usda_fields.specs.Keys.{judged, is_default_prim, key_rule, value_act as key_value_act}
use Rattle.usda_fields.specs.Owners.{value_act as owner_value_act}
use Rattle.usda_fields.specs.Variants.{selections_act, of_strings, is_behind_type, is_string}
use Rattle.usda_fields.specs.declared.keys.KeyRule.{KeyRule}
use Rattle.usda_fields.specs.declared.keys.KeyRule.TheVariants.{Comment, Boolean, DefaultPrim, Free}
use Rattle.usda_grammar.specs.Machine.{step, choose}
use Rattle.usda_grammar.specs.Table.{layer, starts, may_be_absent}
use Rattle.usda_grammar.specs.declared.kinds.WordKind.{WordKind}
use Rattle.usda_grammar.specs.declared.kinds.WordKind.TheVariants as kind
use Rattle.usda_grammar.specs.declared.symbols.Symbol.{Symbol}
use Rattle.usda_grammar.specs.declared.symbols.Symbol.TheVariants as symbol
use Rattle.usda_lexer.specs.Meanings.{path_text}
use Rattle.usda_lexer.specs.declared.token.TokenKind.{TokenKind}
use Rattle.usda_lexer.specs.declared.token.TokenKind.TheVariants as form
use Rattle.usda_lists.specs.Acts.{and_then}
use Rattle.usda_lists.specs.Paths.{absolute_from}
use Rattle.usda_statements.specs.OpenValues.{is_open, given_token, given_path, given_in, with_draft, value_in, no_value}
use Rattle.usda_statements.specs.PropertyDrafts.{meta_act, with_default, with_sample}
use Rattle.usda_statements.specs.declared.open_value.OpenValue.{OpenValue}
use Rattle.usda_values.specs.Drafts.{Acted, value_act, is_complete}
use Rattle.usda_values.specs.declared.draft.ValueDraft.{ValueDraft}
use Rattle.usda_words.specs.Words.{Word, kind_of}
use Rattle.value_texts.specs.Following.{awaited, is_formed, GoesWith, IsOfToken}
use Rattle.value_texts.proofs.Following.{taken}
use Rattle.text_syntax.specs.Open.{IsAwaited, Follows, begins_value, IsOfValue, IsNone, IsNoPathFrom}
use Rattle.text_syntax.proofs.Kept.{Has, bodies_has}

-- ---- a token as it is given to the draft of the value

strings_go : (f : TokenKind) (text : List ℕ) (below after : List Symbol) (r : Acted) → GoesWith f text below after r → GoesWith f text below after (and_then r of_strings)
strings_go f text below after (Err k) h = h
strings_go f text below after (Ok d) h = cases (is_behind_type d.place) (is_string d.level.ty)
  where
    cases : (a b : Bool) → GoesWith f text below after (if a then (if b then Ok d else Err ValueShape) else Ok d)
    cases true true = h
    cases true false = λ e. absurd cc
    cases false b = h

given_goes : (only : Bool) (f : TokenKind) (text : List ℕ) (below after : List Symbol) (d : ValueDraft) → GoesWith f text below after (value_act f text d) → GoesWith f text below after (given_token only f text d)
given_goes true f text below after d h = strings_go f text below after (value_act f text d) h
given_goes false f text below after d h = h

-- what a token makes, where the grammar takes it and leaves these symbols above those below
abbrev Goes : List Element → TokenKind → List ℕ → List Symbol → List Symbol → Acted → Type 0
Goes base f text below after (Ok next) = (is_formed next ≡ true) × (after ≡ awaited next ++ below)
Goes base f text below after (Err r) = r ≡ Syntax → IsNoPathFrom base f text

other_goes : (base : List Element) (f : TokenKind) (text : List ℕ) (below after : List Symbol) (r : Acted) → (f ≡ form.Path → ⊥) → GoesWith f text below after r → Goes base f text below after r
other_goes base f text below after (Ok next) other h = h
other_goes base f text below after (Err k) other h = λ e. absurd (other (h e).0)

path_goes : (base : List Element) (text token : List ℕ) (below after : List Symbol) (r : Acted) → absolute_from base (path_text text) ≡ Some token → GoesWith form.Path token below after r → Goes base form.Path text below after r
path_goes base text token below after (Ok next) is h = h
path_goes base text token below after (Err k) is h = λ e. (refl, subst IsNone (sym is) (h e).1)

in_goes : (base : List Element) (only : Bool) (f : TokenKind) (text : List ℕ) (below after : List Symbol) (d : ValueDraft) → ((t : List ℕ) → (f ≡ form.Path ⊎ t ≡ text) → GoesWith f t below after (value_act f t d))
    → Goes base f text below after (given_in base only f text d)
in_goes base only form.Path text below after d h = by_path (absolute_from base (path_text text)) refl
  where
    by_path : (o : Option (List ℕ)) → absolute_from base (path_text text) ≡ o → Goes base form.Path text below after (given_path only o d)
    by_path None is = λ e. (refl, subst IsNone (sym is) tt)
    by_path (Some token) is = path_goes base text token below after (given_token only form.Path token d) is (given_goes only form.Path token below after d (h token (inl refl)))
in_goes base only f text below after d h = other_goes base f text below after (given_token only f text d) (λ e. absurd cc) (given_goes only f text below after d (h text (inr refl)))

-- ---- where a complete value goes, nothing is refused for syntax

abbrev pub IsPlain : {A : Type 0} → Result A RefusalKind → Type 0
IsPlain (Ok a) = Unit {0}
IsPlain (Err k) = k ≡ Syntax → ⊥

prim_plain : (b : Bool) (text : List ℕ) → IsPlain (if b then Ok (value.Text text) else Err ValueShape)
prim_plain true text = tt
prim_plain false text = λ e. absurd cc

judged_plain : (rule : KeyRule) (v : Value) → IsPlain (judged rule v)
judged_plain Comment (value.Text text) = tt
judged_plain Boolean (value.Bool b) = tt
judged_plain DefaultPrim (value.Text text) = prim_plain (is_default_prim text) text
judged_plain Free v = tt
judged_plain _ v = λ e. absurd cc

pub kept_plain : {A B : Type 0} (r : Result A RefusalKind) (more : A → B) → IsPlain r → IsPlain (and_then r (λ a. Ok (more a)))
kept_plain (Ok a) more h = tt
kept_plain (Err k) more h = h

-- what is left of the symbols, where a word is taken, or the path that is none
abbrev After : List Symbol → List Element → Word → Result Draft Refused → Type 0
After after base w (Ok next) = Follows after next
After after base w (Err r) = r.kind ≡ Syntax → IsNoPathFrom base w.token w.text

closed : (after : List Symbol) (next : Draft) (v : OpenValue) → next.value ≡ v → is_open v ≡ false → Follows after next
closed after next v is h = λ o. absurd (let e : true ≡ false = sym o ∙ ap is_open is ∙ h in cc)

then_after : {A : Type 0} (after : List Symbol) (base : List Element) (w : Word) (at : ℕ) (r : Result A RefusalKind) (make : A → Draft) → IsPlain r → ((a : A) → (make a).value ≡ no_value) → After after base w (then_with at r make)
then_after after base w at (Ok a) make plain h = closed after (make a) no_value (h a) refl
then_after after base w at (Err k) make plain h = λ e. absurd (plain e)

completed_goes : (g : Goal) (v : Value) (at : ℕ) (d : Draft) (after : List Symbol) (base : List Element) (w : Word) → d.value ≡ no_value → After after base w (completed g v at d)
unfolding completed
completed_goes goal.Nothing v at d after base w h = closed after d no_value h refl
completed_goes goal.OwnerKey v at d after base w h =
    then_after after base w at (owner_value_act d.aim.key v d.owner.said) (with_said d)
    (kept_plain (key_value_act d.aim.key v d.owner.said.spec.body.meta) _ (kept_plain (judged (key_rule d.aim.key) v) _ (judged_plain (key_rule d.aim.key) v))) (λ said. h)
completed_goes goal.Variants v at d after base w h = closed after (with_said d (selections_act v d.owner.said)) no_value h refl
completed_goes goal.PropertyKey v at d after base w h =
    then_after after base w at (meta_act d.aim.key v d.property) (with_property d)
    (kept_plain (key_value_act d.aim.key v d.property.meta) _ (kept_plain (judged (key_rule d.aim.key) v) _ (judged_plain (key_rule d.aim.key) v))) (λ p. h)
completed_goes goal.Default v at d after base w h = closed after (with_property d (with_default v d.property)) no_value h refl
completed_goes goal.Sample v at d after base w h = closed after (with_property d (with_sample d.aim.time v d.property)) no_value h refl

-- ---- a word of an open value

-- the same word with another text, where it is a path
abbrev with_text : Word → List ℕ → Word
with_text w t = record w { text = t }

still_of_token : (k : WordKind) (f : TokenKind) (text t : List ℕ) → (k ≡ kind_of f text) ⊎ (k ≡ kind.Fault) → (f ≡ form.Path) ⊎ (t ≡ text) → (k ≡ kind_of f t) ⊎ (k ≡ kind.Fault)
still_of_token k f text t (inr fault) other = inr fault
still_of_token k f text t (inl is) (inl path) = inl (is ∙ ap (λ x. kind_of x text) path ∙ ap (λ x. kind_of x t) (sym path))
still_of_token k f text t (inl is) (inr same) = inl (is ∙ ap (kind_of f) (sym same))

token_goes : (w : Word) (d : Draft) (below : List Symbol) (s : Symbol) (after : List Symbol) → IsOfToken w → is_formed d.value.draft ≡ true → is_open d.value ≡ true → step (awaited d.value.draft ++ below) w.kind ≡ Some (s, after)
    → After after d.owner.said.base w (token_act w d)
unfolding token_act
token_goes w d below s after word formed open' took =
    by (given_in d.owner.said.base d.value.only_strings w.token w.text d.value.draft)
    (in_goes d.owner.said.base d.value.only_strings w.token w.text below after d.value.draft
    (λ t other. taken d.value.draft (with_text w t) below s after formed (incomplete (is_complete d.value.draft) open') (still_of_token w.kind w.token w.text t word other) took))
  where
    incomplete : (b : Bool) → not b ≡ true → b ≡ false
    incomplete true e = absurd cc
    incomplete false e = refl

    by_end : (v : OpenValue) → (is_formed v.draft ≡ true) × (after ≡ awaited v.draft ++ below) → (b : Bool) → is_open v ≡ b
        → After after d.owner.said.base w (if b then Ok (record d { value = v }) else completed d.aim.goal (value_in v) w.start (record d { value = no_value }))
    by_end v g true is = λ o. (below, g.0, g.1)
    by_end v g false is = completed_goes d.aim.goal (value_in v) w.start (record d { value = no_value }) after d.owner.said.base w refl

    by : (r : Acted) → Goes d.owner.said.base w.token w.text below after r → After after d.owner.said.base w (after_token (with_draft d.value r) w.start d)
    by (Err k) g = g
    by (Ok v) g = by_end (record d.value { draft = v }) g (is_open (record d.value { draft = v })) refl

-- ---- the first word of a value

-- the symbol that takes a token, and what it leaves above those below it
abbrev Took : Symbol → WordKind → List Symbol → Type 0
Took s k after = (below : List Symbol) × (rest : List Symbol) × (starts s k ≡ Some rest) × (after ≡ rest ++ below)

took_by : (stack : List Symbol) (k : WordKind) (s : Symbol) (after : List Symbol) → step stack k ≡ Some (s, after) → Took s k after
took_by [] k s after e = absurd cc
took_by (u ∷ stack) k s after e = cases (starts u k) refl (may_be_absent u) e (λ f. took_by stack k s after f)
  where
    cases : (o : Option (List Symbol)) → starts u k ≡ o → (b : Bool) → choose u stack o b (step stack k) ≡ Some (s, after) → (step stack k ≡ Some (s, after) → Took s k after) → Took s k after
    cases (Some a) is b f more =
        let same : (u, a ++ stack) ≡ (s, after) = same_Some (u, a ++ stack) (s, after) f in
        (stack, a, ap (λ (x : Symbol × List Symbol). starts x.0 k) (sym same) ∙ is, ap (λ (x : Symbol × List Symbol). x.1) (sym same))
    cases None is true f more = more f
    cases None is false f more = absurd cc

value_takes : (s : Symbol) (k : WordKind) (rest below : List Symbol) → begins_value s ≡ true → starts s k ≡ Some rest → step (symbol.Value ∷ below) k ≡ Some (symbol.Value, rest ++ below)
value_takes symbol.Value k rest below h e = ap (λ o. choose symbol.Value below o false (step below k)) e
value_takes symbol.Dictionary kind.OpenBrace rest below h e = let same : symbol.DictionaryEntries ∷ symbol.CloseBrace ∷ [] ≡ rest = cc e in ap (λ (x : List Symbol). Some (symbol.Value, x ++ below)) same
value_takes symbol.Dictionary _ rest below h e = absurd cc
value_takes _ k rest below h e = absurd cc

first_goes : (w : Word) (d : Draft) (stack : List Symbol) (s : Symbol) (after : List Symbol) → IsOfToken w → begins_value s ≡ true → step stack w.kind ≡ Some (s, after) → After after d.owner.said.base w (first_act w d)
unfolding first_act
first_goes w d stack s after word h e =
    let t : Took s w.kind after = took_by stack w.kind s after e in
    token_goes w (with_value_begun d) t.0 symbol.Value after word refl refl (value_takes s w.kind t.1 t.0 h t.2 ∙ ap (λ x. Some (symbol.Value, x)) (sym t.3))

pub begun_by : (s : Symbol) (w : Word) (d : Draft) → begins_value s ≡ true → bodies_act s w d ≡ first_act w d
unfolding bodies_act
begun_by symbol.Value w d h = refl
begun_by symbol.Dictionary w d h = refl
begun_by _ w d h = absurd cc

-- ---- each word

pub act_is : (s : Symbol) (w : Word) (d : Draft) (b : Bool) → is_open d.value ≡ b → act s w d ≡ (if w.too_long then Err (refused_at NumberTooLong w.start) else if b then token_act w d else bodies_act s w d)
unfolding act
act_is s w d b h = ap (λ x. if w.too_long then Err (refused_at NumberTooLong w.start) else if x then token_act w d else bodies_act s w d) h

-- where a number that is too long is refused, a word that is taken is another
not_long : (b : Bool) (refusal : Refused) (r : Result Draft Refused) (next : Draft) → (if b then Err refusal else r) ≡ Ok next → r ≡ Ok next
not_long true refusal r next h = absurd cc
not_long false refusal r next h = h

-- what a word that is taken does, by whether a value is open
pub acted_by : (s : Symbol) (w : Word) (d next : Draft) (b : Bool) → is_open d.value ≡ b → act s w d ≡ Ok next → (if b then token_act w d else bodies_act s w d) ≡ Ok next
acted_by s w d next b is h = not_long w.too_long (refused_at NumberTooLong w.start) (if b then token_act w d else bodies_act s w d) next (sym (act_is s w d b is) ∙ h)

unless_long : (after : List Symbol) (base : List Element) (w : Word) (b : Bool) (r : Result Draft Refused) → After after base w r → After after base w (if b then Err (refused_at NumberTooLong w.start) else r)
unless_long after base w true r h = λ e. absurd cc
unless_long after base w false r h = h

open_goes : (stack : List Symbol) (d : Draft) (w : Word) (s : Symbol) (after : List Symbol) → IsOfToken w → Follows stack d → step stack w.kind ≡ Some (s, after) → is_open d.value ≡ true → After after d.owner.said.base w (act s w d)
open_goes stack d w s after word follows took h =
    let f : IsAwaited stack d.value.draft = follows h in
    subst (After after d.owner.said.base w) (sym (act_is s w d true h))
    (unless_long after d.owner.said.base w w.too_long (token_act w d) (token_goes w d f.0 s after word f.1 h (ap (λ x. step x w.kind) (sym f.2) ∙ took)))

begun_goes : (stack : List Symbol) (d : Draft) (w : Word) (s : Symbol) (after : List Symbol) → IsOfToken w → step stack w.kind ≡ Some (s, after) → is_open d.value ≡ false → begins_value s ≡ true → After after d.owner.said.base w (act s w d)
begun_goes stack d w s after word took h begins =
    subst (After after d.owner.said.base w) (sym (act_is s w d false h))
    (unless_long after d.owner.said.base w w.too_long (bodies_act s w d) (subst (After after d.owner.said.base w) (sym (begun_by s w d begins)) (first_goes w d stack s after word begins took)))

other_has : (d : Draft) (w : Word) (s : Symbol) → is_open d.value ≡ false → begins_value s ≡ false → Has d.value (act s w d)
other_has d w s h begins = subst (Has d.value) (sym (act_is s w d false h)) (cases w.too_long)
  where
    cases : (b : Bool) → Has d.value (if b then Err (refused_at NumberTooLong w.start) else bodies_act s w d)
    cases true = tt
    cases false = bodies_has s w d begins

pub kept : (stack : List Symbol) (d : Draft) (w : Word) (s : Symbol) (after : List Symbol) (next : Draft) → IsOfToken w → Follows stack d → step stack w.kind ≡ Some (s, after) → act s w d ≡ Ok next → Follows after next
kept stack d w s after next word follows took acted = cases (is_open d.value) refl (begins_value s) refl
  where
    cases : (a : Bool) → is_open d.value ≡ a → (b : Bool) → begins_value s ≡ b → Follows after next
    cases true h b begins = subst (After after d.owner.said.base w) acted (open_goes stack d w s after word follows took h)
    cases false h true begins = subst (After after d.owner.said.base w) acted (begun_goes stack d w s after word took h begins)
    cases false h false begins = closed after next d.value (subst (Has d.value) acted (other_has d w s h begins)) h

pub refused : (stack : List Symbol) (d : Draft) (w : Word) (s : Symbol) (after : List Symbol) (r : Refused) → IsOfToken w → Follows stack d → step stack w.kind ≡ Some (s, after) → IsOfValue s d → act s w d ≡ Err r
    → r.kind ≡ Syntax → IsNoPathFrom d.owner.said.base w.token w.text
refused stack d w s after r word follows took of acted = cases (is_open d.value) refl of
  where
    cases : (a : Bool) → is_open d.value ≡ a → IsOfValue s d → r.kind ≡ Syntax → IsNoPathFrom d.owner.said.base w.token w.text
    cases true h either = subst (After after d.owner.said.base w) acted (open_goes stack d w s after word follows took h)
    cases false h (inl open') = absurd (let e : true ≡ false = sym open' ∙ h in cc)
    cases false h (inr begins) = subst (After after d.owner.said.base w) acted (begun_goes stack d w s after word took h begins)

pub begins : Follows layer blank
unfolding blank
begins = λ o. absurd cc
