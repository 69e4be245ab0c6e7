-- Each word of a layer keeps the open value sound.
use Rattle.std.proofs.Common.{◌≡◌, ◌∙◌, Bool, true, false, List, Some, None, Result, Ok, Err, ap, sym, refl, subst, inl, inr}
use Rattle.std.specs.Prelude.{if◌then◌else◌}
use Rattle.sdf_paths.specs.Paths.{IsPath}
use Rattle.sdf_values.specs.declared.refusal.RefusalKind.{RefusalKind}
use Rattle.usda_drafts.specs.Acts.{act}
use Rattle.usda_drafts.specs.Drafts.{blank}
use Rattle.usda_drafts.specs.Values.{completed, after_token, token_act, first_act, with_value_begun, is_selections}
use Rattle.usda_drafts.specs.declared.draft.Draft.{Draft}
use Rattle.usda_grammar.specs.Table.{starts}
use Rattle.usda_grammar.specs.declared.kinds.WordKind.TheVariants as kind
use Rattle.usda_grammar.specs.declared.symbols.Symbol.{Symbol}
use Rattle.usda_grammar.specs.declared.symbols.Symbol.TheVariants as symbol
use Rattle.usda_statements.specs.OpenValues.{no_value, is_open, given, value_in}
use Rattle.usda_statements.specs.declared.open_value.OpenValue.{OpenValue}
use Rattle.usda_words.specs.Words.{Word}
use Rattle.text_syntax.specs.Open.{begins_value, IsOfValue}
use Rattle.text_syntax.proofs.Kept.{Has, bodies_has, completed_has}
use Rattle.text_syntax.proofs.Tokens.{begun_by, acted_by}
use Rattle.values_read.specs.Sound.{IsSoundDraft}
use Rattle.values_read.specs.Tokens.{is_lexed, IsLexedWord}
use Rattle.values_read.specs.Words.{IsOpenSound, ValueGoesOn, still_open, complete, WordsKeepValuesSound}
use Rattle.values_read.proofs.Open.{open_sound}

-- no symbol takes a fault
pub no_start : (s : Symbol) → starts s kind.Fault ≡ None
no_start symbol.Value = refl
no_start _ = refl

pub is_token : (s : Symbol) (w : Word) (after : List Symbol) → IsLexedWord w → starts s w.kind ≡ Some after → is_lexed w.token w.text ≡ true
is_token s w after (inl is) took = is
is_token s w after (inr fault) took = absurd (let none : None ≡ Some after = sym (no_start s) ∙ ap (starts s) (sym fault) ∙ took in cc)

-- ---- a word of a value

token_goes : (w : Word) (d next : Draft) → is_lexed w.token w.text ≡ true → IsPath d.owner.said.base → IsSoundDraft d.aim.shape d.value.draft → token_act w d ≡ Ok next → ValueGoesOn d w next
unfolding token_act
token_goes w d next lexed path sound h = cases (given d.owner.said.base w.token w.text d.value) refl h
  where
    by_end : (v : OpenValue) → IsSoundDraft d.aim.shape v.draft → (b : Bool) → is_open v ≡ b → (if b then Ok (record d { value = v }) else completed d.aim.goal (value_in v) w.start (record d { value = no_value })) ≡ Ok next
        → ValueGoesOn d w next
    by_end v is true e g = (let same : record d { value = v } ≡ next = cc g in still_open v e is (sym same))
    by_end v is false e g = complete (value_in v) (open_sound.complete d.aim.shape v is e) g

    cases : (r : Result OpenValue RefusalKind) → given d.owner.said.base w.token w.text d.value ≡ r → after_token r w.start d ≡ Ok next → ValueGoesOn d w next
    cases (Err k) e g = absurd cc
    cases (Ok v) e g = by_end v (open_sound.kept d.aim.shape d.owner.said.base d.value v w.token w.text path lexed sound e) (is_open v) refl g

-- what is left of a draft in which a value is begun is left of the draft before
begun_goes : (w : Word) (d next : Draft) → ValueGoesOn (with_value_begun d) w next → ValueGoesOn d w next
begun_goes w d next (still_open v e is same) = still_open v e is same
begun_goes w d next (complete v is h) = complete v is h

first_goes : (w : Word) (d next : Draft) → is_lexed w.token w.text ≡ true → IsPath d.owner.said.base → first_act w d ≡ Ok next → ValueGoesOn d w next
unfolding first_act
first_goes w d next lexed path h = begun_goes w d next (token_goes w (with_value_begun d) next lexed path (open_sound.begun d.aim.shape (is_selections d.aim.goal)) h)

-- ---- each word

value : (s : Symbol) (w : Word) (d next : Draft) (after : List Symbol) → IsLexedWord w → IsPath d.owner.said.base → IsOpenSound d → starts s w.kind ≡ Some after → IsOfValue s d → act s w d ≡ Ok next → ValueGoesOn d w next
value s w d next after lexed path sound took of h = cases (is_open d.value) refl of
  where
    token : is_lexed w.token w.text ≡ true
    token = is_token s w after lexed took

    cases : (b : Bool) → is_open d.value ≡ b → IsOfValue s d → ValueGoesOn d w next
    cases true e either = token_goes w d next token path (sound e) (acted_by s w d next true e h)
    cases false e (inl opened) = absurd (let bad : true ≡ false = sym opened ∙ e in cc)
    cases false e (inr begins) = first_goes w d next token path (sym (begun_by s w d begins) ∙ acted_by s w d next false e h)

-- ---- what is left

shut : (next : Draft) (v : OpenValue) → next.value ≡ v → is_open v ≡ false → IsOpenSound next
shut next v is e opened = absurd (let bad : true ≡ false = sym opened ∙ ap is_open is ∙ e in cc)

still : (d next : Draft) (v : OpenValue) → IsSoundDraft d.aim.shape v.draft → next ≡ record d { value = v } → IsOpenSound next
still d next v is same = subst IsOpenSound (sym same) (λ opened. is)

gone_on : (w : Word) (d next : Draft) → ValueGoesOn d w next → IsOpenSound next
gone_on w d next (still_open v e is same) = still d next v is same
gone_on w d next (complete v is h) = shut next no_value (subst (Has no_value) h (completed_has d.aim.goal v w.start (record d { value = no_value }))) refl

other_word : (s : Symbol) (w : Word) (d next : Draft) → is_open d.value ≡ false → begins_value s ≡ false → act s w d ≡ Ok next → IsOpenSound next
other_word s w d next e begins h = shut next d.value (subst (Has d.value) (acted_by s w d next false e h) (bodies_has s w d begins)) e

kept : (s : Symbol) (w : Word) (d next : Draft) (after : List Symbol) → IsLexedWord w → IsPath d.owner.said.base → IsOpenSound d → starts s w.kind ≡ Some after → act s w d ≡ Ok next → IsOpenSound next
kept s w d next after lexed path sound took h = cases (is_open d.value) refl (begins_value s) refl
  where
    cases : (a : Bool) → is_open d.value ≡ a → (b : Bool) → begins_value s ≡ b → IsOpenSound next
    cases true e b begins = gone_on w d next (value s w d next after lexed path sound took (inl e) h)
    cases false e true begins = gone_on w d next (value s w d next after lexed path sound took (inr begins) h)
    cases false e false begins = other_word s w d next e begins h

begins : IsOpenSound blank
unfolding blank
begins opened = absurd cc

pub words_keep : WordsKeepValuesSound
words_keep = record { begins = begins; kept = kept; value = value }
