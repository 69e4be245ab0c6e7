-- A value that is going takes each word, and goes to what it is for when it is complete.
use Rattle.std.proofs.Common.{◌≡◌, ◌∙◌, ℕ, ◌≤◌, Bool, true, false, not, List, [], ◌∷◌, ◌++◌, map, Option, Some, None, Result, Ok, Err, ap, sym, refl, arith}
use Rattle.std.specs.Prelude.{if◌then◌else◌}
use Rattle.sdf_paths.specs.declared.element.Element.{Element}
use Rattle.sdf_values.specs.declared.refusal.RefusalKind.TheVariants.{NumberTooLong}
use Rattle.sdf_values.specs.declared.value.Value.{Value}
use Rattle.usda_grammar.specs.declared.symbols.Symbol.{Symbol}
use Rattle.usda_grammar.specs.declared.symbols.Symbol.TheVariants as symbol
use Rattle.usda_grammar.specs.Machine.{step, steps, left_behind, choose}
use Rattle.usda_grammar.specs.Table.{starts, may_be_absent}
use Rattle.usda_lexer.specs.declared.token.TokenKind.{TokenKind}
use Rattle.usda_lexer.specs.declared.token.TokenKind.TheVariants as form
use Rattle.usda_machine.specs.Reading.{run, after_step, after_act}
use Rattle.usda_values.specs.declared.draft.ValueDraft.{ValueDraft}
use Rattle.usda_values.specs.declared.level.Place.TheVariants as place
use Rattle.usda_values.specs.Drafts.{Acted, value_act, is_complete, value_of, draft_of, give_act}
use Rattle.usda_words.specs.Words.{Word, word_kind}
use Rattle.usda_statements.specs.OpenValues.{no_value, is_open, given, given_in, given_path, with_draft}
use Rattle.usda_drafts.specs.Acts.{act, bodies_act}
use Rattle.usda_drafts.specs.Refusals.{refused}
use Rattle.usda_drafts.specs.Values.{token_act, first_act, after_token, completed, with_value_begun, is_selections}
use Rattle.usda_drafts.specs.declared.draft.Draft.{Draft}
use Rattle.usda_drafts.specs.declared.fault.Refused.{Refused}
use Rattle.value_texts.specs.Acts.{acts}
use Rattle.value_texts.specs.Cuts.{Said}
use Rattle.value_texts.specs.Readable.{is_read_as, depth}
use Rattle.value_texts.specs.ValueWords.{words_of_value}
use Rattle.value_texts.specs.Words.{Told, told_of, as_word}
use Rattle.value_texts.specs.Writable.{is_writable}
use Rattle.value_texts.proofs.ValuesGiven.{value_given}
use Rattle.value_texts.proofs.ValueReads.{after_complete}
use Rattle.value_texts.proofs.Given.{Then}
use Rattle.layer_reads.specs.Fixed.{IsFixedAs, IsFixed, AreFixed}
use Rattle.layer_reads.specs.Membered.{is_membered, kinds_of}
use Rattle.layer_reads.specs.Taking.{AreTaken}
use Rattle.layer_reads.proofs.ValueSteps.{value_stepped}

-- a draft with another draft of the value that is going
abbrev with_more : Draft → ValueDraft → Draft
with_more d v = record d { value = record d.value { draft = v } }

-- a word that is fixed goes to the value as it is
plainly : (base : List Element) (k : TokenKind) (text : List ℕ) (d : ValueDraft) → IsFixedAs base k text → given_in base false k text d ≡ value_act k text d
plainly base form.Path text d h = ap (λ o. given_path false o d) h
plainly base form.Name text d h = refl
plainly base form.Number text d h = refl
plainly base form.String text d h = refl
plainly base form.Asset text d h = refl
plainly base (form.Mark m) text d h = refl

-- what a word makes of a draft with an going value
open_act : (s : Symbol) (w : Word) (x : Said) (d : Draft) (next : ValueDraft) → told_of w ≡ as_word x → is_open d.value ≡ true → d.value.only_strings ≡ false → IsFixed d.owner.said.base x
    → value_act x.kind x.text d.value.draft ≡ Ok next → act s w d ≡ after_token (Ok (record d.value { draft = next })) w.start d
unfolding act token_act
open_act s w x d next told going plain fixed acted =
    let short : w.too_long ≡ false = ap (λ (t : Told). t.too_long) told in
    ap (λ b. if b then Err (refused NumberTooLong w.start) else if is_open d.value then token_act w d else bodies_act s w d) short
    ∙ ap (λ b. if b then token_act w d else bodies_act s w d) going
    ∙ ap (λ (t : Told). after_token (given d.owner.said.base t.token t.text d.value) w.start d) told
    ∙ ap (λ b. after_token (with_draft d.value (given_in d.owner.said.base b x.kind x.text d.value.draft)) w.start d) plain
    ∙ ap (λ r. after_token (with_draft d.value r) w.start d) (plainly d.owner.said.base x.kind x.text d.value.draft fixed ∙ acted)

not_both : (b : Bool) → b ≡ true → not b ≡ true → ⊥
not_both true h k = cc
not_both false h k = cc

module _ (refused_as : Option Word → Refused) (rest : List Word) (to : List Symbol) where
  abbrev Runs : List Symbol → Draft → List Word → Result Draft Refused
  Runs from d ws = run word_kind act refused_as from d ws

  -- the words of a value, up to the last one
  pub open_words : (said : List Said) (ws : List Word) (from : List Symbol) (d next : Draft) (end : ValueDraft) → map told_of ws ≡ map as_word said → is_open d.value ≡ true → d.value.only_strings ≡ false
      → AreFixed d.owner.said.base said → acts said d.value.draft ≡ Ok end → is_complete end ≡ true → steps from (kinds_of said) ≡ Some to
      → ((at : ℕ) → completed d.aim.goal (value_of end) at (record d { value = no_value }) ≡ Ok next) → Runs from d (ws ++ rest) ≡ Runs to next rest
  open_words [] ws from d next end told going plain fixed given done stepped goes =
      absurd (let same : d.value.draft ≡ end = cc given in not_both (is_complete d.value.draft) (ap is_complete same ∙ done) going)
  open_words (x ∷ said) [] from d next end told going plain fixed given done stepped goes = absurd cc
  open_words (x ∷ said) (w ∷ ws) from d next end told going plain fixed given done stepped goes =
      let head : told_of w ≡ as_word x = cc told in
      let tail : map told_of ws ≡ map as_word said = cc told in
      by_act (value_act x.kind x.text d.value.draft) refl given head tail (λ mid e o p f g st k. open_words said ws mid e next end tail o p f g done st k)
    where
      -- what is shown of the words behind
      More : List Said → List Word → Type 0
      More said ws =
          (mid : List Symbol) (e : Draft) → is_open e.value ≡ true → e.value.only_strings ≡ false → AreFixed e.owner.said.base said → acts said e.value.draft ≡ Ok end → steps mid (kinds_of said) ≡ Some to
          → ((at : ℕ) → completed e.aim.goal (value_of end) at (record e { value = no_value }) ≡ Ok next) → Runs mid e (ws ++ rest) ≡ Runs to next rest

      -- the word completes the value, or does not
      by_draft : (v : ValueDraft) (said : List Said) (ws : List Word) (s : Symbol) (mid : List Symbol) (b : Bool) → is_complete v ≡ b → acts said v ≡ Ok end → map told_of ws ≡ map as_word said → AreFixed d.owner.said.base said
          → steps mid (kinds_of said) ≡ Some to → act s w d ≡ after_token (Ok (record d.value { draft = v })) w.start d
          → More said ws
          → after_act word_kind act refused_as (act s w d) (λ e. Runs mid e (ws ++ rest)) ≡ Runs to next rest
      by_draft v [] [] s mid true h g t f st acted more =
          let same : v ≡ end = cc g in
          let there : mid ≡ to = cc st in
          ap (λ r. after_act word_kind act refused_as r (λ e. Runs mid e rest)) acted
          ∙ ap (λ b. after_act word_kind act refused_as (if not b then Ok (with_more d v) else completed d.aim.goal (value_of v) w.start (record d { value = no_value })) (λ e. Runs mid e rest)) h
          ∙ ap (λ u. after_act word_kind act refused_as (completed d.aim.goal (value_of u) w.start (record d { value = no_value })) (λ e. Runs mid e rest)) same
          ∙ ap (λ r. after_act word_kind act refused_as r (λ e. Runs mid e rest)) (goes w.start)
          ∙ ap (λ l. Runs l next rest) there
      by_draft v [] (u ∷ us) s mid true h g t f st acted more = absurd cc
      by_draft v (y ∷ ys) us s mid true h g t f st acted more = absurd (after_complete y ys v end h g)
      by_draft v said ws s mid false h g t f st acted more =
          ap (λ r. after_act word_kind act refused_as r (λ e. Runs mid e (ws ++ rest))) acted
          ∙ ap (λ b. after_act word_kind act refused_as (if not b then Ok (with_more d v) else completed d.aim.goal (value_of v) w.start (record d { value = no_value })) (λ e. Runs mid e (ws ++ rest))) h
          ∙ more mid (with_more d v) (ap not h) plain f g st goes

      -- the symbol that takes the word
      by_step : (o : Option (Symbol × List Symbol)) (v : ValueDraft) → step from (as_word x).kind ≡ o → left_behind o (λ next. steps next (kinds_of said)) ≡ Some to → value_act x.kind x.text d.value.draft ≡ Ok v → acts said v ≡ Ok end
          → told_of w ≡ as_word x → map told_of ws ≡ map as_word said → More said ws → Runs from d (w ∷ ws ++ rest) ≡ Runs to next rest
      by_step None v at st acted g head tail more = absurd cc
      by_step (Some o) v at st acted g head tail more =
          ap (λ (t : Told). after_step word_kind act refused_as (step from t.kind) d w (λ l e. Runs l e (ws ++ rest))) head
          ∙ ap (λ q. after_step word_kind act refused_as q d w (λ l e. Runs l e (ws ++ rest))) at
          ∙ by_draft v said ws o.0 o.1 (is_complete v) refl g tail fixed.1 st (open_act o.0 w x d v head going plain fixed.0 acted) more

      by_act : (r : Acted) → value_act x.kind x.text d.value.draft ≡ r → Then said r ≡ Ok end → told_of w ≡ as_word x → map told_of ws ≡ map as_word said → More said ws → Runs from d (w ∷ ws ++ rest) ≡ Runs to next rest
      by_act (Err k) acted g head tail more = absurd cc
      by_act (Ok v) acted g head tail more = by_step (step from (as_word x).kind) v refl stepped acted g head tail more

-- symbols by which a value begins
abbrev pub Begins : Symbol → Type 0
Begins s = (may_be_absent s ≡ false) × ((w : Word) (d : Draft) → bodies_act s w d ≡ first_act w d)

pub value_begins : Begins symbol.Value
unfolding bodies_act
value_begins = (refl, λ w d. refl)

pub dictionary_begins : Begins symbol.Dictionary
unfolding bodies_act
dictionary_begins = (refl, λ w d. refl)

-- the first word finds a value that is begun
first_word : (s : Symbol) → Begins s → (w : Word) (d : Draft) → w.too_long ≡ false → is_open d.value ≡ false → act s w d ≡ act s w (with_value_begun d)
unfolding act first_act
first_word s begins w d short going =
    ap (λ b. if b then Err (refused NumberTooLong w.start) else if is_open d.value then token_act w d else bodies_act s w d) short
    ∙ ap (λ b. if b then token_act w d else bodies_act s w d) going
    ∙ begins.1 w d
    ∙ sym (ap (λ b. if b then Err (refused NumberTooLong w.start) else token_act w (with_value_begun d)) short)

begun : (s : Symbol) → Begins s → (w : Word) (d : Draft) → w.too_long ≡ false → is_open d.value ≡ false → (r : Option Word → Refused) (below : List Symbol) (rest : List Word)
    → run word_kind act r (s ∷ below) d (w ∷ rest) ≡ run word_kind act r (s ∷ below) (with_value_begun d) (w ∷ rest)
begun s begins w d short going r below rest = by (starts s w.kind) refl
  where
    chosen : (o : Option (List Symbol)) → starts s w.kind ≡ o → step (s ∷ below) w.kind ≡ choose s below o false (step below w.kind)
    chosen o e = ap (λ q. choose s below q (may_be_absent s) (step below w.kind)) e ∙ ap (λ b. choose s below o b (step below w.kind)) begins.0

    stepped : (e : Draft) (o : Option (Symbol × List Symbol)) → step (s ∷ below) w.kind ≡ o → run word_kind act r (s ∷ below) e (w ∷ rest) ≡ after_step word_kind act r o e w (λ l f. run word_kind act r l f rest)
    stepped e o h = ap (λ q. after_step word_kind act r q e w (λ l f. run word_kind act r l f rest)) h

    by : (o : Option (List Symbol)) → starts s w.kind ≡ o → run word_kind act r (s ∷ below) d (w ∷ rest) ≡ run word_kind act r (s ∷ below) (with_value_begun d) (w ∷ rest)
    by None e = stepped d None (chosen None e) ∙ sym (stepped (with_value_begun d) None (chosen None e))
    by (Some after) e =
        stepped d (Some (s, after ++ below)) (chosen (Some after) e)
        ∙ ap (λ a. after_act word_kind act r a (λ f. run word_kind act r (after ++ below) f rest)) (first_word s begins w d short going)
        ∙ sym (stepped (with_value_begun d) (Some (s, after ++ below)) (chosen (Some after) e))

-- The words of a value are taken by a symbol by which a value begins, and the value goes to what it is for.
pub taken_by : (s : Symbol) → Begins s → (v : Value) (d next : Draft) → is_open d.value ≡ false → is_selections d.aim.goal ≡ false → is_writable v ≡ true → is_read_as v d.aim.shape true ≡ true → depth v ≤ 64
    → AreFixed d.owner.said.base (words_of_value v) → ((below : List Symbol) → steps (s ∷ below) (kinds_of (words_of_value v)) ≡ Some below)
    → ((at : ℕ) → completed d.aim.goal v at (record d { value = no_value }) ≡ Ok next) → AreTaken (s ∷ []) d (words_of_value v) [] (λ e. e ≡ next)
taken_by s begins v d next going plain writable read deep fixed stepped goes = record { taken = λ ws told. (next, refl, record { goes = λ r below rest. words (words_of_value v) ws told given fixed (stepped below) r rest }) }
  where
    end : ValueDraft
    end = give_act v (draft_of place.Value d.aim.shape)

    given : acts (words_of_value v) (draft_of place.Value d.aim.shape) ≡ Ok end
    given = value_given v (draft_of place.Value d.aim.shape) refl refl writable read (omega (arith, deep))

    words : (said : List Said) (ws : List Word) → map told_of ws ≡ map as_word said → acts said (draft_of place.Value d.aim.shape) ≡ Ok end → AreFixed d.owner.said.base said
        → {below : List Symbol} → steps (s ∷ below) (kinds_of said) ≡ Some below → (r : Option Word → Refused) (rest : List Word) → run word_kind act r (s ∷ below) d (ws ++ rest) ≡ run word_kind act r below next rest
    words [] ws told g f st r rest = absurd (let same : draft_of place.Value d.aim.shape ≡ end = cc g in let bad : false ≡ true = ap is_complete same in cc)
    words (x ∷ said) [] told g f st r rest = absurd cc
    words (x ∷ said) (w ∷ ws) told g f {below = below} st r rest =
        let head : told_of w ≡ as_word x = cc told in
        begun s begins w d (ap (λ (t : Told). t.too_long) head) going r below (ws ++ rest)
        ∙ open_words r rest below (x ∷ said) (w ∷ ws) (s ∷ below) (with_value_begun d) next end told refl plain f g refl st goes

-- the words of a value where one has to come
pub value_taken : (v : Value) (d next : Draft) → is_open d.value ≡ false → is_selections d.aim.goal ≡ false → is_membered v ≡ true → is_writable v ≡ true → is_read_as v d.aim.shape true ≡ true → depth v ≤ 64
    → AreFixed d.owner.said.base (words_of_value v) → ((at : ℕ) → completed d.aim.goal v at (record d { value = no_value }) ≡ Ok next) → AreTaken (symbol.Value ∷ []) d (words_of_value v) [] (λ e. e ≡ next)
value_taken v d next going plain membered writable read deep fixed goes = taken_by symbol.Value value_begins v d next going plain writable read deep fixed (value_stepped v membered) goes
