-- What is expected of the next value, whatever that is: where it stays as it was, and where no value comes next.
use Rattle.std.proofs.Common.{◌≡◌, ◌∙◌, sym, ap, refl, subst, ℕ, Bool, true, false, List, [], ◌∷◌, ◌++◌, Option, Some, Ok, Err, ◌⊎◌, inl, inr}
use Rattle.std.specs.Prelude.{Result, if◌then◌else◌}
use Rattle.sdf_values.specs.declared.refusal.RefusalKind.{RefusalKind}
use Rattle.sdf_values.specs.declared.value.Value.{Value}
use Rattle.usda_fields.specs.Owners as owner
use Rattle.usda_fields.specs.Variants as variants
use Rattle.usda_fields.specs.declared.owner.OwnerDraft.{OwnerDraft}
use Rattle.usda_grammar.specs.Table.{starts}
use Rattle.usda_grammar.specs.declared.kinds.WordKind.{WordKind}
use Rattle.usda_grammar.specs.declared.kinds.WordKind.TheVariants as token
use Rattle.usda_grammar.specs.declared.symbols.Symbol.{Symbol}
use Rattle.usda_grammar.specs.declared.symbols.Symbol.TheVariants as symbol
use Rattle.usda_statements.specs.Headings.{with_brackets}
use Rattle.usda_statements.specs.OpenValues.{no_value, is_open, given, value_in}
use Rattle.usda_statements.specs.PropertyDrafts.{with_default, with_sample, meta_act}
use Rattle.usda_statements.specs.declared.heading.Heading.{Heading}
use Rattle.usda_statements.specs.declared.open_value.OpenValue.{OpenValue}
use Rattle.usda_statements.specs.declared.property.PropertyDraft.{PropertyDraft}
use Rattle.usda_words.specs.Words.{Word}
use Rattle.usda_drafts.specs.Acts.{bodies_act}
use Rattle.usda_drafts.specs.Bodies.{headed, brackets_act, tail_act, sample_act}
use Rattle.usda_drafts.specs.Refusals.{Acted}
use Rattle.usda_drafts.specs.Values.{completed, after_token, token_act, first_act, with_value_begun, with_said, with_property}
use Rattle.usda_drafts.specs.declared.aim.Goal.{Goal}
use Rattle.usda_drafts.specs.declared.aim.Goal.TheVariants as goal
use Rattle.usda_drafts.specs.declared.draft.Draft.{Draft}
use Rattle.text_syntax.specs.Open.{begins_value}
use Rattle.text_syntax.proofs.Kept.{bodies_value}
use Rattle.properties_read.specs.Aims.{is_of_value, is_mark, awaits_value}
use Rattle.properties_read.proofs.Drafts.{then_made}

pub await_joined : (pushed below : List Symbol) → awaits_value below ≡ false → awaits_value (pushed ++ below) ≡ awaits_value pushed
await_joined [] below h = h
await_joined (s ∷ pushed) below h = ap (λ b. if is_of_value s then true else if is_mark s then b else false) (await_joined pushed below h)

-- what a plain word does to a value that comes next
pub same_draft : (d next : Draft) → ◌≡◌ {A = Acted} (Ok d) (Ok next) → d ≡ next
same_draft d next e = cc

-- What is expected of a value, by what it goes to: another value, another heading and a value that is complete do not change it; where choices
-- of variants are expected it holds of any draft; and the words of a property that a value follows make it so.
pub record Expects (At : Goal → Draft → Type 0) : Type 0 where
  pub again : (g : Goal) (d : Draft) (o : OpenValue) → At g d → At g (record d { value = o })
  pub under : (g : Goal) (d : Draft) (h : Heading) → At g d → At g (headed h d)
  pub told : (d : Draft) (said : OwnerDraft) → At goal.OwnerKey d → At goal.OwnerKey (with_said d said)
  pub noted : (d : Draft) (p : PropertyDraft) → At goal.PropertyKey d → At goal.PropertyKey (with_property d p)
  pub defaulted : (d : Draft) (v : Value) → At goal.Default d → At goal.Default (with_property d (with_default v d.property))
  pub sampled : (d : Draft) (v : Value) → At goal.Sample d → At goal.Sample (with_property d (with_sample d.aim.time v d.property))
  pub chosen : (d : Draft) → At goal.Variants d
  pub default : (d next : Draft) → tail_act token.Equals d ≡ Ok next → At next.aim.goal next
  pub sample : (w : Word) (d next : Draft) → sample_act token.Number w d ≡ Ok next → At next.aim.goal next

module _ (At : Goal → Draft → Type 0) where
  -- what is expected of the next value of the draft
  abbrev Is : Draft → Type 0
  Is d = At d.aim.goal d

  -- what is expected fits, or no value comes next
  abbrev pub AimsOr : List Symbol → Draft → Type 0
  AimsOr pushed next = Is next ⊎ (awaits_value pushed ≡ false)

  pub still : (expected pushed : List Symbol) (next : Draft) → awaits_value expected ≡ false → ◌≡◌ {A = Option (List Symbol)} (Some expected) (Some pushed) → AimsOr pushed next
  still expected pushed next h e = let same : expected ≡ pushed = cc e in inr (subst (λ p. awaits_value p ≡ false) same h)

  -- no value is open behind the word, and none comes next
  unaimed : (s : Symbol) (w : Word) (d next : Draft) (pushed below : List Symbol) → begins_value s ≡ false → is_open d.value ≡ false → bodies_act s w d ≡ Ok next → awaits_value (pushed ++ below) ≡ false
      → (is_open next.value ≡ true) ⊎ (awaits_value (pushed ++ below) ≡ true) → Is next
  unaimed s w d next pushed below v shut b none (inl o) = absurd (let same : is_open next.value ≡ is_open d.value = ap is_open (bodies_value s w d next v b) in cc)
  unaimed s w d next pushed below v shut b none (inr h) = absurd cc

  pub unless_still : (s : Symbol) (w : Word) (d next : Draft) (pushed below : List Symbol) → begins_value s ≡ false → is_open d.value ≡ false → bodies_act s w d ≡ Ok next → awaits_value below ≡ false → AimsOr pushed next
      → (is_open next.value ≡ true) ⊎ (awaits_value (pushed ++ below) ≡ true) → Is next
  unless_still s w d next pushed below v shut b none (inl a) h = a
  unless_still s w d next pushed below v shut b none (inr p) h = unaimed s w d next pushed below v shut b (await_joined pushed below none ∙ p) h

  -- behind a mark that says nothing, what came next still does
  pub mark_aimed : (d next : Draft) (pushed below : List Symbol) → pushed ≡ [] → (awaits_value below ≡ true → Is d) → is_open d.value ≡ false → d ≡ next
      → (is_open next.value ≡ true) ⊎ (awaits_value (pushed ++ below) ≡ true) → Is next
  mark_aimed d next pushed below p aimed shut same (inl o) = absurd (let one : is_open d.value ≡ is_open next.value = ap (λ (x : Draft). is_open x.value) same in cc)
  mark_aimed d next pushed below p aimed shut same (inr g) = subst Is same (aimed (ap (λ q. awaits_value (q ++ below)) (sym p) ∙ g))

  module _ (expects : Expects At) where
    -- a value that is complete
    completed_aimed : (g : Goal) (v : Value) (at : ℕ) (d next : Draft) → d.aim.goal ≡ g → At g d → completed g v at d ≡ Ok next → Is next
    unfolding completed
    completed_aimed goal.Nothing v at d next is a e = let same : d ≡ next = cc e in subst Is same (subst (λ g. At g d) (sym is) a)
    completed_aimed goal.OwnerKey v at d next is a e =
        let m = then_made at (owner.value_act d.aim.key v d.owner.said) (with_said d) next e in
        subst Is {x = with_said d m.0} m.1.1 (subst (λ g. At g (with_said d m.0)) (sym is) (expects.told d m.0 a))
    completed_aimed goal.Variants v at d next is a e =
        let said = with_said d (variants.selections_act v d.owner.said) in
        let same : said ≡ next = cc e in
        subst Is {x = said} same (subst (λ g. At g said) (sym is) (expects.chosen said))
    completed_aimed goal.PropertyKey v at d next is a e =
        let m = then_made at (meta_act d.aim.key v d.property) (with_property d) next e in
        subst Is {x = with_property d m.0} m.1.1 (subst (λ g. At g (with_property d m.0)) (sym is) (expects.noted d m.0 a))
    completed_aimed goal.Default v at d next is a e =
        let made = with_property d (with_default v d.property) in
        let same : made ≡ next = cc e in
        subst Is {x = made} same (subst (λ g. At g made) (sym is) (expects.defaulted d v a))
    completed_aimed goal.Sample v at d next is a e =
        let made = with_property d (with_sample d.aim.time v d.property) in
        let same : made ≡ next = cc e in
        subst Is {x = made} same (subst (λ g. At g made) (sym is) (expects.sampled d v a))

    -- a word of a value
    pub token_aimed : (w : Word) (d next : Draft) → token_act w d ≡ Ok next → Is d → Is next
    unfolding token_act
    token_aimed w d next e a = by (given d.owner.said.base w.token w.text d.value) e
      where
        whole : (v : OpenValue) (b : Bool) → (if b then Ok (record d { value = v }) else completed d.aim.goal (value_in v) w.start (record d { value = no_value })) ≡ Ok next → Is next
        whole v true e = let same : ◌≡◌ {A = Draft} (record d { value = v }) next = cc e in subst Is {x = record d { value = v }} same (expects.again d.aim.goal d v a)
        whole v false e = completed_aimed d.aim.goal (value_in v) w.start (record d { value = no_value }) next refl (expects.again d.aim.goal d no_value a) e

        by : (r : Result OpenValue RefusalKind) → after_token r w.start d ≡ Ok next → Is next
        by (Err k) e = absurd cc
        by (Ok v) e = whole v (is_open v) e

    pub first_aimed : (w : Word) (d next : Draft) → first_act w d ≡ Ok next → Is d → Is next
    unfolding first_act
    first_aimed w d next e a = token_aimed w (with_value_begun d) next e (expects.again d.aim.goal d (with_value_begun d).value a)

    pub brackets_aimed : (w : Word) (d next : Draft) (pushed below : List Symbol) → pushed ≡ symbol.CloseBracket ∷ [] → (awaits_value below ≡ true → Is d) → is_open d.value ≡ false → brackets_act d ≡ Ok next
        → (is_open next.value ≡ true) ⊎ (awaits_value (pushed ++ below) ≡ true) → Is next
    unfolding brackets_act
    brackets_aimed w d next pushed below p aimed shut b h = by (same_draft (headed (with_brackets d.heading) d) next b) h
      where
        by : headed (with_brackets d.heading) d ≡ next → (is_open next.value ≡ true) ⊎ (awaits_value (pushed ++ below) ≡ true) → Is next
        by same (inl o) = absurd (let one : is_open d.value ≡ is_open next.value = ap (λ (x : Draft). is_open x.value) same in cc)
        by same (inr g) = subst Is {x = headed (with_brackets d.heading) d} same (expects.under d.aim.goal d (with_brackets d.heading) (aimed (ap (λ q. awaits_value (q ++ below)) (sym p) ∙ g)))

    -- words of a property behind which a value may come next
    pub tail_aims : (k : WordKind) (d next : Draft) (pushed : List Symbol) → starts symbol.MaybeAttributeTail k ≡ Some pushed → tail_act k d ≡ Ok next → AimsOr pushed next
    tail_aims token.Equals d next pushed e a = inl (expects.default d next a)
    tail_aims token.OpenParen d next pushed e a = still (symbol.PropertyMetadata ∷ symbol.CloseParen ∷ []) pushed next refl e
    tail_aims token.Dot d next pushed e a = still (symbol.AfterDot ∷ []) pushed next refl e
    tail_aims k d next pushed e a = absurd cc

    pub samples_aim : (k : WordKind) (w : Word) (d next : Draft) (pushed : List Symbol) → starts symbol.SamplesOrEnd k ≡ Some pushed → sample_act k w d ≡ Ok next → AimsOr pushed next
    samples_aim token.Number w d next pushed e a = inl (expects.sample w d next a)
    samples_aim token.CloseBrace w d next pushed e a = still [] pushed next refl e
    samples_aim k w d next pushed e a = absurd cc
