-- Where a value is open or comes next, what is expected of it fits what it goes to.
use Rattle.std.proofs.Common.{◌≡◌, ◌∙◌, sym, ap, refl, subst, Bool, true, false, not, ◌&&◌, ◌||◌, List, [], ◌∷◌, ◌++◌, Option, Some, None, Ok, inl, inr}
use Rattle.plain_data.specs.Exact.{both_true}
use Rattle.sdf_values.specs.declared.value.Value.{Value}
use Rattle.usda_grammar.specs.Machine.{choose, step}
use Rattle.usda_grammar.specs.Table.{starts, may_be_absent}
use Rattle.usda_grammar.specs.declared.kinds.WordKind.{WordKind}
use Rattle.usda_grammar.specs.declared.symbols.Symbol.{Symbol}
use Rattle.usda_grammar.specs.declared.symbols.Symbol.TheVariants as symbol
use Rattle.usda_statements.specs.declared.open_value.OpenValue.{OpenValue}
use Rattle.usda_words.specs.Words.{Word}
use Rattle.usda_drafts.specs.Acts.{act}
use Rattle.usda_statements.specs.declared.heading.Heading.{Heading}
use Rattle.usda_drafts.specs.Bodies.{headed}
use Rattle.usda_drafts.specs.Drafts.{blank}
use Rattle.usda_drafts.specs.Values.{aimed}
use Rattle.usda_drafts.specs.declared.aim.Goal.{Goal}
use Rattle.usda_drafts.specs.declared.aim.Goal.TheVariants as goal
use Rattle.usda_drafts.specs.declared.draft.Draft.{Draft}
use Rattle.properties_read.specs.Aims.{IsAimedAt, awaits_value, leads_to_value, is_calm, IsAiming, StepsKeepAims}
use Rattle.properties_read.specs.Drafts.{IsNameWord}
use Rattle.properties_read.proofs.Aims.{default_aimed, sample_aimed, key_aimed}
use Rattle.properties_read.proofs.Awaiting.{opens_calm, are_leading, opens_leading, starts_calm, starts_leading}
use Rattle.properties_read.proofs.Steps.{acted}
use Rattle.properties_read.proofs.WordsAimed.{none_behind, AimsKeys, word_aimed}
use Rattle.properties_read.proofs.Aimed.{await_joined, token_aimed, Expects}

-- ---- a word of a value

-- another value, and another property of the same type, do not change what is expected
pub aimed_again : (g : Goal) (d : Draft) (o : OpenValue) → IsAimedAt g d → IsAimedAt g (record d { value = o })
aimed_again goal.Nothing d o a = a
aimed_again goal.OwnerKey d o a = a
aimed_again goal.Variants d o a = a
aimed_again goal.PropertyKey d o a = a
aimed_again goal.Default d o a = a
aimed_again goal.Sample d o a = a

headed_aimed : (g : Goal) (d : Draft) (h : Heading) → IsAimedAt g d → IsAimedAt g (headed h d)
headed_aimed goal.Nothing d h a = a
headed_aimed goal.OwnerKey d h a = a
headed_aimed goal.Variants d h a = a
headed_aimed goal.PropertyKey d h a = a
headed_aimed goal.Default d h a = a
headed_aimed goal.Sample d h a = a

-- what is expected of a value that goes to a property
expects : Expects IsAimedAt
expects = record { again = aimed_again; under = headed_aimed; told = λ d said a. tt; noted = λ d p a. a; defaulted = λ d v a. a; sampled = λ d v a. a; chosen = λ d. tt; default = default_aimed; sample = sample_aimed }

-- of a key of an owner nothing is expected here, and a key of a property is a name
keys : AimsKeys IsAimedAt (λ s k w d. IsNameWord k w)
keys = record { prim = λ x w rule d plain name. tt; head = λ x w rule d plain name. tt; edited = λ w rule d name. tt; property = λ x w d next name a. key_aimed w d next name a }

-- ---- stacks

rest_calm : (s : Symbol) (rest : List Symbol) → is_calm (s ∷ rest) ≡ true → is_calm rest ≡ true
rest_calm s rest calm = (both_true (leads_to_value s || not (awaits_value rest)) (is_calm rest) calm).1

leading_joined : (pushed below : List Symbol) → are_leading pushed ≡ true → is_calm below ≡ true → is_calm (pushed ++ below) ≡ true
leading_joined [] below h c = c
leading_joined (s ∷ pushed) below h c =
    let p = both_true (leads_to_value s) (are_leading pushed) h in
    ap (λ b. (b || not (awaits_value (pushed ++ below))) && is_calm (pushed ++ below)) p.0 ∙ leading_joined pushed below p.1 c

calm_joined : (pushed below : List Symbol) → is_calm pushed ≡ true → awaits_value below ≡ false → is_calm below ≡ true → is_calm (pushed ++ below) ≡ true
calm_joined [] below h g c = c
calm_joined (s ∷ pushed) below h g c =
    let p = both_true (leads_to_value s || not (awaits_value pushed)) (is_calm pushed) h in
    ap (λ b. (leads_to_value s || not b) && is_calm (pushed ++ below)) (await_joined pushed below g) ∙ ap (λ b. b && is_calm (pushed ++ below)) p.0 ∙ calm_joined pushed below p.1 g c

-- a value that comes next behind a symbol that is absent comes next
absent_awaits : (t : Symbol) (rest : List Symbol) → may_be_absent t ≡ true → is_calm (t ∷ rest) ≡ true → awaits_value rest ≡ true → awaits_value (t ∷ rest) ≡ true
absent_awaits symbol.DictionaryEntries rest ab calm h = refl
absent_awaits symbol.MaybeSeparator rest ab calm h = refl
absent_awaits symbol.MaybeBrackets rest ab calm h = h
absent_awaits symbol.Value rest ab calm h = absurd cc
absent_awaits symbol.Dictionary rest ab calm h = absurd cc
absent_awaits symbol.MembersOrEnd rest ab calm h = absurd cc
absent_awaits symbol.MoreMembers rest ab calm h = absurd cc
absent_awaits symbol.ElementsOrEnd rest ab calm h = absurd cc
absent_awaits symbol.MoreElements rest ab calm h = absurd cc
absent_awaits symbol.EntryKey rest ab calm h = absurd cc
absent_awaits symbol.Equals rest ab calm h = absurd cc
absent_awaits symbol.Colon rest ab calm h = absurd cc
absent_awaits symbol.CloseBrace rest ab calm h = absurd cc
absent_awaits symbol.CloseBracket rest ab calm h = absurd cc
absent_awaits t rest ab calm h = absurd (let none : awaits_value rest ≡ false = none_behind t rest refl calm in cc)

pub record Aimed (stack : List Symbol) (k : WordKind) (s : Symbol) (after : List Symbol) : Type 0 where
  pub below : List Symbol
  pub pushed : List Symbol
  pub starts_is : starts s k ≡ Some pushed
  pub after_is : pushed ++ below ≡ after
  pub calm : is_calm (s ∷ below) ≡ true
  pub awaited : awaits_value (s ∷ below) ≡ true → awaits_value stack ≡ true

pub found : (stack : List Symbol) (k : WordKind) (s : Symbol) (after : List Symbol) → is_calm stack ≡ true → step stack k ≡ Some (s, after) → Aimed stack k s after
found [] k s after calm e = absurd cc
found (t ∷ stack) k s after calm e = by (starts t k) (may_be_absent t) refl refl e (λ g f. found stack k s after g f)
  where
    by : (o : Option (List Symbol)) (b : Bool) → starts t k ≡ o → may_be_absent t ≡ b → choose t stack o b (step stack k) ≡ Some (s, after)
        → (is_calm stack ≡ true → step stack k ≡ Some (s, after) → Aimed stack k s after) → Aimed (t ∷ stack) k s after
    by (Some pushed) b st ab e more =
        let pair : ◌≡◌ {A = Symbol × List Symbol} (t, pushed ++ stack) (s, after) = cc e in
        let here : t ≡ s = ap (λ (p : Symbol × List Symbol). p.0) pair in
        let left : pushed ++ stack ≡ after = ap (λ (p : Symbol × List Symbol). p.1) pair in
        let one : Aimed (t ∷ stack) k t (pushed ++ stack) = record { below = stack; pushed = pushed; starts_is = st; after_is = refl; calm = calm; awaited = λ h. h } in
        subst (λ x. Aimed (t ∷ stack) k x after) here (subst (λ a. Aimed (t ∷ stack) k t a) left one)
    by None true st ab e more =
        let rest = more (rest_calm t stack calm) e in
        record { below = rest.below; pushed = rest.pushed; starts_is = rest.starts_is; after_is = rest.after_is; calm = rest.calm; awaited = λ h. absent_awaits t stack ab calm (rest.awaited h) }
    by None false st ab e more = absurd cc

made_calm : (s : Symbol) (k : WordKind) (pushed below : List Symbol) → starts s k ≡ Some pushed → is_calm (s ∷ below) ≡ true → is_calm (pushed ++ below) ≡ true
made_calm s k pushed below e calm = by (leads_to_value s) refl
  where
    by : (b : Bool) → leads_to_value s ≡ b → is_calm (pushed ++ below) ≡ true
    by true h = leading_joined pushed below (ap opens_leading (sym e) ∙ starts_leading s k h) (rest_calm s below calm)
    by false h = calm_joined pushed below (ap opens_calm (sym e) ∙ starts_calm s k h) (none_behind s below h calm) (rest_calm s below calm)

-- ---- each step

step_aimed : (stack after : List Symbol) (s : Symbol) (w : Word) (d next : Draft) → step stack w.kind ≡ Some (s, after) → act s w d ≡ Ok next → IsNameWord w.kind w
    → IsAiming stack d → IsAiming after next
step_aimed stack after s w d next st a name aiming =
    let f = found stack w.kind s after aiming.calm st in
    subst (λ x. IsAiming x next) f.after_is (record {
      calm = made_calm s w.kind f.pushed f.below f.starts_is f.calm;
      aimed = λ h. elim (acted s w d next a) [
        | inl t ↦ token_aimed IsAimedAt expects w d next t.1 (aiming.aimed (inl t.0))
        | inr b ↦ word_aimed IsAimedAt (λ s k w d. IsNameWord k w) expects keys s w d next f.pushed f.below f.starts_is f.calm name (λ g. aiming.aimed (inr (f.awaited g))) b.0 b.1 h
      ];
    })

pub steps_aimed : StepsKeepAims
unfolding blank
steps_aimed = record {
  begins = record { calm = refl; aimed = λ h. tt };
  kept = step_aimed;
  open_value = λ stack d a o. a.aimed (inl o);
  next_value = λ stack d a n. a.aimed (inr n);
}
