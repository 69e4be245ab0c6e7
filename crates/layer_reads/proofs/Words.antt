-- Single words, and symbols that may be absent before a word.
use Rattle.std.proofs.Common.{◌≡◌, ◌∙◌, true, false, List, [], ◌∷◌, ◌++◌, map, Some, None, Ok, ap, sym, refl, subst}
use Rattle.usda_grammar.specs.declared.kinds.WordKind.{WordKind}
use Rattle.usda_grammar.specs.declared.symbols.Symbol.{Symbol}
use Rattle.usda_grammar.specs.Machine.{step, choose}
use Rattle.usda_grammar.specs.Table.{starts, may_be_absent}
use Rattle.usda_machine.specs.Reading.{run, after_step}
use Rattle.usda_statements.specs.OpenValues.{is_open}
use Rattle.usda_words.specs.Words.{Word, word_kind}
use Rattle.usda_drafts.specs.Acts.{act, bodies_act}
use Rattle.usda_drafts.specs.declared.draft.Draft.{Draft}
use Rattle.value_texts.specs.Cuts.{Said}
use Rattle.value_texts.specs.Words.{Told, told_of, as_word}
use Rattle.layer_reads.specs.Taking.{Lead, AreTaken}
use Rattle.layer_reads.proofs.FieldLists.{plain_act}
use Rattle.layer_reads.proofs.Taking.{taken_one, together}

-- a word that says this
abbrev pub saying_word : Said → Word → Word
saying_word x w = record w { kind = (as_word x).kind; token = x.kind; text = x.text; too_long = false }

-- a word by the symbol that takes it, where no value is open
pub word_taken : (from to : List Symbol) (s : Symbol) (d : Draft) (x : Said) (Is : Draft → Type 0) → is_open d.value ≡ false → ((below : List Symbol) → step (from ++ below) (as_word x).kind ≡ Some (s, to ++ below))
    → ((w : Word) → (next : Draft) × Is next × (bodies_act s (saying_word x w) d ≡ Ok next)) → AreTaken from d (x ∷ []) to Is
word_taken from to s d x Is shut goes acts = taken_one from to s d x Is goes by
  where
    by : (w : Word) → told_of w ≡ as_word x → (next : Draft) × Is next × (act s w d ≡ Ok next)
    by w told =
        let a = acts w in
        (a.0, a.1, plain_act s w x d told shut ∙ ap (λ (t : Told). bodies_act s (record w { kind = t.kind; token = t.token; text = t.text; too_long = t.too_long }) d) told ∙ a.2)

-- a symbol that begins with another word is absent before this one
pub step_past : (s : Symbol) (stack : List Symbol) (k : WordKind) → may_be_absent s ≡ true → starts s k ≡ None → step (s ∷ stack) k ≡ step stack k
step_past s stack k absent none = ap (λ o. choose s stack o (may_be_absent s) (step stack k)) none ∙ ap (λ b. choose s stack None b (step stack k)) absent

pub past : (s : Symbol) (from to : List Symbol) (d : Draft) (x : Said) (said : List Said) (Is : Draft → Type 0) → may_be_absent s ≡ true → starts s (as_word x).kind ≡ None → AreTaken from d (x ∷ said) to Is
    → AreTaken (s ∷ from) d (x ∷ said) to Is
past s from to d x said Is absent none p = record { taken = by }
  where
    by : (ws : List Word) → map told_of ws ≡ as_word x ∷ map as_word said → (next : Draft) × Is next × Lead (s ∷ from) d ws to next
    by [] h = absurd cc
    by (w ∷ ws) h =
        let told : told_of w ≡ as_word x = cc in
        let t = p.taken (w ∷ ws) h in (
          t.0,
          t.1,
          record {
            goes = λ r below rest.
                ap (λ o. after_step word_kind act r o d w (λ stack e. run word_kind act r stack e (ws ++ rest))) (step_past s (from ++ below) w.kind absent (ap (λ (t : Told). starts s t.kind) told ∙ none))
                ∙ (t.2).goes r below rest;
          },
        )

-- a word that leads to this draft, and the words behind it
pub word_then : (from mid to : List Symbol) (s : Symbol) (d e : Draft) (x : Said) (said : List Said) (After : Draft → Type 0) → is_open d.value ≡ false
    → ((below : List Symbol) → step (from ++ below) (as_word x).kind ≡ Some (s, mid ++ below)) → ((w : Word) → bodies_act s (saying_word x w) d ≡ Ok e) → AreTaken mid e said to After → AreTaken from d (x ∷ said) to After
word_then from mid to s d e x said After shut goes acts rest =
    together from mid to d (x ∷ []) said (λ f. f ≡ e) After (word_taken from mid s d x (λ f. f ≡ e) shut goes (λ w. (e, refl, acts w))) (λ f same. subst (λ f. AreTaken mid f said to After) (sym same) rest)

-- the last word
pub last_word : (from to : List Symbol) (s : Symbol) (d e : Draft) (x : Said) (Is : Draft → Type 0) → is_open d.value ≡ false → ((below : List Symbol) → step (from ++ below) (as_word x).kind ≡ Some (s, to ++ below))
    → ((w : Word) → bodies_act s (saying_word x w) d ≡ Ok e) → Is e → AreTaken from d (x ∷ []) to Is
last_word from to s d e x Is shut goes acts is = word_taken from to s d x Is shut goes (λ w. (e, is, acts w))
