-- Words that are taken, one behind the other.
use Rattle.std.proofs.Common.{◌≡◌, ◌∙◌, List, [], ◌∷◌, ◌++◌, append_assoc, map, Some, Ok, ap, sym, refl, subst}
use Rattle.usda_grammar.specs.declared.symbols.Symbol.{Symbol}
use Rattle.usda_grammar.specs.Machine.{step}
use Rattle.usda_machine.specs.Reading.{run, after_step, after_act}
use Rattle.usda_words.specs.Words.{Word, word_kind}
use Rattle.usda_drafts.specs.Acts.{act}
use Rattle.usda_drafts.specs.declared.draft.Draft.{Draft}
use Rattle.value_texts.specs.Cuts.{Said}
use Rattle.value_texts.specs.Words.{Told, told_of, as_word}
use Rattle.layer_reads.specs.Taking.{Lead, AreTaken}

-- words that say two parts
pub record Split (ws : List Word) (a b : List Said) : Type 0 where
  pub first : List Word
  pub second : List Word
  pub is : ws ≡ first ++ second
  pub told_first : map told_of first ≡ map as_word a
  pub told_second : map told_of second ≡ map as_word b

pub split : (ws : List Word) (a b : List Said) → map told_of ws ≡ map as_word (a ++ b) → Split ws a b
split ws [] b h = record { first = []; second = ws; is = refl; told_first = refl; told_second = h }
split [] (x ∷ a) b h = absurd cc
split (w ∷ ws) (x ∷ a) b h =
    let head : told_of w ≡ as_word x = cc in
    let tail : map told_of ws ≡ map as_word (a ++ b) = cc in
    let s = split ws a b tail in
    record { first = w ∷ s.first; second = s.second; is = ap (λ l. w ∷ l) s.is; told_first = ap (λ t. t ∷ map told_of s.first) head ∙ ap (λ l. as_word x ∷ l) s.told_first; told_second = s.told_second }

pub lead_nothing : (from : List Symbol) (d : Draft) → Lead from d [] from d
lead_nothing from d = record { goes = λ r below rest. refl }

pub lead_both : (from mid to : List Symbol) (d e f : Draft) (a b : List Word) → Lead from d a mid e → Lead mid e b to f → Lead from d (a ++ b) to f
lead_both from mid to d e f a b p q = record {
  goes = λ r below rest. ap (run word_kind act r (from ++ below) d) (append_assoc a b rest) ∙ p.goes r below (b ++ rest) ∙ q.goes r below rest;
}

-- one word
pub lead_one : (from to : List Symbol) (s : Symbol) (d next : Draft) (w : Word) → ((below : List Symbol) → step (from ++ below) w.kind ≡ Some (s, to ++ below)) → act s w d ≡ Ok next → Lead from d (w ∷ []) to next
lead_one from to s d next w goes acted = record {
  goes = λ r below rest.
      ap (λ o. after_step word_kind act r o d w (λ stack e. run word_kind act r stack e rest)) (goes below)
      ∙ ap (λ x. after_act word_kind act r x (λ e. run word_kind act r (to ++ below) e rest)) acted;
}

-- nothing is taken
pub taken_nothing : (from : List Symbol) (d : Draft) (Is : Draft → Type 0) → Is d → AreTaken from d [] from Is
taken_nothing from d Is is = record { taken = none }
  where
    none : (ws : List Word) → map told_of ws ≡ [] → (next : Draft) × Is next × Lead from d ws from next
    none [] h = (d, is, lead_nothing from d)
    none (w ∷ ws) h = absurd cc

-- one word, by the symbol that takes it
pub taken_one : (from to : List Symbol) (s : Symbol) (d : Draft) (x : Said) (Is : Draft → Type 0) → ((below : List Symbol) → step (from ++ below) (as_word x).kind ≡ Some (s, to ++ below))
    → ((w : Word) → told_of w ≡ as_word x → (next : Draft) × Is next × (act s w d ≡ Ok next)) → AreTaken from d (x ∷ []) to Is
taken_one from to s d x Is goes acts = record { taken = by }
  where
    word : (w : Word) → told_of w ≡ as_word x → (next : Draft) × Is next × Lead from d (w ∷ []) to next
    word w told =
        let a = acts w told in
        (a.0, a.1, lead_one from to s d a.0 w (λ below. ap (λ (t : Told). step (from ++ below) t.kind) told ∙ goes below) a.2)

    by : (ws : List Word) → map told_of ws ≡ as_word x ∷ [] → (next : Draft) × Is next × Lead from d ws to next
    by [] h = absurd cc
    by (w ∷ []) h = let told : told_of w ≡ as_word x = cc in word w told
    by (w ∷ u ∷ ws) h = absurd cc

-- words behind words
pub together : (from mid to : List Symbol) (d : Draft) (a b : List Said) (Is After : Draft → Type 0) → AreTaken from d a mid Is → ((next : Draft) → Is next → AreTaken mid next b to After) → AreTaken from d (a ++ b) to After
together from mid to d a b Is After p q = record {
  taken = λ ws h.
      let s = split ws a b h in
      let x = p.taken s.first s.told_first in
      let y = (q x.0 x.1).taken s.second s.told_second in
      (y.0, y.1, subst (λ l. Lead from d l to y.0) (sym s.is) (lead_both from mid to d x.0 y.0 s.first s.second x.2 y.2));
}

-- the same words with less said of the draft
pub weaker : (from to : List Symbol) (d : Draft) (a : List Said) (Is Less : Draft → Type 0) → AreTaken from d a to Is → ((next : Draft) → Is next → Less next) → AreTaken from d a to Less
weaker from to d a Is Less p less = record { taken = λ ws h. let x = p.taken ws h in (x.0, less x.0 x.1, x.2) }

-- more symbols below
pub above : (from to more : List Symbol) (d : Draft) (a : List Said) (Is : Draft → Type 0) → AreTaken from d a to Is → AreTaken (from ++ more) d a (to ++ more) Is
above from to more d a Is p = record {
  taken = λ ws h.
      let x = p.taken ws h in (
        x.0,
        x.1,
        record {
          goes = λ r below rest.
              ap (λ l. run word_kind act r l d (ws ++ rest)) (append_assoc from more below) ∙ (x.2).goes r (more ++ below) rest ∙ sym (ap (λ l. run word_kind act r l x.0 rest) (append_assoc to more below));
        },
      );
}
