-- What each word of a text keeps holds behind all of them.
use Rattle.std.proofs.Common.{◌≡◌, ℕ, Bool, true, false, List, [], ◌∷◌, Option, Some, None, Result, Ok, Err, refl, subst}
use Rattle.sdf_values.specs.declared.refusal.RefusalKind.TheVariants.{Syntax}
use Rattle.usda_drafts.specs.Acts.{act}
use Rattle.usda_drafts.specs.Drafts.{blank}
use Rattle.usda_drafts.specs.Refusals.{refused}
use Rattle.usda_drafts.specs.declared.draft.Draft.{Draft}
use Rattle.usda_drafts.specs.declared.fault.Refused.{Refused}
use Rattle.usda_grammar.specs.Machine.{step, is_done}
use Rattle.usda_grammar.specs.Table.{layer}
use Rattle.usda_grammar.specs.declared.symbols.Symbol.{Symbol}
use Rattle.usda_machine.proofs.Running.{only}
use Rattle.usda_machine.specs.Reading.{after_act, after_step, at_end, run}
use Rattle.usda_productions.proofs.Simulation.{read as by_table}
use Rattle.usda_productions.specs.Rules.{layer_forms}
use Rattle.usda_productions.specs.Texts.{MakeBy}
use Rattle.usda_words.specs.Words.{Word, words_of, word_kind}
use Rattle.value_texts.proofs.Following.{followed as values_followed}
use Rattle.value_texts.specs.Following.{IsOfToken, AreOfTokens}

-- what the grammar still awaits behind all words, where the text may end, and the draft
pub record IsAtEnd (P : List Symbol → Draft → Type 0) (d : Draft) : Type 0 where
  pub stack : List Symbol
  pub holds : P stack d
  pub done : is_done stack ≡ true

refused_as : Option Word → Refused
refused_as w = refused Syntax 0

-- what holds of the words of a text holds of each of them, and what each such word keeps is held behind all of them
module _ (Good : Word → Type 0) (Are : List Word → Type 0) (parts : (w : Word) (ws : List Word) → Are (w ∷ ws) → Good w × Are ws) (P : List Symbol → Draft → Type 0)
    (keeps : (stack : List Symbol) (d : Draft) (w : Word) (s : Symbol) (after : List Symbol) (next : Draft) → Good w → P stack d → step stack w.kind ≡ Some (s, after) → act s w d ≡ Ok next → P after next) where
  ran : (ws : List Word) (stack : List Symbol) (d out : Draft) → Are ws → P stack d → run word_kind act refused_as stack d ws ≡ Ok out → IsAtEnd P out
  ran [] stack d out words holds h = by (is_done stack) refl h
    where
      by : (b : Bool) → is_done stack ≡ b → at_end word_kind act refused_as b d ≡ Ok out → IsAtEnd P out
      by true done e = let same : d ≡ out = cc in record { stack = stack; holds = subst (P stack) same holds; done = done }
      by false done e = absurd cc
  ran (w ∷ ws) stack d out words holds h = by_step (step stack w.kind) refl h (λ left next f e. ran ws left next out (parts w ws words).1 f e)
    where
      by_act : (s : Symbol) (left : List Symbol) → step stack w.kind ≡ Some (s, left) → (r : Result Draft Refused) → act s w d ≡ r → after_act word_kind act refused_as r (λ next. run word_kind act refused_as left next ws) ≡ Ok out
          → ((left : List Symbol) (next : Draft) → P left next → run word_kind act refused_as left next ws ≡ Ok out → IsAtEnd P out) → IsAtEnd P out
      by_act s left took (Ok next) acted e more = more left next (keeps stack d w s left next (parts w ws words).0 holds took acted) e
      by_act s left took (Err r) acted e more = absurd cc

      by_step : (o : Option (Symbol × List Symbol)) → step stack w.kind ≡ o → after_step word_kind act refused_as o d w (λ left next. run word_kind act refused_as left next ws) ≡ Ok out
          → ((left : List Symbol) (next : Draft) → P left next → run word_kind act refused_as left next ws ≡ Ok out → IsAtEnd P out) → IsAtEnd P out
      by_step None took e more = absurd cc
      by_step (Some (s, left)) took e more = by_act s left took (act s w d) refl e more

  -- the draft that the words of a text make
  pub held_behind : (bytes : List ℕ) (d : Draft) → Are (words_of bytes) → P layer blank → MakeBy word_kind act layer_forms blank (words_of bytes) d → IsAtEnd P d
  held_behind bytes d words begins made = ran (words_of bytes) layer blank d words begins (only word_kind act refused_as blank (words_of bytes) d (by_table word_kind act refused_as blank (words_of bytes) d made))

-- where each word is what its token is to the grammar
pub holds_behind : (P : List Symbol → Draft → Type 0)
    → ((stack : List Symbol) (d : Draft) (w : Word) (s : Symbol) (after : List Symbol) (next : Draft) → IsOfToken w → P stack d → step stack w.kind ≡ Some (s, after) → act s w d ≡ Ok next → P after next)
    → (bytes : List ℕ) (d : Draft) → P layer blank → MakeBy word_kind act layer_forms blank (words_of bytes) d → IsAtEnd P d
holds_behind P keeps bytes d begins made = held_behind IsOfToken AreOfTokens (λ w ws h. (h.0, h.1)) P keeps bytes d (values_followed.words bytes) begins made
