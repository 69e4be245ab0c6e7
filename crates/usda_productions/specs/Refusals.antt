-- Where a text is refused first, by the productions: at a word with which no text goes on, or that is refused for what it adds, or
-- at the end.
use Rattle.std.specs.Prelude.{◌≡◌, ◌⊎◌, Bool, true, List, ◌∷◌, ◌++◌, map, Option, Some, None, Result, Err}
use Rattle.usda_grammar.specs.declared.kinds.WordKind.{WordKind}
use Rattle.usda_grammar.specs.declared.symbols.Symbol.{Symbol}
use Rattle.usda_productions.specs.Forms.{Form, one}
use Rattle.usda_productions.specs.Rules.{layer_forms}
use Rattle.usda_productions.specs.Texts.{Route, IsMade, IsText}

-- a word that no text goes on with, or the end where none ends, is refused so; the draft before the first word is blank
module _ {Word Draft Refusal : Type 0} (kind : Word → WordKind) (act : Symbol → Word → Draft → Result Draft Refusal) (refused_as : Option Word → Refusal) (blank : Draft) where
  -- a layer's text begins with these words, and has got to these forms and this draft
  pub record HasRead (front : List Word) (fs : List Form) (d : Draft) : Type 0 where
    pub by : Route
    pub made : IsMade kind act by layer_forms blank front fs d

  -- no text goes on with the word
  pub record IsSyntax (front : List Word) (w : Word) (r : Refusal) : Type 0 where
    pub refusal : r ≡ refused_as (Some w)
    pub none : (rest : List WordKind) → IsText layer_forms (map kind front ++ kind w ∷ rest) → ⊥

  -- a text goes on with the word, and what the word adds there is refused
  pub record IsRefusedAct (fs : List Form) (d : Draft) (w : Word) (r : Refusal) : Type 0 where
    pub symbol : Symbol
    pub test : WordKind → Bool
    pub behind : List Form
    pub first : fs ≡ one symbol test ∷ behind
    pub passes : test (kind w) ≡ true
    pub rest : List WordKind
    pub text : IsText behind rest
    pub refused : act symbol w d ≡ Err r

  -- the first refusal is at a word
  pub record IsAtWord (ws : List Word) (r : Refusal) : Type 0 where
    pub front : List Word
    pub word : Word
    pub rest : List Word
    pub split : ws ≡ front ++ word ∷ rest
    pub fs : List Form
    pub draft : Draft
    pub read : HasRead front fs draft
    pub reason : IsSyntax front word r ⊎ IsRefusedAct fs draft word r

  -- the words are the front of texts, but no text ends here
  pub record IsAtEnd (ws : List Word) (r : Refusal) : Type 0 where
    pub fs : List Form
    pub draft : Draft
    pub read : HasRead ws fs draft
    pub refusal : r ≡ refused_as None
    pub none : IsText layer_forms (map kind ws) → ⊥

  -- the first refusal is at a word, or at the end
  abbrev pub HaveFirstRefusal : List Word → Refusal → Type 0
  HaveFirstRefusal ws r = IsAtWord ws r ⊎ IsAtEnd ws r
