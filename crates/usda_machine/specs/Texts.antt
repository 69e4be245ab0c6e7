-- What a text makes of a draft, and the first refusal of a text, in the words of the grammar: no machine stands in them.
use Rattle.std.specs.Prelude.{◌≡◌, List, [], ◌∷◌, ◌++◌, ◌⊎◌, map, Option, Some, None, Result, Ok, Err, true}
use Rattle.usda_grammar.specs.declared.kinds.WordKind.{WordKind}
use Rattle.usda_grammar.specs.declared.symbols.Symbol.{Symbol}
use Rattle.usda_grammar.specs.Table.{layer, starts, may_be_absent}
use Rattle.usda_grammar.specs.Derivations.{Derivation, ends, skips, takes, AreText}

module _ {Word Draft Refusal : Type 0} (kind : Word → WordKind) (act : Symbol → Word → Draft → Result Draft Refusal) (refused_as : Option Word → Refusal) where
  -- The words stand for these symbols up to those that are left, and each adds to the draft what it does: by this
  -- derivation the first draft becomes the other.
  abbrev pub Makes : Derivation → List Symbol → Draft → List Word → List Symbol → Draft → Type 0
  Makes ends stack d [] left out = (stack ≡ left) × (d ≡ out)
  Makes ends stack d (w ∷ ws) left out = ⊥
  Makes (skips t) [] d ws left out = ⊥
  Makes (skips t) (s ∷ stack) d ws left out = (may_be_absent s ≡ true) × Makes t stack d ws left out
  Makes (takes t) [] d ws left out = ⊥
  Makes (takes t) (s ∷ stack) d [] left out = ⊥
  Makes (takes t) (s ∷ stack) d (w ∷ ws) left out = (after : List Symbol) × (next : Draft) × (starts s (kind w) ≡ Some after) × (act s w d ≡ Ok next) × Makes t (after ++ stack) next ws left out

  -- what the words are to the grammar
  abbrev pub kinds : List Word → List WordKind
  kinds ws = map kind ws

  -- the draft before the first word
  module _ (blank : Draft) where
    -- the words are a text, which makes this draft
    abbrev pub Make : List Word → Draft → Type 0
    Make ws out = (t : Derivation) × Makes t layer blank ws [] out

    -- a text begins with these words, and has got to these symbols and this draft
    pub record HasRead (front : List Word) (stack : List Symbol) (d : Draft) : Type 0 where
      pub by : Derivation
      pub made : Makes by layer blank front stack d

    -- no text of the grammar goes on with the word
    pub record IsSyntax (front : List Word) (w : Word) (r : Refusal) : Type 0 where
      pub refusal : r ≡ refused_as (Some w)
      pub none : (rest : List WordKind) → AreText layer (kinds front ++ kind w ∷ rest) → ⊥

    -- a text goes on with the word, and what the word adds there is refused
    pub record IsRefusedAct (stack : List Symbol) (d : Draft) (w : Word) (r : Refusal) : Type 0 where
      pub symbol : Symbol
      pub below : List Symbol
      pub after : List Symbol
      pub top : stack ≡ symbol ∷ below
      pub starts_it : starts symbol (kind w) ≡ Some after
      pub rest : List WordKind
      pub text : AreText (after ++ below) rest
      pub refused : act symbol w d ≡ Err r

    -- the first refusal is at a word
    pub record IsAtWord (ws : List Word) (r : Refusal) : Type 0 where
      pub front : List Word
      pub word : Word
      pub rest : List Word
      pub split : ws ≡ front ++ word ∷ rest
      pub stack : List Symbol
      pub draft : Draft
      pub read : HasRead front stack draft
      pub reason : IsSyntax front word r ⊎ IsRefusedAct stack draft word r

    -- the words are the front of texts, but no text ends here
    pub record IsAtEnd (ws : List Word) (r : Refusal) : Type 0 where
      pub stack : List Symbol
      pub draft : Draft
      pub read : HasRead ws stack draft
      pub refusal : r ≡ refused_as None
      pub none : AreText layer (kinds ws) → ⊥

    -- the first refusal is at a word, or at the end
    abbrev pub HaveFirstRefusal : List Word → Refusal → Type 0
    HaveFirstRefusal ws r = IsAtWord ws r ⊎ IsAtEnd ws r

    -- the words make at most one draft, have at most one first refusal, and one of the two
    pub record HaveOneAnswer (ws : List Word) : Type 0 where
      pub one_draft : (a b : Draft) → Make ws a → Make ws b → a ≡ b
      pub one_refusal : (a b : Refusal) → HaveFirstRefusal ws a → HaveFirstRefusal ws b → a ≡ b
      pub not_both : (a : Draft) (r : Refusal) → Make ws a → HaveFirstRefusal ws r → ⊥
      pub some : ((out : Draft) × Make ws out) ⊎ ((r : Refusal) × HaveFirstRefusal ws r)
