-- Texts that are cut into tokens.
use Rattle.std.specs.Prelude.{◌≡◌, ℕ, ◌+◌, Bool, true, List, ◌++◌, length, map}
use Rattle.usda_lexer.specs.declared.token.TokenKind.{TokenKind}
use Rattle.usda_lexer.specs.Words.{Word, Lexing, lexing_from}

-- what a token says, wherever it stands
pub record Said : Type 0 where
  pub kind : TokenKind
  pub text : List ℕ

-- what a token says, without its place
abbrev pub said_of : Word → Said
said_of w = record { kind = w.kind; text = w.text }

-- these tokens, and then those of a rest, with its fault
abbrev pub before : List Word → Lexing → Lexing
before ws l = record { words = ws ++ l.words; fault = l.fault }

-- A text at a place of a source, and what follows it: the text is tokens that say this, and behind them stand the tokens of what
-- follows.
pub record IsCut (at : ℕ) (text : List ℕ) (said : List Said) (rest : List ℕ) : Type 0 where
  pub words : List Word
  pub spelled : map said_of words ≡ said
  pub lexed : lexing_from 0 at (text ++ rest) ≡ before words (lexing_from 0 (at + length text) rest)

-- the same at each place, and before each rest that may follow
abbrev pub Cuts : List ℕ → List Said → (List ℕ → Bool) → Type 0
Cuts text said may_follow = (at : ℕ) (rest : List ℕ) → may_follow rest ≡ true → IsCut at text said rest
