-- Texts that are cut into words.
use Rattle.std.specs.Prelude.{◌≡◌, ℕ, ◌+◌, Bool, false, not, List, ◌++◌, length, map}
use Rattle.usda_grammar.specs.declared.kinds.WordKind.{WordKind}
use Rattle.usda_lexer.specs.declared.token.TokenKind.{TokenKind}
use Rattle.usda_lexer.specs.Words.{lexing_from}
use Rattle.usda_words.specs.Words.{Word, kind_of, is_dot, words_in}
use Rattle.usda_words.specs.declared.word.Before.{Before}
use Rattle.value_texts.specs.Cuts.{Said}

-- what a word says, wherever it stands
pub record Told : Type 0 where
  pub kind : WordKind
  pub token : TokenKind
  pub text : List ℕ
  pub too_long : Bool

-- what a word says, without its place
abbrev pub told_of : Word → Told
told_of w = record { kind = w.kind; token = w.token; text = w.text; too_long = w.too_long }

-- the word of a token
abbrev pub as_word : Said → Told
as_word s = record { kind = kind_of s.kind s.text; token = s.kind; text = s.text; too_long = false }

-- no `.`
abbrev pub is_no_dot : Said → Bool
is_no_dot s = not (is_dot (kind_of s.kind s.text))

-- A text at a place of a source, what stands before it and what follows: the text is words that say this, and behind them stand
-- the words of what follows.
pub record IsWorded (at : ℕ) (b : Before) (text : List ℕ) (said : List Said) (rest : List ℕ) : Type 0 where
  pub words : List Word
  pub told : map told_of words ≡ map as_word said
  pub last : Before
  pub no_dot : last.is_dot ≡ false
  pub worded : words_in b (lexing_from 0 at (text ++ rest)) ≡ words ++ words_in last (lexing_from 0 (at + length text) rest)
