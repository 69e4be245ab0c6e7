-- The words of the code, which are taken one after the other.
use Rattle.std.specs.Prelude.{◌≡◌, ℕ, ◌<◌, ◌≤◌, Bool, true, false, List, [], ◌∷◌, length, slice_range, Option, Some, None, Result, Ok, Err}
use Rattle.std.specs.Str.{is_utf8}
use Rattle.std.specs.Str.Lossy.{utf8_valid_len}
use Rattle.usda_lexer.specs.Words.{Lexer, left}
use Rattle.usda_lexer.specs.declared.token.LexFault.{LexFault}
use Rattle.usda_lexer.specs.declared.token.LexFault.TheVariants.{NotUtf8}
use Rattle.usda_words.specs.Words.{Word, words_in, words_of}
use Rattle.usda_words.specs.declared.word.Before.{Before}
use Rattle.usda_words.specs.declared.word.Word.{Word as SourceWord}

-- a word without where it lies in memory
abbrev pub word_of : SourceWord → Word
word_of w = record { kind = w.kind; token = w.token; text = w.text.now; start = w.start; too_long = w.too_long }

-- Words that are being taken: the tokens that are left, what stands before them, and whether all is over, as it is behind a fault.
pub record Source : Type 0 where
  pub tokens : Lexer
  pub before : Before
  pub is_over : Bool

-- behind a fault no words are left
abbrev pub unless_over : Bool → List Word → List Word
unless_over true ws = []
unless_over false ws = ws

-- the words that are left
abbrev pub words_left : Source → List Word
words_left s = unless_over s.is_over (words_in s.before (left s.tokens))

-- what `new` answers: all words of the text; or the first byte of the first sequence that is not UTF-8
abbrev pub Begins : Result Source LexFault → List ℕ → Type 0
Begins (Ok s) text = (is_utf8 text ≡ true) × (words_left s ≡ words_of text) × (s.tokens.source ≡ text)
Begins (Err e) text = (is_utf8 text ≡ false) × (e ≡ NotUtf8 (utf8_valid_len text))

-- what `next` answers: the first of the words that were left, and those behind it are left now; nothing where none was left
abbrev pub Takes : Option SourceWord → Source → Source → Type 0
Takes (Some w) old new = words_left old ≡ word_of w ∷ words_left new
Takes None old new = (words_left old ≡ []) × (words_left new ≡ [])

-- a word stands in the source behind the place up to which it was read, and its text is the source from where it begins
pub record IsInSource (source : List ℕ) (at : ℕ) (w : Word) : Type 0 where
  pub behind : at ≤ w.start
  pub inside : w.start < length source
  pub end : ℕ
  pub text : w.text ≡ slice_range source w.start end

-- the word that is answered stands in the source behind those that were taken
abbrev pub StandsIn : Option SourceWord → Source → Type 0
StandsIn (Some w) old = IsInSource old.tokens.source old.tokens.at (word_of w)
StandsIn None old = Unit {0}
