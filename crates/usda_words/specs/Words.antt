-- The words of a text: its tokens, each with its kind for the grammar, and the fault with which they end, as a last word.
use Rattle.std.specs.Prelude.{ℕ, Bool, true, false, ◌&&◌, ◌||◌, ◌==◌, not, List, [], ◌∷◌, Option, Some, None}
use Rattle.usda_grammar.specs.Words.{kind_of_word}
use Rattle.usda_grammar.specs.declared.kinds.WordKind.{WordKind}
use Rattle.usda_grammar.specs.declared.kinds.WordKind.TheVariants as kind
use Rattle.usda_lexer.specs.Words.{Word as Token, Lexing, tokens_of}
use Rattle.usda_lexer.specs.declared.token.LexFault.{LexFault}
use Rattle.usda_lexer.specs.declared.token.LexFault.TheVariants.{NotUtf8, Unclosed, BadByte, NumberTooLong}
use Rattle.usda_lexer.specs.declared.token.Mark.{Mark}
use Rattle.usda_lexer.specs.declared.token.Mark.TheVariants as mark
use Rattle.usda_lexer.specs.declared.token.TokenKind.{TokenKind}
use Rattle.usda_lexer.specs.declared.token.TokenKind.TheVariants as form
use Rattle.usda_words.specs.declared.word.Before.{Before}

-- A word: its kind for the grammar, its kind and text as a token, where it begins, and whether it is a number that is too long
-- to be kept.
pub record Word : Type 0 where
  pub kind : WordKind
  pub token : TokenKind
  pub text : List ℕ
  pub start : ℕ
  pub too_long : Bool

-- what a word is to the grammar
abbrev pub word_kind : Word → WordKind
word_kind w = w.kind

-- each mark is a kind of its own to the grammar
abbrev pub kind_of_mark : Mark → WordKind
kind_of_mark mark.OpenParen = kind.OpenParen
kind_of_mark mark.CloseParen = kind.CloseParen
kind_of_mark mark.OpenBrace = kind.OpenBrace
kind_of_mark mark.CloseBrace = kind.CloseBrace
kind_of_mark mark.OpenBracket = kind.OpenBracket
kind_of_mark mark.CloseBracket = kind.CloseBracket
kind_of_mark mark.Equals = kind.Equals
kind_of_mark mark.Comma = kind.Comma
kind_of_mark mark.Semicolon = kind.Semicolon
kind_of_mark mark.Colon = kind.Colon
kind_of_mark mark.Dot = kind.Dot

-- what a token is to the grammar: a name by its text
abbrev pub kind_of : TokenKind → List ℕ → WordKind
kind_of form.Name text = kind_of_word text
kind_of form.Number text = kind.Number
kind_of form.String text = kind.Quoted
kind_of form.Asset text = kind.Asset
kind_of form.Path text = kind.Path
kind_of (form.Mark m) text = kind_of_mark m

-- the word is a `.`
abbrev pub is_dot : WordKind → Bool
is_dot kind.Dot = true
is_dot k = false

-- at fault where this holds, else of this kind
abbrev pub if_joined : Bool → WordKind → WordKind
if_joined true k = kind.Fault
if_joined false k = k

-- No blank and no comment stands beside a `.`: a `.`, and a word behind one, are at fault where they do not begin at the end of
-- the word before.
abbrev pub kind_behind : Before → ℕ → WordKind → WordKind
kind_behind before start k = if_joined ((before.is_dot || is_dot k) && not (start == before.end)) k

-- the word of a token, by what stands before it
abbrev pub word_at : Before → Token → Word
word_at before t = record { kind = kind_behind before t.start (kind_of t.kind t.text); token = t.kind; text = t.text; start = t.start; too_long = false }

-- what stands before the word behind a token
abbrev pub behind : Token → Before
behind t = record { end = t.end; is_dot = is_dot (kind_of t.kind t.text) }

-- what no token begins with, and what is never closed
abbrev pub unreadable_at : ℕ → Word
unreadable_at at = record { kind = kind.Fault; token = form.Name; text = []; start = at; too_long = false }

-- the word that a fault is: a number that is too long is a number
abbrev pub fault_word : Before → LexFault → Word
fault_word before (NumberTooLong at) = record { kind = kind_behind before at kind.Number; token = form.Number; text = []; start = at; too_long = true }
fault_word before (Unclosed at) = unreadable_at at
fault_word before (BadByte at) = unreadable_at at
fault_word before (NotUtf8 at) = unreadable_at at

-- the words of the tokens from some place on, and of the fault behind the last of them
abbrev pub words_behind : Before → List Token → Option LexFault → List Word
words_behind before [] None = []
words_behind before [] (Some fault) = fault_word before fault ∷ []
words_behind before (t ∷ ts) fault = word_at before t ∷ words_behind (behind t) ts fault

-- nothing stands before the first word of a text
abbrev pub at_start : Before
at_start = record { end = 0; is_dot = false }

-- the words of these tokens, and of the fault with which they end
abbrev pub words_in : Before → Lexing → List Word
words_in before l = words_behind before l.words l.fault

-- all words of a text
abbrev pub words_of : List ℕ → List Word
words_of text = words_in at_start (tokens_of text)
