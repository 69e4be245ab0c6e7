-- The tokens of a text, each as long as it goes, with the places of its first byte and of the byte behind it; and the fault with
-- which they end, if any.
use Rattle.std.specs.Prelude.{◌≡◌, ℕ, zero, suc, ◌+◌, ◌-◌, ◌<◌, ◌≤◌, Bool, true, false, ◌&&◌, ◌||◌, ◌==◌, if◌then◌else◌, List, [], ◌∷◌, take, drop, length, slice_range, Option, Some, None, Result, Ok, Err}
use Rattle.std.specs.Str.{is_utf8, IsCharBoundary}
use Rattle.std.specs.Str.Lossy.{utf8_valid_len}
use Rattle.sdf_values.specs.Numbers.{DecimalNumber}
use Rattle.usd_names.specs.Names.{is_number_word}
use Rattle.usda_lexer.specs.declared.token.Mark.{Mark}
use Rattle.usda_lexer.specs.declared.token.Mark.TheVariants.{OpenParen, CloseParen, OpenBrace, CloseBrace, OpenBracket, CloseBracket, Equals, Comma, Semicolon, Colon, Dot}
use Rattle.usda_lexer.specs.declared.token.TokenKind.{TokenKind}
use Rattle.usda_lexer.specs.declared.token.TokenKind.TheVariants as kind
use Rattle.usda_lexer.specs.declared.token.LexFault.{LexFault}
use Rattle.usda_lexer.specs.declared.token.LexFault.TheVariants.{NotUtf8, Unclosed, BadByte, NumberTooLong}
use Rattle.usda_lexer.specs.declared.token.Token.{Token}
use Rattle.usda_lexer.specs.declared.blanks.Between.TheVariants.{Blank}
use Rattle.usda_lexer.specs.Blanks.{gap, IsGap}
use Rattle.usda_lexer.specs.Names.{name_len}
use Rattle.usda_lexer.specs.Decimals.{decimal_of}
use Rattle.usda_lexer.specs.Forms.{number_len, string_len, asset_len, closed_line}

-- a token without where it lies in memory
pub record Word : Type 0 where
  pub kind : TokenKind
  pub text : List ℕ
  pub start : ℕ
  pub end : ℕ

-- a token of the code, without where it lies in memory
abbrev pub word_of : Token → Word
word_of t = record { kind = t.kind; text = t.text.now; start = t.start; end = t.end }

-- the tokens from some place on, and the fault behind the last of them; none at the end of the text
pub record Lexing : Type 0 where
  pub words : List Word
  pub fault : Option LexFault

-- the mark that a byte is, one of `( ) { } [ ] = , ; : .`
abbrev pub mark_of : ℕ → Option Mark
mark_of c =
    if c == 40 then Some OpenParen else if c == 41 then Some CloseParen
    else if c == 123 then Some OpenBrace else if c == 125 then Some CloseBrace
    else if c == 91 then Some OpenBracket else if c == 93 then Some CloseBracket
    else if c == 61 then Some Equals else if c == 44 then Some Comma
    else if c == 59 then Some Semicolon else if c == 58 then Some Colon
    else if c == 46 then Some Dot else None

-- the kind and the length of a token, or the fault
abbrev pub Found : Type 0
Found = Result (TokenKind × ℕ) LexFault

-- a string, an asset or a path without its end is a fault at its first byte
abbrev pub if_closed : ℕ → TokenKind → Option ℕ → Found
if_closed at k None = Err (Unclosed at)
if_closed at k (Some n) = Ok (k, n)

-- a byte that begins no token is a fault
abbrev pub if_mark : ℕ → Option Mark → Found
if_mark at None = Err (BadByte at)
if_mark at (Some m) = Ok (kind.Mark m, 1)

-- a token that is no name and no number, by its first byte and what stands behind it
abbrev pub quoted_or_mark : ℕ → ℕ → List ℕ → Found
quoted_or_mark at c cs =
    if (c == 34) || (c == 39) then if_closed at kind.String (string_len c cs)
    else if c == 64 then if_closed at kind.Asset (asset_len cs)
    else if c == 60 then if_closed at kind.Path (closed_line 62 1 cs)
    else if_mark at (mark_of c)

-- a number of so many bytes, which may be too long to be kept
abbrev pub if_short : ℕ → ℕ → Option DecimalNumber → Found
if_short at n None = Err (NumberTooLong at)
if_short at n (Some d) = Ok (kind.Number, n)

-- the names `inf` and `nan` are numbers
abbrev pub name_kind : List ℕ → TokenKind
name_kind text = if is_number_word text then kind.Number else kind.Name

-- `inf` or `nan` stands in front, and no longer name
abbrev pub begins_number_word : List ℕ → Bool
begins_number_word cs = is_number_word (take (name_len cs) cs)

-- a token that is no name and no number written with digits
abbrev pub minus_or_mark : ℕ → List ℕ → Found
minus_or_mark at [] = Err (BadByte at)
minus_or_mark at (c ∷ cs) = if (c == 45) && begins_number_word cs then Ok (kind.Number, 4) else quoted_or_mark at c cs

-- a number of n bytes in front, or, where n is 0, another token that is no name
abbrev pub number_or_mark : ℕ → ℕ → List ℕ → Found
number_or_mark at n bytes = if n == 0 then minus_or_mark at bytes else if_short at n (decimal_of (take n bytes))

-- a name of n bytes in front, or, where n is 0, another token
abbrev pub name_or_other : ℕ → ℕ → List ℕ → Found
name_or_other at n bytes = if n == 0 then number_or_mark at (number_len bytes) bytes else Ok (name_kind (take n bytes), n)

-- the token with which some bytes begin, the first of which stands at the place `at` of the source
unfoldable pub found : ℕ → List ℕ → Found
found at bytes = name_or_other at (name_len bytes) bytes

-- the word of a token that was found in front
abbrev pub cut : ℕ → List ℕ → Found → Result (Option Word) LexFault
cut at bytes (Err e) = Err e
cut at bytes (Ok f) = Ok (Some (record { kind = f.0; text = take f.1 bytes; start = at; end = at + f.1 }))

-- the token that begins at this place; none at the end of the source
abbrev pub word_in_front : ℕ → List ℕ → Result (Option Word) LexFault
word_in_front at [] = Ok None
word_in_front at (c ∷ cs) = cut at (c ∷ cs) (found at (c ∷ cs))

-- the token behind blanks and comments; a comment without its end is a fault at its first byte
abbrev pub word_behind : ℕ → List ℕ → Result ℕ ℕ → Result (Option Word) LexFault
word_behind at bytes (Ok n) = word_in_front (at + n) (drop n bytes)
word_behind at bytes (Err n) = Err (Unclosed (at + n))

-- the next token of what is left of a source from the place `at` on; none where only blanks and comments are left
unfoldable pub next_word : ℕ → List ℕ → Result (Option Word) LexFault
next_word at bytes = word_behind at bytes (gap Blank 0 0 bytes)

-- the next token, and then those that stand behind it
abbrev pub and_then : Result (Option Word) LexFault → (ℕ → Lexing) → Lexing
and_then (Ok None) more = record { words = []; fault = None }
and_then (Err e) more = record { words = []; fault = Some e }
and_then (Ok (Some w)) more = record { words = w ∷ (more w.end).words; fault = (more w.end).fault }

-- All tokens from the place `at` of a source on. The first `taken` bytes are part of a token that was there before.
abbrev pub lexing_from : ℕ → ℕ → List ℕ → Lexing
lexing_from taken at [] = record { words = []; fault = None }
lexing_from zero at (c ∷ cs) = and_then (next_word at (c ∷ cs)) (λ end. lexing_from (end - (at + 1)) (at + 1) cs)
lexing_from (suc taken) at (c ∷ cs) = lexing_from taken (at + 1) cs

-- Tokens that are being taken: the source, and the place up to which they were taken.
pub record Lexer : Type 0 where
  pub source : List ℕ
  pub at : ℕ

-- the tokens that are left
unfoldable pub left : Lexer → Lexing
left t = lexing_from 0 t.at (drop t.at t.source)

-- all tokens of a source
abbrev pub tokens_of : List ℕ → Lexing
tokens_of source = left (record { source = source; at = 0 })

-- what `new` answers: the tokens of the source, none of which is taken; or the first byte of the first sequence that is not UTF-8
abbrev pub AnswersNew : Result Lexer LexFault → List ℕ → Type 0
AnswersNew (Ok t) source = (is_utf8 source ≡ true) × (t ≡ record { source = source; at = 0 })
AnswersNew (Err e) source = (is_utf8 source ≡ false) × (e ≡ NotUtf8 (utf8_valid_len source))

-- what the code finds next is this
abbrev pub Finds : Result (Option Token) LexFault → Result (Option Word) LexFault → Type 0
Finds (Ok (Some t)) r = r ≡ Ok (Some (word_of t))
Finds (Ok None) r = r ≡ Ok None
Finds (Err e) r = r ≡ Err e

-- what `peek` answers: the first of the tokens that are left, or the fault in its place
abbrev pub AnswersPeek : Result (Option Token) LexFault → Lexing → Type 0
AnswersPeek (Ok (Some t)) l = (ws : List Word) × (l.words ≡ word_of t ∷ ws)
AnswersPeek (Ok None) l = l ≡ record { words = []; fault = None }
AnswersPeek (Err e) l = l ≡ record { words = []; fault = Some e }

-- what `next` answers: the first of the tokens that were left, and those behind it are left now; nothing at the end, and the
-- fault where there is one, and both stay
abbrev pub AnswersNext : Result (Option Token) LexFault → Lexer → Lexer → Type 0
AnswersNext (Ok (Some t)) old new = (left old ≡ record { words = word_of t ∷ (left new).words; fault = (left new).fault }) × (new ≡ record { source = old.source; at = t.end })
AnswersNext (Ok None) old new = (left old ≡ record { words = []; fault = None }) × (new ≡ old)
AnswersNext (Err e) old new = (left old ≡ record { words = []; fault = Some e }) × (new ≡ old)

-- a token behind the place `at` is a part of the source, and only blanks and whole comments stand from that place up to it
pub record IsInSource (source : List ℕ) (at : ℕ) (w : Word) : Type 0 where
  pub text : w.text ≡ slice_range source w.start w.end
  pub behind : at ≤ w.start
  pub some : w.start < w.end
  pub inside : w.end ≤ length source
  pub gap : IsGap (slice_range source at w.start) (drop w.start source)

-- a fault behind the place `at` is at a byte of the source, and only blanks and whole comments stand from that place up to it
pub record IsFaultAt (source : List ℕ) (at place : ℕ) : Type 0 where
  pub behind : at ≤ place
  pub inside : place < length source
  pub gap : IsGap (slice_range source at place) (drop place source)

-- a fault at this place
abbrev pub IsAt : ℕ → LexFault → Type 0
IsAt place (NotUtf8 at) = ⊥
IsAt place (Unclosed at) = at ≡ place
IsAt place (BadByte at) = at ≡ place
IsAt place (NumberTooLong at) = at ≡ place

-- a token, or a fault, that stands directly at a place of the source; nothing where that is its end
abbrev pub StandsAt : Result (Option Token) LexFault → List ℕ → ℕ → Type 0
StandsAt (Ok (Some t)) source place =
    (t.text.now ≡ slice_range source t.start t.end) × (t.start ≡ place) × (place < t.end) × IsCharBoundary source t.end
StandsAt (Ok None) source place = drop place source ≡ []
StandsAt (Err e) source place = IsAt place e × (place < length source)

-- where an answer stands in the source, behind the tokens that were taken before; at its end only blanks and whole comments are left
abbrev pub StandsIn : Result (Option Token) LexFault → Lexer → Type 0
StandsIn (Ok (Some t)) old = IsInSource old.source old.at (word_of t)
StandsIn (Ok None) old = IsGap (drop old.at old.source) []
StandsIn (Err (Unclosed at)) old = IsFaultAt old.source old.at at
StandsIn (Err (BadByte at)) old = IsFaultAt old.source old.at at
StandsIn (Err (NumberTooLong at)) old = IsFaultAt old.source old.at at
StandsIn (Err (NotUtf8 at)) old = ⊥
