-- Texts with their tokens, what tokens mean, and lines and columns. A text in bytes has letters beyond ASCII.
use Rattle.std.specs.Prelude.{◌≡◌, ℕ, ◌+◌, ℤ, pos, negsuc, List, [], ◌∷◌, ◌++◌, length, codes, Option, Some, None}
use Rattle.sdf_values.specs.declared.decimal.Num.{Num}
use Rattle.sdf_values.specs.declared.decimal.Num.TheVariants.{Finite, NegInf, Nan}
use Rattle.usda_lexer.specs.Meanings.{string_text, asset_text, path_text, number_of}
use Rattle.usda_lexer.specs.Places.{place_of}
use Rattle.usda_lexer.specs.Words.{Word, tokens_of}
use Rattle.usda_lexer.specs.declared.token.LexFault.{LexFault}
use Rattle.usda_lexer.specs.declared.token.LexFault.TheVariants.{Unclosed, BadByte, NumberTooLong}
use Rattle.usda_lexer.specs.declared.token.Mark.{Mark}
use Rattle.usda_lexer.specs.declared.token.Mark.TheVariants as mark
use Rattle.usda_lexer.specs.declared.token.TokenKind.{TokenKind}
use Rattle.usda_lexer.specs.declared.token.TokenKind.TheVariants as kind

-- a token of this text that begins at this byte
abbrev pub token : TokenKind → List ℕ → ℕ → Word
token k text start = record { kind = k; text = text; start = start; end = start + length text }

abbrev pub name : List ℕ → ℕ → Word
name = token kind.Name

abbrev pub number : List ℕ → ℕ → Word
number = token kind.Number

abbrev pub string : List ℕ → ℕ → Word
string = token kind.String

abbrev pub asset : List ℕ → ℕ → Word
asset = token kind.Asset

abbrev pub path : List ℕ → ℕ → Word
path = token kind.Path

abbrev pub sign : Mark → List ℕ → ℕ → Word
sign m = token (kind.Mark m)

-- the text has these tokens, and ends behind them
abbrev pub Has : List ℕ → List Word → Type 0
Has text ts = tokens_of text ≡ record { words = ts; fault = None }

-- the text has these tokens, and then this fault
abbrev pub Fails : List ℕ → List Word → LexFault → Type 0
Fails text ts fault = tokens_of text ≡ record { words = ts; fault = Some fault }

pub record NamesAreTold : Type 0 where
  pub plain : Has (codes "_a1 b") (name (codes "_a1") 0 ∷ name (codes "b") 4 ∷ [])
  -- identifiers are joined by a colon where one follows it
  pub joined : Has (codes "xformOp:translate") (name (codes "xformOp:translate") 0 ∷ [])
  pub two_colons : Has (codes "a::b") (name (codes "a") 0 ∷ sign mark.Colon (codes ":") 1 ∷ sign mark.Colon (codes ":") 2 ∷ name (codes "b") 3 ∷ [])
  pub colon_behind : Has (codes "a:1") (name (codes "a") 0 ∷ sign mark.Colon (codes ":") 1 ∷ number (codes "1") 2 ∷ [])
  -- a point belongs to no name, and with a digit behind it to a number
  pub point : Has (codes "x.y") (name (codes "x") 0 ∷ sign mark.Dot (codes ".") 1 ∷ name (codes "y") 2 ∷ [])
  pub point_digit : Has (codes "x.5") (name (codes "x") 0 ∷ number (codes ".5") 1 ∷ [])
  -- É has two bytes
  pub letter : Has (195 ∷ 137 ∷ codes " b") (name (195 ∷ 137 ∷ []) 0 ∷ name (codes "b") 3 ∷ [])

pub record NumbersAreTold : Type 0 where
  pub whole : Has (codes "1 -2 +3") (number (codes "1") 0 ∷ number (codes "-2") 2 ∷ number (codes "+3") 5 ∷ [])
  -- a digit on one side of the point is enough
  pub points : Has (codes "1. .5") (number (codes "1.") 0 ∷ number (codes ".5") 3 ∷ [])
  pub points_twice : Has (codes "1..2") (number (codes "1.") 0 ∷ number (codes ".2") 2 ∷ [])
  pub exponent : Has (codes "2E-3") (number (codes "2E-3") 0 ∷ [])
  -- without digits behind it the `e` is a name
  pub no_exponent : Has (codes "1e") (number (codes "1") 0 ∷ name (codes "e") 1 ∷ [])
  pub words : Has (codes "inf -nan") (number (codes "inf") 0 ∷ number (codes "-nan") 4 ∷ [])
  -- a name that only begins so is a name
  pub longer_word : Has (codes "inf:a nano") (name (codes "inf:a") 0 ∷ name (codes "nano") 6 ∷ [])
  pub minus_word : Fails (codes "-infx") [] (BadByte 0)
  pub plus_word : Fails (codes "+inf") [] (BadByte 0)
  -- 35 digits; with a zero as the last of them the number has 34 and a power of ten
  pub too_long : Fails (codes "x 12345678901234567890123456789012345") (name (codes "x") 0 ∷ []) (NumberTooLong 2)
  pub long : Has (codes "12345678901234567890123456789012340") (number (codes "12345678901234567890123456789012340") 0 ∷ [])
  pub great : Has (codes "1e400") (number (codes "1e400") 0 ∷ [])
  pub too_great : Fails (codes "1e401") [] (NumberTooLong 0)

pub record QuotedAreTold : Type 0 where
  pub double : Has (codes "\"a\"b") (string (codes "\"a\"") 0 ∷ name (codes "b") 3 ∷ [])
  -- the other quote is a character
  pub single : Has (codes "'a\"b'") (string (codes "'a\"b'") 0 ∷ [])
  pub empty : Has (codes "\"\"''") (string (codes "\"\"") 0 ∷ string (codes "''") 2 ∷ [])
  -- a quote behind a backslash closes nothing
  pub escaped : Has (codes "\"a\\\"b\"") (string (codes "\"a\\\"b\"") 0 ∷ [])
  -- three quotes go over lines, up to the next three
  pub tripled : Has (codes "\"\"\"a\"\n\"\"\"b") (string (codes "\"\"\"a\"\n\"\"\"") 0 ∷ name (codes "b") 9 ∷ [])
  pub no_end : Fails (codes "x \"a") (name (codes "x") 0 ∷ []) (Unclosed 2)
  pub over_lines : Fails (codes "\"a\n\"") [] (Unclosed 0)
  pub three_quotes : Fails (codes "\"\"\"a\"\"") [] (Unclosed 0)
  pub asset_and_path : Has (codes "@a.usda@</P>") (asset (codes "@a.usda@") 0 ∷ path (codes "</P>") 8 ∷ [])
  pub empty_asset : Has (codes "@@") (asset (codes "@@") 0 ∷ [])
  pub path_no_end : Fails (codes "</P") [] (Unclosed 0)

pub record AssetsAreTold : Type 0 where
  -- the second form may have an `@`, and ends with three to five of them
  pub tripled : Has (codes "@@@a@b@@@") (asset (codes "@@@a@b@@@") 0 ∷ [])
  pub closed_by_four : Has (codes "@@@a@@@@ b") (asset (codes "@@@a@@@@") 0 ∷ name (codes "b") 9 ∷ [])
  -- the sixth begins another asset
  pub closed_by_six : Fails (codes "@@@a@@@@@@") (asset (codes "@@@a@@@@@") 0 ∷ []) (Unclosed 9)
  pub over_lines : Fails (codes "@a\n@") [] (Unclosed 0)

pub record CommentsAreTold : Type 0 where
  pub hash : Has (codes "a # b\nc") (name (codes "a") 0 ∷ name (codes "c") 6 ∷ [])
  pub slashes : Has (codes "a//b\nc") (name (codes "a") 0 ∷ name (codes "c") 5 ∷ [])
  pub block : Has (codes "a/*\n*/b") (name (codes "a") 0 ∷ name (codes "b") 6 ∷ [])
  -- the star that opens a comment does not close it
  pub open_block : Fails (codes "a /*/") (name (codes "a") 0 ∷ []) (Unclosed 2)
  pub one_slash : Fails (codes "a/b") (name (codes "a") 0 ∷ []) (BadByte 1)
  -- in a string nothing is a comment
  pub quoted : Has (codes "\"a#b\"") (string (codes "\"a#b\"") 0 ∷ [])

-- a decimal: digits and a power of ten
abbrev pub decimal : ℤ → ℤ → Option Num
decimal digits exp = Some (Finite (record { digits = digits; exp = exp }))

pub record StringsAreTold : Type 0 where
  pub plain : string_text (codes "'a b'") ≡ Some (codes "a b")
  pub tripled : string_text (codes "'''it's'''") ≡ Some (codes "it's")
  -- the letters of C
  pub letters : string_text (codes "\"\\a\\b\\t\\n\\v\\f\\r\"") ≡ Some (7 ∷ 8 ∷ 9 ∷ 10 ∷ 11 ∷ 12 ∷ 13 ∷ [])
  -- any other character stands for itself
  pub others : string_text (codes "\"\\\\ \\\" \\q\"") ≡ Some (codes "\\ \" q")
  -- two hexadecimal digits are a byte, and one is none
  pub hexadecimal : string_text (codes "\"\\x41\\x4g\"") ≡ Some (codes "Ax4g")
  -- one to three octal digits, as many as stand there, modulo 256
  pub octal : string_text (codes "\"\\1012\\7\\501\"") ≡ Some (codes "A2" ++ 7 ∷ codes "A")
  -- bytes that escapes make have to be UTF-8: É, and a half of it
  pub letter : string_text (codes "\"\\xC3\\x89\"") ≡ Some (195 ∷ 137 ∷ [])
  pub half_a_letter : string_text (codes "\"\\xC3\"") ≡ None

pub record MeaningsAreTold : Type 0 where
  pub asset : asset_text (codes "@a.usda@") ≡ codes "a.usda"
  pub asset_empty : asset_text (codes "@@") ≡ []
  -- all but the last three `@` belong to the text
  pub asset_tripled : asset_text (codes "@@@a@b@@@@@") ≡ codes "a@b@@"
  pub path : path_text (codes "</P.x>") ≡ codes "/P.x"
  pub path_empty : path_text (codes "<>") ≡ []
  -- digits that ten does not divide, and a power of ten
  pub point : number_of (codes "1.50") ≡ decimal (pos 15) (negsuc 0)
  pub hundreds : number_of (codes "-300") ≡ decimal (negsuc 2) (pos 2)
  pub exponent : number_of (codes "12.5e+3") ≡ decimal (pos 125) (pos 2)
  pub zero : number_of (codes "-0.00e7") ≡ decimal (pos 0) (pos 0)
  pub infinite : number_of (codes "-inf") ≡ Some NegInf
  pub no_number : number_of (codes "-nan") ≡ Some Nan
  pub too_great : number_of (codes "1e401") ≡ None

-- columns count bytes, from 1
pub record PlacesAreTold : Type 0 where
  pub first : place_of (codes "ab\nc") 0 ≡ record { line = 1; column = 1 }
  pub line_feed : place_of (codes "ab\nc") 2 ≡ record { line = 1; column = 3 }
  pub second_line : place_of (codes "ab\nc") 3 ≡ record { line = 2; column = 1 }
  pub end : place_of (codes "ab\nc") 4 ≡ record { line = 2; column = 2 }
  -- a carriage return ends no line
  pub carriage_return : place_of (codes "a\rb") 2 ≡ record { line = 1; column = 3 }
  -- behind É
  pub letter : place_of (195 ∷ 137 ∷ codes "b") 2 ≡ record { line = 1; column = 3 }

pub record AreTold : Type 0 where
  pub names : NamesAreTold
  pub numbers : NumbersAreTold
  pub quoted : QuotedAreTold
  pub assets : AssetsAreTold
  pub comments : CommentsAreTold
  pub strings : StringsAreTold
  pub meanings : MeaningsAreTold
  pub places : PlacesAreTold
