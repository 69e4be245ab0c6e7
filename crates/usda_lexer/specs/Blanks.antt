-- Blanks and comments: what may stand between two tokens.
-- A comment goes from `#` or `//` up to the end of its line, or from `/*` to the next `*/`.
use Rattle.std.specs.Prelude.{◌≡◌, ℕ, ◌+◌, Bool, true, false, ◌&&◌, ◌||◌, ◌==◌, if◌then◌else◌, List, [], ◌∷◌, ◌++◌, Option, Some, None, Result, Ok, Err}
use Rattle.usda_lexer.specs.declared.blanks.Between.{Between}
use Rattle.usda_lexer.specs.declared.blanks.Between.TheVariants.{Blank, Slash, Line, Opening, Block, Closing}

-- a space, a tab, a carriage return or a line feed
abbrev pub is_blank : ℕ → Bool
is_blank c = (c == 32) || (c == 9) || (c == 13) || (c == 10)

-- whether this byte stands in front
abbrev pub begins : ℕ → List ℕ → Bool
begins c [] = false
begins c (d ∷ ds) = d == c

-- behind a byte that stands between tokens or begins one: `None` where it begins one
abbrev pub between_from : ℕ → List ℕ → Option Between
between_from c cs =
    if is_blank c then Some Blank
    else if c == 35 then Some Line
    else if c == 47 && begins 47 cs then Some Slash
    else if c == 47 && begins 42 cs then Some Opening
    else None

-- where a byte leads, of what stands behind it; `None` where it begins a token
abbrev pub between_after : Between → ℕ → List ℕ → Option Between
between_after Blank c cs = between_from c cs
between_after Slash c cs = Some Line
between_after Line c cs = Some (if c == 10 then Blank else Line)
between_after Opening c cs = Some Block
between_after Block c cs = Some (if c == 42 && begins 47 cs then Closing else Block)
between_after Closing c cs = Some Blank

-- the place where the comment that is open begins, where a byte at n leads to this
abbrev pub opened_at : Between → ℕ → ℕ → ℕ
opened_at Opening opened n = n
opened_at state opened n = opened

-- the end of the text, n bytes on
abbrev pub ended_between : Between → ℕ → ℕ → Result ℕ ℕ
ended_between Blank opened n = Ok n
ended_between Slash opened n = Ok n
ended_between Line opened n = Ok n
ended_between state opened n = Err opened

-- How many bytes of blanks and comments stand in front; or behind how many a comment begins that has no end. n bytes of them
-- were gone over, and `opened` is where the last `/*` stood.
abbrev pub gap : Between → ℕ → ℕ → List ℕ → Result ℕ ℕ
gap state opened n [] = ended_between state opened n
gap state opened n (c ∷ cs) = elim (between_after state c cs) [ None ↦ Ok n | Some next ↦ gap next (opened_at next opened n) (n + 1) cs ]

-- A piece of what stands between two tokens: a blank, or a comment by what stands behind its `#`, behind its `//`, or between its
-- `/*` and its `*/`.
pub data Piece : Type 0 where
  blank : ℕ → Piece
  hash : List ℕ → Piece
  slashes : List ℕ → Piece
  block : List ℕ → Piece

-- no line feed
abbrev pub is_one_line : List ℕ → Bool
is_one_line [] = true
is_one_line (c ∷ cs) = if c == 10 then false else is_one_line cs

-- no `*/`
abbrev pub has_no_end : List ℕ → Bool
has_no_end [] = true
has_no_end (c ∷ cs) = if c == 42 && begins 47 cs then false else has_no_end cs

-- a line feed stands in front, or nothing
abbrev pub at_line_end : List ℕ → Bool
at_line_end [] = true
at_line_end (c ∷ cs) = c == 10

-- Whether a piece is one, of all bytes that stand behind it: a blank; a comment with `#` or `//` that holds no line feed and goes
-- up to one or to the end of the text; or a comment that ends with the first `*/` behind its `/*`.
abbrev pub is_piece : Piece → List ℕ → Bool
is_piece (blank c) behind = is_blank c
is_piece (hash text) behind = is_one_line text && at_line_end behind
is_piece (slashes text) behind = is_one_line text && at_line_end behind
is_piece (block text) behind = has_no_end text

-- the bytes of a piece
abbrev pub piece_bytes : Piece → List ℕ
piece_bytes (blank c) = c ∷ []
piece_bytes (hash text) = 35 ∷ text
piece_bytes (slashes text) = 47 ∷ 47 ∷ text
piece_bytes (block text) = 47 ∷ 42 ∷ text ++ 42 ∷ 47 ∷ []

-- the bytes of the pieces, one behind the other
abbrev pub pieces_bytes : List Piece → List ℕ
pieces_bytes [] = []
pieces_bytes (p ∷ ps) = piece_bytes p ++ pieces_bytes ps

-- each of them is a piece, where these bytes stand behind the last of them
abbrev pub are_pieces : List Piece → List ℕ → Bool
are_pieces [] behind = true
are_pieces (p ∷ ps) behind = is_piece p (pieces_bytes ps ++ behind) && are_pieces ps behind

-- Bytes that are blanks and whole comments, and nothing else, where `behind` are all bytes of the text that stand behind them.
pub record IsGap (bytes behind : List ℕ) : Type 0 where
  pub pieces : List Piece
  pub good : are_pieces pieces behind ≡ true
  pub written : pieces_bytes pieces ≡ bytes
