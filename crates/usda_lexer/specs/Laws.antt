-- How blanks and whole comments are gone over.
use Rattle.std.specs.Prelude.{◌≡◌, ℕ, List, [], ◌∷◌, ◌++◌, codes, length, Option, None, Ok}
use Rattle.usda_lexer.specs.declared.blanks.Between.{Between}
use Rattle.usda_lexer.specs.declared.blanks.Between.TheVariants.{Blank}
use Rattle.usda_lexer.specs.Blanks.{between_from, gap, IsGap}

-- where the first byte leads, which stands in no comment; `None` where it is no blank and begins no comment, and where there is none
abbrev pub first_between : List ℕ → Option Between
first_between [] = None
first_between (c ∷ cs) = between_from c cs

-- Blanks and whole comments behind which neither a blank nor a comment begins, as at a token or at the end of the text, are exactly
-- what is gone over.
abbrev pub AreGapsGoneOver : Type 0
AreGapsGoneOver = (bytes behind : List ℕ) → IsGap bytes behind → first_between behind ≡ None → gap Blank 0 0 (bytes ++ behind) ≡ Ok (length bytes)

-- `#a/*`, a line feed and `x */` are not blanks and comments alone: the comment ends with its line, and `x` is a token
abbrev pub IsTokenInNoComment : Type 0
IsTokenInNoComment = IsGap (codes "#a/*\nx */") [] → ⊥
