-- Lists of pieces between brackets, and lines.
use Rattle.std.specs.Prelude.{ℕ, List, [], ◌∷◌, ◌++◌, codes}
use Rattle.sdf_values.specs.Print.{blanks}
use Rattle.value_texts.specs.Cuts.{Said, Cuts}
use Rattle.value_texts.specs.Follows.{may_follow}

-- a text and its tokens
abbrev pub Piece : Type 0
Piece = List ℕ × List Said

abbrev pub text_of : Piece → List ℕ
text_of p = p.0

abbrev pub said_by : Piece → List Said
said_by p = p.1

-- each text is its tokens
abbrev pub AreCut : List Piece → Type 0
AreCut [] = Unit {0}
AreCut (p ∷ ps) = Cuts p.0 p.1 may_follow × AreCut ps

-- the texts that follow another, each behind a comma and a blank
abbrev pub more_texts : List (List ℕ) → List ℕ
more_texts [] = []
more_texts (t ∷ ts) = codes ", " ++ t ++ more_texts ts

-- the texts of a list, with a comma and a blank between them
abbrev pub listed_texts : List (List ℕ) → List ℕ
listed_texts [] = []
listed_texts (t ∷ ts) = t ++ more_texts ts

-- a list between brackets, which it has also with one item or none
abbrev pub bracketed_text : List (List ℕ) → List ℕ
bracketed_text ts = codes "[" ++ listed_texts ts ++ codes "]"

-- a text on a line of its own, so many levels in
abbrev pub line_text : ℕ → List ℕ → List ℕ
line_text level text = blanks level ++ text ++ codes "\n"
