-- A text cut into pieces.
use Rattle.std.specs.Prelude.{◌≡◌, ℕ, ◌==◌, List, [], ◌∷◌, ◌++◌, if◌then◌else◌}

-- a byte before the first piece
abbrev pub onto : ℕ → List (List ℕ) → List (List ℕ)
onto c [] = (c ∷ []) ∷ []
onto c (p ∷ ps) = (c ∷ p) ∷ ps

-- the lines of a text, each with the line feed that ends it; the last one may have none
unfoldable pub lines_of : List ℕ → List (List ℕ)
lines_of [] = []
lines_of (c ∷ cs) = if c == 10 then (c ∷ []) ∷ lines_of cs else onto c (lines_of cs)

-- a text that ends with a line feed
abbrev pub IsFed : List ℕ → Type 0
IsFed text = (front : List ℕ) × (text ≡ front ++ 10 ∷ [])

-- each of these lines has its line feed
abbrev pub AreFed : List (List ℕ) → Type 0
AreFed [] = Unit {0}
AreFed (l ∷ ls) = IsFed l × AreFed ls

-- the pieces between these separators: one more than there are separators
unfoldable pub pieces_of : ℕ → List ℕ → List (List ℕ)
pieces_of separator [] = [] ∷ []
pieces_of separator (c ∷ cs) = if c == separator then [] ∷ pieces_of separator cs else onto c (pieces_of separator cs)
