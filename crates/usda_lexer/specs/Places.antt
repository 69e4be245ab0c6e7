-- Lines and columns.
use Rattle.std.specs.Prelude.{ℕ, ◌+◌, true, false, ◌==◌, List, [], ◌∷◌, take}
use Rattle.usda_lexer.specs.declared.place.Place.{Place}

-- the place behind these bytes, from a place on; columns count bytes, and a line feed ends a line
abbrev pub place_behind : Place → List ℕ → Place
place_behind p [] = p
place_behind p (c ∷ cs) = elim (c == 10) [
  | true ↦ place_behind (record { line = p.line + 1; column = 1 }) cs
  | false ↦ place_behind (record { line = p.line; column = p.column + 1 }) cs
]

-- the place of the byte with this number; behind the last byte where there is none
abbrev pub place_of : List ℕ → ℕ → Place
place_of source at = place_behind (record { line = 1; column = 1 }) (take at source)
