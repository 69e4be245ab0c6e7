-- The forms of names that composition looks at. Each is told by the tables of Unicode; names of ASCII alone are told by a shorter
-- test first, so that definitions over them compute.
-- docs/COMPOSITION.md, 'Nodes, and which arcs are followed'.
use Rattle.std.specs.Prelude.{ℕ, nat_le, ◌==◌, Bool, true, false, [], ◌∷◌}
use Rattle.std.specs.List.{list_all}
use Rattle.usd_names.specs.Names.{is_identifier, is_variant}
use Rattle.composition.specs.Texts.{Text, both}

-- an ASCII letter or `_`
abbrev pub is_letter : ℕ → Bool
is_letter c = elim (both (nat_le 65 c) (nat_le c 90)) [ true ↦ true | false ↦ elim (both (nat_le 97 c) (nat_le c 122)) [ true ↦ true | false ↦ c == 95 ] ]

-- an ASCII letter, an ASCII digit or `_`
abbrev pub is_letter_or_digit : ℕ → Bool
is_letter_or_digit c = elim (is_letter c) [ true ↦ true | false ↦ both (nat_le 48 c) (nat_le c 57) ]

-- an identifier of ASCII alone: it does not begin with a digit
abbrev pub is_ascii_identifier : Text → Bool
is_ascii_identifier [] = false
is_ascii_identifier (c ∷ t) = both (is_letter c) (list_all is_letter_or_digit t)

-- a variant's name of ASCII letters, digits and `_` alone; it may begin with a digit
abbrev pub is_ascii_variant : Text → Bool
is_ascii_variant [] = false
is_ascii_variant (c ∷ t) = list_all is_letter_or_digit (c ∷ t)

-- an identifier: the name of a prim, or of a variant set
abbrev pub is_name : Text → Bool
is_name t = elim (is_ascii_identifier t) [ true ↦ true | false ↦ is_identifier t ]

-- the name of a variant
abbrev pub is_variant_name : Text → Bool
is_variant_name t = elim (is_ascii_variant t) [ true ↦ true | false ↦ is_variant t ]
