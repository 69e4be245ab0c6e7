-- Names: identifiers, alone or joined by colons, and the names of variants.
use Rattle.std.specs.Prelude.{ℕ, Bool, true, false, not, ◌&&◌, ◌||◌, ◌==◌, if◌then◌else◌, List, [], ◌∷◌, codes}
use Rattle.std.specs.List.{list_all}
use Rattle.std.specs.Str.{chars, is_utf8}
use Rattle.std.specs.Cmp.Lexicographic.{pointwise}
use Rattle.unicode_ident.specs.Ident.{is_xid_start, is_xid_continue}

-- a character that an identifier may begin with
unfoldable pub is_start : ℕ → Bool
is_start c = is_xid_start c || (c == 95)

-- a character of an identifier, if it may stand there
abbrev pub goes_on : Bool → ℕ → Bool
goes_on true c = is_xid_continue c
goes_on false c = is_start c

-- a character that may stand in the name of a variant: `|` and `-` may, too
unfoldable pub is_variant_character : ℕ → Bool
is_variant_character c = is_xid_continue c || ((c == 124) || (c == 45))

-- a character that identifiers may begin with, and then those that they go on with
abbrev pub spells_identifier : List ℕ → Bool
spells_identifier [] = false
spells_identifier (c ∷ cs) = is_start c && list_all is_xid_continue cs

-- the rest of an identifier, where `begun` says that a part of it stands before
abbrev pub identifier_rest : Bool → List ℕ → Bool
identifier_rest true cs = list_all is_xid_continue cs
identifier_rest false cs = spells_identifier cs

-- identifiers joined by `:`, where `begun` says that one stands before these characters
abbrev pub spells_joined : Bool → List ℕ → Bool
spells_joined begun [] = begun
spells_joined false (c ∷ cs) = is_start c && spells_joined true cs
spells_joined true (c ∷ cs) = if c == 58 then spells_joined false cs else (is_xid_continue c && spells_joined true cs)

-- at least one character of a variant
abbrev pub spells_run : List ℕ → Bool
spells_run [] = false
spells_run (c ∷ cs) = is_variant_character c && list_all is_variant_character cs

-- such a run, with one `.` before it or not
abbrev pub spells_variant : List ℕ → Bool
spells_variant [] = false
spells_variant (c ∷ cs) = if c == 46 then spells_run cs else spells_run (c ∷ cs)

-- the bytes are an identifier: a prim's name, or that of a variant set
unfoldable pub is_identifier : List ℕ → Bool
is_identifier bytes = is_utf8 bytes && spells_identifier (chars bytes)

-- the bytes are the name of a variant
unfoldable pub is_variant : List ℕ → Bool
is_variant bytes = is_utf8 bytes && spells_variant (chars bytes)

-- the words that are numbers and no names
abbrev pub is_number_word : List ℕ → Bool
is_number_word t = pointwise ◌==◌ t (codes "inf") || pointwise ◌==◌ t (codes "nan")

-- what a text that is valid UTF-8 spells is a name: identifiers joined by colons, and no number
abbrev pub is_name : List ℕ → Bool
is_name t = spells_joined false (chars t) && not (is_number_word t)

-- the bytes are the name of a property
unfoldable pub is_property_name : List ℕ → Bool
is_property_name bytes = is_utf8 bytes && is_name bytes
