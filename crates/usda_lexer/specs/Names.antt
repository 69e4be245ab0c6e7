-- How far a name goes: identifiers joined by `:`, where a colon belongs to the name if an identifier follows it.
use Rattle.std.specs.Prelude.{ℕ, ◌+◌, Bool, true, false, ◌&&◌, ◌==◌, List, [], ◌∷◌}
use Rattle.std.specs.Char.{len_utf8}
use Rattle.std.specs.Str.{chars}
use Rattle.usd_names.specs.Names.{goes_on}

-- How long the name is, in bytes. `begun` says that a part of an identifier stands before these characters; n bytes were
-- gone over, and the longest name in them ends at `end`.
abbrev pub name_end : Bool → ℕ → ℕ → List ℕ → ℕ
name_end begun end n [] = end
name_end begun end n (c ∷ cs) =
    elim (begun && c == 58) [
      | true ↦ name_end false end (n + len_utf8 c) cs
      | false ↦ elim (goes_on begun c) [ true ↦ name_end true (n + len_utf8 c) (n + len_utf8 c) cs | false ↦ end ]
    ]

-- how many bytes in front are a name; 0 where none begins
abbrev pub name_len : List ℕ → ℕ
name_len bytes = name_end false 0 0 (chars bytes)
