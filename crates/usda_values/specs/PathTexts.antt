-- Which texts between `<` and `>` are paths. A path that does not begin with `/` is taken from a prim: each `../` in front goes up
-- one prim, and `.name` is a property of that prim.
use Rattle.std.specs.Prelude.{ℕ, zero, suc, Bool, true, false, ◌&&◌, nat_le, List, [], ◌∷◌, ◌++◌, length, drop, Option, Some, None, codes}
use Rattle.std.specs.Option.{is_some}
use Rattle.std.specs.Str.{chars}
use Rattle.sdf_paths.specs.Reader.{after, finish}
use Rattle.sdf_paths.specs.declared.reader.Reader.{Reader}
use Rattle.usda_lexer.specs.Blanks.{begins}

-- a path may end where the reader stands
abbrev pub finishes : Option Reader → Bool
finishes None = false
finishes (Some r) = is_some (finish r)

-- a path from the root down
unfoldable pub is_path : List ℕ → Bool
is_path text = nat_le (length text) 4096 && finishes (after (chars text))

-- `../` stands in front
abbrev pub begins_up : List ℕ → Bool
begins_up text = begins 46 text && (begins 46 (drop 1 text) && begins 47 (drop 2 text))

-- what follows each `../` in front; the first bytes belong to one
abbrev pub behind_ups : ℕ → List ℕ → List ℕ
behind_ups taken [] = []
behind_ups (suc taken) (c ∷ cs) = behind_ups taken cs
behind_ups zero (c ∷ cs) = elim (begins_up (c ∷ cs)) [ true ↦ behind_ups 2 cs | false ↦ c ∷ cs ]

-- a path from a prim down: that prim's property, or a path below it
abbrev pub is_path_below : List ℕ → Bool
is_path_below [] = false
is_path_below (c ∷ cs) = elim (begins 46 (c ∷ cs)) [ true ↦ is_path (codes "/a" ++ c ∷ cs) | false ↦ is_path (codes "/" ++ c ∷ cs) ]

-- the text of a value that is a path
unfoldable pub is_path_text : List ℕ → Bool
is_path_text text = elim (begins 47 text) [ true ↦ is_path text | false ↦ is_path_below (behind_ups 0 text) ]
