-- Paths between `<` and `>` in a layer. One that does not begin with `/` is taken from the plain path of a prim, or from `/` in the head of
-- a layer: each `../` in front goes up one prim, and `.name` is a property of that prim.
use Rattle.std.specs.Prelude.{ℕ, zero, suc, Bool, true, false, ◌||◌, if◌then◌else◌, List, [], ◌∷◌, ◌++◌, Option, Some, None}
use Rattle.std.specs.Option.{option_map}
use Rattle.sdf_paths.specs.Paths.{is_empty, parent, plain, printed}
pub use Rattle.sdf_paths.specs.Reader.{finished, path_of}
use Rattle.sdf_paths.specs.declared.element.Element.{Element}
use Rattle.usda_lexer.specs.Blanks.{begins}
use Rattle.usda_values.specs.PathTexts.{begins_up}

-- no `/` stands between the path of a prim and this text: `/` is the path, or `.` begins a property
abbrev pub joins_directly : List Element → List ℕ → Bool
joins_directly prim text = is_empty prim || begins 46 text

-- the text of a path that goes on from a prim
abbrev pub text_below : List Element → List ℕ → List ℕ
text_below prim text = if joins_directly prim text then printed prim ++ text else printed prim ++ 47 ∷ text

-- The path that a text means below a prim; the first bytes belong to a `../`. None where the text is empty or goes above `/`.
abbrev pub path_below : ℕ → Option (List Element) → List ℕ → Option (List Element)
path_below taken None text = None
path_below taken (Some prim) [] = None
path_below (suc taken) (Some prim) (c ∷ cs) = path_below taken (Some prim) cs
path_below zero (Some prim) (c ∷ cs) = elim (begins_up (c ∷ cs)) [ true ↦ path_below 2 (parent prim) cs | false ↦ path_of (text_below prim (c ∷ cs)) ]

-- the path that a text means where `base` is the plain path of the prim that owns the statement
unfoldable pub path_from : List Element → List ℕ → Option (List Element)
path_from base text = elim (begins 47 text) [ true ↦ path_of text | false ↦ path_below 0 (Some base) text ]

-- the same as a target, whose selections are dropped
abbrev pub target_from : List Element → List ℕ → Option (List Element)
target_from base text = option_map plain (path_from base text)

-- a path token that means the path wherever it stands
abbrev pub absolute_token : List Element → List ℕ
absolute_token path = 60 ∷ printed path ++ 62 ∷ []

-- the path that a text means from the plain path of a prim, as a token that means it wherever it stands
abbrev pub absolute_from : List Element → List ℕ → Option (List ℕ)
absolute_from base text = option_map absolute_token (path_from base text)
