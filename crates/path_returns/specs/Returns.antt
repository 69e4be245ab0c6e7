-- The printed text of a path, where it stands in a layer.
use Rattle.std.specs.Prelude.{◌≡◌, true, List, [], ◌∷◌, ◌++◌, Option, Some, None}
use Rattle.std.specs.Str.{is_utf8}
use Rattle.sdf_paths.specs.Paths.{IsPath, is_plain, printed}
use Rattle.sdf_paths.specs.declared.element.Element.{Element}
use Rattle.usda_lexer.specs.Meanings.{path_text}
use Rattle.sdf_paths.specs.Reader.{path_of}
use Rattle.usda_lists.specs.Paths.{path_from, target_from, absolute_from}
use Rattle.usda_values.specs.PathTexts.{is_path_text}
use Rattle.usda_writer.specs.Texts.{path_text as path_token}

-- there is no path, or it is one
abbrev pub IsPathOrAbsent : Option (List Element) → Type 0
IsPathOrAbsent None = Unit {0}
IsPathOrAbsent (Some path) = IsPath path

-- the text of each path is UTF-8
abbrev pub AreUtf8 : Type 0
AreUtf8 = (path : List Element) → IsPath path → is_utf8 (printed path) ≡ true

-- a value that is a path may have it as its text
abbrev pub ArePathTexts : Type 0
ArePathTexts = (path : List Element) → IsPath path → is_path_text (printed path) ≡ true

-- it is read as the path
abbrev pub AreTextsRead : Type 0
AreTextsRead = (path : List Element) → IsPath path → path_of (printed path) ≡ Some path

-- each path between its brackets is read as the path, whichever prim the statement is of
abbrev pub PathsReturn : Type 0
PathsReturn = (base path : List Element) → IsPath path → path_from base (path_text (path_token path)) ≡ Some path

-- the same of targets, which have no selections
abbrev pub TargetsReturn : Type 0
TargetsReturn = (base path : List Element) → IsPath path → is_plain path ≡ true → target_from base (path_text (path_token path)) ≡ Some path

-- the token of a path is the token of the same path from the root down, as which it is taken into a value
abbrev pub ValuePathsReturn : Type 0
ValuePathsReturn =
    (base path : List Element) → IsPath path → absolute_from base (path_text (60 ∷ printed path ++ 62 ∷ [])) ≡ Some (60 ∷ printed path ++ 62 ∷ [])
