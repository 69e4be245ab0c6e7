-- Words that mean the same in the statements of each prim.
use Rattle.std.specs.Prelude.{◌≡◌, ℕ, List, [], ◌∷◌, Some}
use Rattle.sdf_paths.specs.declared.element.Element.{Element}
use Rattle.usda_lexer.specs.declared.token.TokenKind.{TokenKind}
use Rattle.usda_lexer.specs.declared.token.TokenKind.TheVariants as form
use Rattle.usda_lexer.specs.Meanings.{path_text}
use Rattle.usda_lists.specs.Paths.{absolute_from}
use Rattle.value_texts.specs.Cuts.{Said}

-- a path that is its own text from the root down; other words are as they are
abbrev pub IsFixedAs : List Element → TokenKind → List ℕ → Type 0
IsFixedAs base form.Path text = absolute_from base (path_text text) ≡ Some text
IsFixedAs base k text = Unit {0}

-- the word means in the statements of this prim what it means from the root down
abbrev pub IsFixed : List Element → Said → Type 0
IsFixed base w = IsFixedAs base w.kind w.text

-- each of the words is
abbrev pub AreFixed : List Element → List Said → Type 0
AreFixed base [] = Unit {0}
AreFixed base (w ∷ ws) = IsFixed base w × AreFixed base ws
