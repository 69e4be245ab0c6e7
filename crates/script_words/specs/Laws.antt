-- A value of a line, beside the reader of values alone.
use Rattle.std.specs.Prelude.{◌≡◌, ◌↔◌, ℕ, List, [], ◌∷◌, Option, Some, None}
use Rattle.sdf_paths.specs.declared.element.Element.{Element}
use Rattle.sdf_values.specs.declared.value.Value.{Value}
use Rattle.usda_lexer.specs.Meanings.{path_text}
use Rattle.usda_lexer.specs.Words.{Word, Lexer, left}
use Rattle.usda_lexer.specs.declared.token.TokenKind.{TokenKind}
use Rattle.usda_lexer.specs.declared.token.TokenKind.TheVariants as kind
use Rattle.usda_lists.specs.Paths.{absolute_from}
use Rattle.usda_values.specs.Drafts.{draft_of}
use Rattle.usda_values.specs.Reads.{reads, got, lexing_of}
use Rattle.usda_values.specs.declared.level.Place.TheVariants as place
use Rattle.usda_values.specs.declared.shape.Shape.TheVariants.{Untyped}
use Rattle.script_words.specs.Answers.{◌>>=◌}
use Rattle.script_words.specs.Values.{value_in}
use Rattle.script_words.specs.Words.{lexer_of}

-- a token's text, which is for a path that of the path from the root down
abbrev pub absolute_text : List Element → TokenKind → List ℕ → Option (List ℕ)
absolute_text base kind.Path text = absolute_from base (path_text text)
absolute_text base k text = Some text

-- a token with its path from the root down, in front of the others
abbrev pub put_word : Word → Option (List ℕ) → Option (List Word) → Option (List Word)
put_word w text rest = text >>= λ t. rest >>= λ ws. Some (record w { text = t } ∷ ws)

-- the tokens with each path as one from the root down; none where one is no path below this prim
abbrev pub absolute_words : List Element → List Word → Option (List Word)
absolute_words base [] = Some []
absolute_words base (w ∷ ws) = put_word w (absolute_text base w.kind w.text) (absolute_words base ws)

-- these tokens, with their paths from the root down, are read as one value, and nothing is left
pub record IsReadAlone (base : List Element) (end : ℕ) (ws : List Word) (v : Value) : Type 0 where
  pub words : List Word
  pub absolute : absolute_words base ws ≡ Some words
  pub read : reads words None end (draft_of place.Value Untyped) ≡ got v (lexing_of [] None)

-- the tokens of these bytes are
pub record IsValueOf (base : List Element) (bytes : List ℕ) (v : Value) : Type 0 where
  pub tokens : Lexer
  pub opened : lexer_of bytes ≡ Some tokens
  pub good : (left tokens).fault ≡ None
  pub alone : (end : ℕ) → IsReadAlone base end (left tokens).words v

-- a value of a line is what the reader of values reads alone
abbrev pub LineValuesAreRead : Type 0
LineValuesAreRead = (base : List Element) (bytes : List ℕ) (v : Value) → (value_in base bytes ≡ Some v) ↔ IsValueOf base bytes v
