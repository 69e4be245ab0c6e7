-- A value that goes to the end of a line.
use Rattle.std.specs.Prelude.{ℕ, false, if◌then◌else◌, List, [], ◌∷◌, Option, Some, None}
use Rattle.sdf_paths.specs.declared.element.Element.{Element}
use Rattle.sdf_values.specs.declared.value.Value.{Value}
use Rattle.usda_lexer.specs.declared.token.LexFault.{LexFault}
use Rattle.usda_lexer.specs.Words.{Word, Lexing, left}
use Rattle.usda_statements.specs.OpenValues.{opened, is_open, given, value_in as value_of}
use Rattle.usda_statements.specs.declared.open_value.OpenValue.{OpenValue}
use Rattle.usda_values.specs.declared.shape.Shape.TheVariants.{Untyped}
use Rattle.script_words.specs.Answers.{◌>>=◌, made}
use Rattle.script_words.specs.Words.{lexer_of}

-- the answer, unless the tokens end with a fault
abbrev pub unless_fault : {X : Type 0} → Option LexFault → Option X → Option X
unless_fault None x = x
unless_fault (Some fault) x = None

-- what all tokens make, where they end with the bytes and not with a fault
abbrev pub of_all : {X : Type 0} → (List Word → Option X) → Lexing → Option X
of_all read l = unless_fault l.fault (read l.words)

-- the value, where it is complete
abbrev pub whole_value : OpenValue → Option Value
whole_value v = if is_open v then None else Some (value_of v)

-- the value that these tokens complete, as a layer's reader takes them
abbrev pub value_from : List Element → OpenValue → List Word → Option Value
value_from base v [] = whole_value v
value_from base v (w ∷ ws) = made (given base w.kind w.text v) >>= λ next. value_from base next ws

-- the value of all tokens of these bytes, where no type is expected; a path that does not begin with `/` is taken from this prim
unfoldable pub value_in : List Element → List ℕ → Option Value
value_in base bytes = lexer_of bytes >>= λ t. of_all (value_from base (opened Untyped false)) (left t)
