-- The tokens of a value's text.
use Rattle.std.specs.Prelude.{ℕ, if◌then◌else◌, List, [], ◌∷◌, ◌++◌, codes}
use Rattle.sdf_values.specs.TypeNames.{element_name}
use Rattle.sdf_values.specs.Print.{num_text, time_text, whole_text, quoted, asset_text, is_plain_key}
use Rattle.sdf_values.specs.declared.type_name.TypeName.{TypeName}
use Rattle.sdf_values.specs.declared.value.DictType.{DictType}
use Rattle.sdf_values.specs.declared.value.DictType.TheVariants as dict_type
use Rattle.sdf_values.specs.declared.value.DictItem.{DictItem, fold-DictItem}
use Rattle.sdf_values.specs.declared.value.Value.{Value, fold-Value}
use Rattle.sdf_values.specs.declared.value.Value.TheOpen.{Value-F, DictItem-F}
use Rattle.usda_lexer.specs.declared.token.Mark.{Mark}
use Rattle.usda_lexer.specs.declared.token.Mark.TheVariants as mark
use Rattle.usda_lexer.specs.declared.token.TokenKind.TheVariants as kind
use Rattle.value_texts.specs.Cuts.{Said}

-- a token that is a name
abbrev pub name_said : List ℕ → Said
name_said t = record { kind = kind.Name; text = t }

-- a token that is a number
abbrev pub number_said : List ℕ → Said
number_said t = record { kind = kind.Number; text = t }

-- a token that is a string, with its quotes
abbrev pub string_said : List ℕ → Said
string_said t = record { kind = kind.String; text = t }

-- a token that is an asset, with its `@`
abbrev pub asset_said : List ℕ → Said
asset_said t = record { kind = kind.Asset; text = t }

-- a token that is a path, with its `<` and `>`
abbrev pub path_said : List ℕ → Said
path_said t = record { kind = kind.Path; text = t }

-- a token that is a mark
abbrev pub mark_said : Mark → List ℕ → Said
mark_said m t = record { kind = kind.Mark m; text = t }

-- the marks, each with its one text
abbrev pub open_paren : Said
open_paren = mark_said mark.OpenParen (codes "(")

abbrev pub close_paren : Said
close_paren = mark_said mark.CloseParen (codes ")")

abbrev pub open_bracket : Said
open_bracket = mark_said mark.OpenBracket (codes "[")

abbrev pub close_bracket : Said
close_bracket = mark_said mark.CloseBracket (codes "]")

abbrev pub open_brace : Said
open_brace = mark_said mark.OpenBrace (codes "{")

abbrev pub close_brace : Said
close_brace = mark_said mark.CloseBrace (codes "}")

abbrev pub comma : Said
comma = mark_said mark.Comma (codes ",")

abbrev pub equals : Said
equals = mark_said mark.Equals (codes "=")

abbrev pub semicolon : Said
semicolon = mark_said mark.Semicolon (codes ";")

abbrev pub dot : Said
dot = mark_said mark.Dot (codes ".")

-- the tokens of the members that follow another, each behind a comma
abbrev pub more_said : List (List Said) → List Said
more_said [] = []
more_said (w ∷ ws) = comma ∷ w ++ more_said ws

-- the tokens between two brackets
abbrev pub listed_said : List (List Said) → List Said
listed_said [] = []
listed_said (w ∷ ws) = w ++ more_said ws

-- the tokens of the entries, one behind the other
abbrev pub entries_said : List (List Said) → List Said
entries_said [] = []
entries_said (w ∷ ws) = w ++ entries_said ws

-- a type is one name, and the brackets of an array are two marks
abbrev pub type_said : TypeName → List Said
type_said t = name_said (element_name t.element) ∷ (if t.array then open_bracket ∷ close_bracket ∷ [] else [])

-- the type of an entry: a value type, or the name `dictionary`
abbrev pub dict_type_said : DictType → List Said
dict_type_said (dict_type.Plain t) = type_said t
dict_type_said dict_type.Dictionary = name_said (codes "dictionary") ∷ []

-- a key is a name or a string
abbrev pub key_said : List ℕ → Said
key_said k = if is_plain_key k then name_said k else string_said (quoted k)

-- one value, with the tokens of each value inside it in its place
abbrev pub said_step : Value-F (List Said) (List Said) → List Said
said_step (Value-F.Bool b) = name_said (if b then codes "true" else codes "false") ∷ []
said_step (Value-F.Whole n) = number_said (whole_text n) ∷ []
said_step (Value-F.Number x) = number_said (num_text x) ∷ []
said_step (Value-F.Time t) = number_said (time_text t) ∷ []
said_step (Value-F.Text t) = string_said (quoted t) ∷ []
said_step (Value-F.Asset t) = asset_said (asset_text t) ∷ []
said_step (Value-F.PathText t) = path_said (codes "<" ++ t ++ codes ">") ∷ []
said_step (Value-F.Word t) = name_said t ∷ []
said_step (Value-F.Tuple ws) = open_paren ∷ listed_said ws ++ close_paren ∷ []
said_step (Value-F.Array ws) = open_bracket ∷ listed_said ws ++ close_bracket ∷ []
said_step (Value-F.Dict ws) = open_brace ∷ entries_said ws ++ close_brace ∷ []
said_step Value-F.Block = name_said (codes "None") ∷ []

-- an entry of a dictionary
abbrev pub said_item : DictItem-F (List Said) (List Said) → List Said
said_item item = dict_type_said item.ty ++ key_said item.key ∷ equals ∷ item.value

-- the tokens of a value's canonical text
abbrev pub words_of_value : Value → List Said
words_of_value = fold-Value (List Said) (List Said) said_step said_item

-- the tokens of an entry's canonical text
abbrev pub words_of_item : DictItem → List Said
words_of_item = fold-DictItem (List Said) (List Said) said_step said_item
