-- What a row of the grammar's table has to keep: only behind an edit word of a prim's metadata a field comes next.
use Rattle.std.proofs.Common.{Bool, true, false, not, ◌||◌, ◌&&◌, List, Option, Some, None, ◌≡◌, refl}
use Rattle.std.specs.List.{list_any}
use Rattle.usda_grammar.specs.Table.{starts}
use Rattle.usda_grammar.specs.declared.kinds.Keyword.TheVariants as word
use Rattle.usda_grammar.specs.declared.kinds.WordKind.{WordKind}
use Rattle.usda_grammar.specs.declared.kinds.WordKind.TheVariants as token
use Rattle.usda_grammar.specs.declared.symbols.Symbol.{Symbol}
use Rattle.usda_grammar.specs.declared.symbols.Symbol.TheVariants as symbol
use Rattle.usda_productions.proofs.AllSymbols.{every_row}

-- the symbol behind an edit word
abbrev pub is_edited : Symbol → Bool
is_edited symbol.EditedField = true
is_edited s = false

abbrev pub has_edited : List Symbol → Bool
has_edited stack = list_any is_edited stack

abbrev pub is_item : Symbol → Bool
is_item symbol.PrimMetadata = true
is_item s = false

abbrev pub is_edit : WordKind → Bool
is_edit (token.Word word.Edit) = true
is_edit (token.Word word.Reorder) = true
is_edit k = false

-- an edit word of a prim's metadata
abbrev pub is_noted : Symbol → WordKind → Bool
is_noted s k = is_item s && is_edit k

abbrev pub is_edited_after : Symbol → WordKind → Option (List Symbol) → Bool
is_edited_after s k None = true
is_edited_after s k (Some after) = not (has_edited after) || is_noted s k

abbrev pub is_edited_row : Symbol → WordKind → Bool
is_edited_row s k = is_edited_after s k (starts s k)

-- each row of the table keeps it
pub edited_rows : (s : Symbol) (k : WordKind) → is_edited_row s k ≡ true
edited_rows = every_row is_edited_row refl
