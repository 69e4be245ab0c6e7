-- What the symbols that are still to come tell of the list that is read, and what a row of the grammar's table has to keep of it.
use Rattle.std.proofs.Common.{Bool, true, false, not, ◌&&◌, ◌||◌, List, [], ◌∷◌, Option, Some, None, ◌≡◌, refl}
use Rattle.std.specs.List.{list_any, list_all}
use Rattle.usda_grammar.specs.Table.{starts}
use Rattle.usda_grammar.specs.declared.kinds.WordKind.{WordKind}
use Rattle.usda_grammar.specs.declared.symbols.Symbol.{Symbol}
use Rattle.usda_grammar.specs.declared.symbols.Symbol.TheVariants as symbol
use Rattle.usda_productions.proofs.AllSymbols.{every_row}

-- what is read: no list, one that is begun and still empty, one between brackets, or the sublayers
pub data Part : Type 0 where
  none : Part
  begun : Part
  brackets : Part
  sublayers : Part

abbrev pub part_of : Symbol → Part
part_of symbol.StringList = begun
part_of symbol.PathList = begun
part_of symbol.ReferenceList = begun
part_of symbol.StringsOrEnd = brackets
part_of symbol.MoreStrings = brackets
part_of symbol.PathsOrEnd = brackets
part_of symbol.MorePaths = brackets
part_of symbol.ReferencesOrEnd = brackets
part_of symbol.MoreReferences = brackets
part_of symbol.SubLayerList = sublayers
part_of symbol.SubLayersOrEnd = sublayers
part_of symbol.MoreSubLayers = sublayers
part_of s = none

abbrev pub or_part : Part → Part → Part
or_part none p = p
or_part q p = q

-- the list that is read is that of the first symbol of a list
abbrev pub part : List Symbol → Part
part [] = none
part (s ∷ stack) = or_part (part_of s) (part stack)

abbrev pub is_none : Part → Bool
is_none none = true
is_none p = false

-- a part of an item of references, of payloads or of the sublayers
abbrev pub is_of_item : Symbol → Bool
is_of_item symbol.MaybePath = true
is_of_item symbol.MaybeOffsets = true
is_of_item symbol.OffsetItems = true
is_of_item symbol.OffsetNumber = true
is_of_item s = false

abbrev pub has_item : List Symbol → Bool
has_item stack = list_any is_of_item stack

-- a symbol that may stand above those of a list
abbrev pub is_light : Symbol → Bool
is_light symbol.MaybePath = true
is_light symbol.MaybeOffsets = true
is_light symbol.OffsetItems = true
is_light symbol.OffsetNumber = true
is_light symbol.Equals = true
is_light symbol.CloseParen = true
is_light symbol.MaybeSemicolon = true
is_light s = false

-- symbols of a list or of an item of one
abbrev pub has_parts : List Symbol → Bool
has_parts stack = not (is_none (part stack)) || has_item stack

-- only light symbols stand above those of a list
abbrev pub are_on_top : List Symbol → Bool
are_on_top [] = true
are_on_top (s ∷ stack) = (is_light s || not (has_parts stack)) && are_on_top stack

-- the words of these symbols begin a list
abbrev pub begins_list : Symbol → Bool
begins_list symbol.HeadItems = true
begins_list symbol.PrimMetadata = true
begins_list symbol.EditedField = true
begins_list symbol.MaybeTargets = true
begins_list symbol.AfterDot = true
begins_list symbol.ConnectWord = true
begins_list s = false

-- a light symbol leaves light ones, and parts of an item only where it is one; one that neither begins nor goes on with a list leaves none
abbrev pub is_list_after : Symbol → Option (List Symbol) → Bool
is_list_after s None = true
is_list_after s (Some after) =
    are_on_top after
    && ((not (is_light s) || (list_all is_light after && (is_none (part after) && (not (has_item after) || is_of_item s))))
    && (is_light s || begins_list s || not (is_none (part_of s)) || not (has_parts after)))

abbrev pub is_list_row : Symbol → WordKind → Bool
is_list_row s k = is_list_after s (starts s k)

-- each row of the table keeps it
pub list_rows : (s : Symbol) (k : WordKind) → is_list_row s k ≡ true
list_rows = every_row is_list_row refl
