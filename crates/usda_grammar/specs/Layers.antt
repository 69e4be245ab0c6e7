-- What may come next: single tokens, and the statements of a layer: its head, its sublayers and its root prims. Written by tools/grammar.py.
use Rattle.std.specs.Prelude.{List, [], ◌∷◌, Option, Some, None}
use Rattle.usda_grammar.specs.declared.kinds.WordKind.{WordKind}
use Rattle.usda_grammar.specs.declared.kinds.WordKind.TheVariants as token
use Rattle.usda_grammar.specs.declared.kinds.Keyword.TheVariants as word
use Rattle.usda_grammar.specs.declared.symbols.Symbol.{Symbol}
use Rattle.usda_grammar.specs.declared.symbols.Symbol.TheVariants as symbol

-- `=`
abbrev pub equals : WordKind → Option (List Symbol)
equals token.Equals = Some ([])
equals k = None

-- `:`
abbrev pub colon : WordKind → Option (List Symbol)
colon token.Colon = Some ([])
colon k = None

-- `.`
abbrev pub dot : WordKind → Option (List Symbol)
dot token.Dot = Some ([])
dot k = None

-- `)`
abbrev pub close_paren : WordKind → Option (List Symbol)
close_paren token.CloseParen = Some ([])
close_paren k = None

-- `{`
abbrev pub open_brace : WordKind → Option (List Symbol)
open_brace token.OpenBrace = Some ([])
open_brace k = None

-- `}`
abbrev pub close_brace : WordKind → Option (List Symbol)
close_brace token.CloseBrace = Some ([])
close_brace k = None

-- `]`
abbrev pub close_bracket : WordKind → Option (List Symbol)
close_bracket token.CloseBracket = Some ([])
close_bracket k = None

-- the word `rootPrims`
abbrev pub root_prims : WordKind → Option (List Symbol)
root_prims (token.Word word.RootPrims) = Some ([])
root_prims k = None

-- the number of an offset or a scale
abbrev pub offset_number : WordKind → Option (List Symbol)
offset_number token.Number = Some ([])
offset_number k = None

-- the `}` behind the statements of a prim or a variant
abbrev pub body_end : WordKind → Option (List Symbol)
body_end token.CloseBrace = Some ([])
body_end k = None

-- the name of a prim, in quotes
abbrev pub prim_name : WordKind → Option (List Symbol)
prim_name token.Quoted = Some ([])
prim_name k = None

-- the name of a variant set, in quotes
abbrev pub set_name : WordKind → Option (List Symbol)
set_name token.Quoted = Some ([])
set_name k = None

-- `;`, or nothing
abbrev pub maybe_semicolon : WordKind → Option (List Symbol)
maybe_semicolon token.Semicolon = Some ([])
maybe_semicolon k = None

-- the metadata of the layer in brackets, or nothing
abbrev pub maybe_head : WordKind → Option (List Symbol)
maybe_head token.OpenParen = Some (symbol.HeadItems ∷ symbol.CloseParen ∷ [])
maybe_head k = None

-- the metadata of the layer
abbrev pub head_items : WordKind → Option (List Symbol)
head_items (token.Word word.SubLayers) = Some (symbol.Equals ∷ symbol.SubLayerList ∷ symbol.MaybeSemicolon ∷ symbol.HeadItems ∷ [])
head_items (token.Word w) = Some (symbol.Equals ∷ symbol.Value ∷ symbol.MaybeSemicolon ∷ symbol.HeadItems ∷ [])
head_items token.Quoted = Some (symbol.MaybeSemicolon ∷ symbol.HeadItems ∷ [])
head_items k = None

-- the list of sublayers
abbrev pub sub_layer_list : WordKind → Option (List Symbol)
sub_layer_list token.OpenBracket = Some (symbol.SubLayersOrEnd ∷ [])
sub_layer_list k = None

-- the next of the sublayers, or the end of them
abbrev pub sub_layers_or_end : WordKind → Option (List Symbol)
sub_layers_or_end token.CloseBracket = Some ([])
sub_layers_or_end token.Asset = Some (symbol.MaybeOffsets ∷ symbol.MoreSubLayers ∷ [])
sub_layers_or_end k = None

-- what follows one of the sublayers
abbrev pub more_sub_layers : WordKind → Option (List Symbol)
more_sub_layers token.Comma = Some (symbol.SubLayersOrEnd ∷ [])
more_sub_layers token.CloseBracket = Some ([])
more_sub_layers k = None

-- offset and scale in brackets, or nothing
abbrev pub maybe_offsets : WordKind → Option (List Symbol)
maybe_offsets token.OpenParen = Some (symbol.OffsetItems ∷ symbol.CloseParen ∷ [])
maybe_offsets k = None

-- offset and scale
abbrev pub offset_items : WordKind → Option (List Symbol)
offset_items (token.Word w) = Some (symbol.Equals ∷ symbol.OffsetNumber ∷ symbol.MaybeSemicolon ∷ symbol.OffsetItems ∷ [])
offset_items k = None

-- the root prims, and the orders of them
abbrev pub root_statements : WordKind → Option (List Symbol)
root_statements (token.Word word.Specifier) = Some (symbol.MaybeTypeName ∷ symbol.PrimName ∷ symbol.MaybePrimMetadata ∷ symbol.OpenBrace ∷ symbol.PrimBody ∷ symbol.BodyEnd ∷ symbol.MaybeSemicolon ∷ symbol.RootStatements ∷ [])
root_statements (token.Word word.Reorder) = Some (symbol.RootPrims ∷ symbol.Equals ∷ symbol.NameList ∷ symbol.MaybeSemicolon ∷ symbol.RootStatements ∷ [])
root_statements k = None

-- the symbols of this part
abbrev pub layers_starts : Symbol → WordKind → Option (List Symbol)
layers_starts symbol.Equals k = equals k
layers_starts symbol.Colon k = colon k
layers_starts symbol.Dot k = dot k
layers_starts symbol.CloseParen k = close_paren k
layers_starts symbol.OpenBrace k = open_brace k
layers_starts symbol.CloseBrace k = close_brace k
layers_starts symbol.CloseBracket k = close_bracket k
layers_starts symbol.RootPrims k = root_prims k
layers_starts symbol.OffsetNumber k = offset_number k
layers_starts symbol.BodyEnd k = body_end k
layers_starts symbol.PrimName k = prim_name k
layers_starts symbol.SetName k = set_name k
layers_starts symbol.MaybeSemicolon k = maybe_semicolon k
layers_starts symbol.MaybeHead k = maybe_head k
layers_starts symbol.HeadItems k = head_items k
layers_starts symbol.SubLayerList k = sub_layer_list k
layers_starts symbol.SubLayersOrEnd k = sub_layers_or_end k
layers_starts symbol.MoreSubLayers k = more_sub_layers k
layers_starts symbol.MaybeOffsets k = maybe_offsets k
layers_starts symbol.OffsetItems k = offset_items k
layers_starts symbol.RootStatements k = root_statements k
layers_starts s k = None
