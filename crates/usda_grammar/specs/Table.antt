-- The table: what each symbol may begin with, and which symbols may be absent. Written by tools/grammar.py.
use Rattle.std.specs.Prelude.{Bool, true, false, List, [], ◌∷◌, Option, Some, None}
use Rattle.usda_grammar.specs.declared.kinds.WordKind.{WordKind}
use Rattle.usda_grammar.specs.declared.symbols.Symbol.{Symbol}
use Rattle.usda_grammar.specs.declared.symbols.Symbol.TheVariants as symbol
use Rattle.usda_grammar.specs.Layers.{layers_starts}
use Rattle.usda_grammar.specs.Prims.{prims_starts}
use Rattle.usda_grammar.specs.Properties.{properties_starts}
use Rattle.usda_grammar.specs.Values.{values_starts}

-- a layer: its head and its root prims
abbrev pub layer : List Symbol
layer = symbol.MaybeHead ∷ symbol.RootStatements ∷ []

-- the one of two that there is: each symbol is of one part
abbrev pub some_of : Option (List Symbol) → Option (List Symbol) → Option (List Symbol)
some_of (Some after) rest = Some after
some_of None rest = rest

-- what follows a token that is the first of a symbol, where it may be the first
abbrev pub starts : Symbol → WordKind → Option (List Symbol)
starts s k = some_of (layers_starts s k) (some_of (prims_starts s k) (some_of (properties_starts s k) (values_starts s k)))

-- nothing may stand for the symbol
abbrev pub may_be_absent : Symbol → Bool
may_be_absent symbol.MaybeSemicolon = true
may_be_absent symbol.MaybeHead = true
may_be_absent symbol.HeadItems = true
may_be_absent symbol.MaybeOffsets = true
may_be_absent symbol.OffsetItems = true
may_be_absent symbol.RootStatements = true
may_be_absent symbol.MaybeTypeName = true
may_be_absent symbol.MaybePrimMetadata = true
may_be_absent symbol.PrimMetadata = true
may_be_absent symbol.MaybePath = true
may_be_absent symbol.VariantList = true
may_be_absent symbol.PrimBody = true
may_be_absent symbol.MaybeBrackets = true
may_be_absent symbol.MaybeAttributeTail = true
may_be_absent symbol.MaybeTargets = true
may_be_absent symbol.MaybePropertyMetadata = true
may_be_absent symbol.PropertyMetadata = true
may_be_absent symbol.DictionaryEntries = true
may_be_absent symbol.MaybeSeparator = true
may_be_absent s = false
