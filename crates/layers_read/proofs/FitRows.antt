-- What a row of the grammar's table has to keep of the places where keys may stand.
use Rattle.std.proofs.Common.{Bool, true, false, not, ◌&&◌, ◌||◌, List, [], ◌∷◌, Option, Some, None, ◌≡◌, refl}
use Rattle.usda_grammar.specs.declared.symbols.Symbol.{Symbol}
use Rattle.usda_grammar.specs.declared.symbols.Symbol.TheVariants as symbol
use Rattle.usda_grammar.specs.Table.{starts}
use Rattle.usda_grammar.specs.declared.kinds.WordKind.{WordKind}
use Rattle.usda_productions.proofs.AllSymbols.{every_row}

-- the symbols of metadata of the layer, of prims and of variants
abbrev pub is_part : Symbol → Bool
is_part symbol.MaybeHead = true
is_part symbol.HeadItems = true
is_part symbol.MaybePrimMetadata = true
is_part symbol.PrimMetadata = true
is_part symbol.EditedField = true
is_part s = false

-- the symbols behind a word of which metadata may come
abbrev pub may_part : Symbol → Bool
may_part symbol.MaybeHead = true
may_part symbol.HeadItems = true
may_part symbol.MaybePrimMetadata = true
may_part symbol.PrimMetadata = true
may_part symbol.RootStatements = true
may_part symbol.PrimBody = true
may_part symbol.VariantList = true
may_part s = false

abbrev pub are_partless : List Symbol → Bool
are_partless [] = true
are_partless (s ∷ pushed) = not (is_part s) && are_partless pushed

abbrev pub is_fit_row : Symbol → Option (List Symbol) → Bool
is_fit_row s None = true
is_fit_row s (Some pushed) = may_part s || are_partless pushed

-- each row of the table keeps it
pub fit_rows : (s : Symbol) (k : WordKind) → is_fit_row s (starts s k) ≡ true
fit_rows = every_row (λ s k. is_fit_row s (starts s k)) refl
