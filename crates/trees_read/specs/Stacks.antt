-- What the symbols that are still to come tell of the prims and variants that are open.
use Rattle.std.specs.Prelude.{ℕ, ◌+◌, ◌≤◌, Bool, true, false, not, ◌&&◌, ◌||◌, List, [], ◌∷◌}
use Rattle.std.specs.List.{list_any}
use Rattle.usda_grammar.specs.declared.symbols.Symbol.{Symbol}
use Rattle.usda_grammar.specs.declared.symbols.Symbol.TheVariants as symbol

-- the symbol is the `}` of a prim or a variant
abbrev pub is_end : Symbol → Bool
is_end symbol.BodyEnd = true
is_end s = false

-- 1 for the `}` of a prim or a variant
abbrev pub end_of : Symbol → ℕ
end_of symbol.BodyEnd = 1
end_of s = 0

-- how many bodies are still to be closed
abbrev pub ends : List Symbol → ℕ
ends [] = 0
ends (s ∷ stack) = end_of s + ends stack

-- some body is still to be closed
abbrev pub has_end : List Symbol → Bool
has_end stack = list_any is_end stack

-- 1 for the name of a prim
abbrev pub name_of : Symbol → ℕ
name_of symbol.PrimName = 1
name_of s = 0

-- how many prims have begun whose names are still to come
abbrev pub names : List Symbol → ℕ
names [] = 0
names (s ∷ stack) = name_of s + names stack

-- of these symbols, and of those behind each of them, no more prims are to be named than bodies are to be closed
abbrev pub AreBalanced : List Symbol → Type 0
AreBalanced [] = Unit {0}
AreBalanced (s ∷ stack) = (names (s ∷ stack) ≤ ends (s ∷ stack)) × AreBalanced stack

-- the metadata or the body of a prim or a variant comes next
abbrev pub awaits_body : List Symbol → Bool
awaits_body (symbol.MaybePrimMetadata ∷ symbol.OpenBrace ∷ stack) = true
awaits_body stack = false

-- the symbol is the name of a prim
abbrev pub is_name : Symbol → Bool
is_name symbol.PrimName = true
is_name s = false

-- behind each name of a prim comes its metadata or its body
abbrev pub have_bodies : List Symbol → Bool
have_bodies [] = true
have_bodies (s ∷ stack) = (not (is_name s) || awaits_body stack) && have_bodies stack

-- 1 for a symbol with whose word a variant begins
abbrev pub variant_of : Symbol → ℕ
variant_of symbol.VariantList = 1
variant_of s = 0

-- the symbol stands in a body, up to the name of a property
abbrev pub is_in_body : Symbol → Bool
is_in_body symbol.PrimBody = true
is_in_body symbol.AfterCustom = true
is_in_body symbol.AfterVariability = true
is_in_body symbol.AfterEdit = true
is_in_body symbol.AfterReorder = true
is_in_body symbol.AfterEditedCustom = true
is_in_body symbol.AfterEditedVariability = true
is_in_body symbol.PropertyName = true
is_in_body s = false

-- each of these that stands in a body has its end among those behind it, or below them all
abbrev pub are_held : Bool → List Symbol → Bool
are_held below [] = true
are_held below (s ∷ stack) = (not (is_in_body s) || (has_end stack || below)) && are_held below stack

-- the words of these symbols are of no value: they begin, name or end a prim, a variant set or a variant, name a property, or are of a
-- list or begin one
abbrev pub is_of_statement : Symbol → Bool
is_of_statement symbol.RootStatements = true
is_of_statement symbol.PrimBody = true
is_of_statement symbol.PrimName = true
is_of_statement symbol.MaybePrimMetadata = true
is_of_statement symbol.OpenBrace = true
is_of_statement symbol.BodyEnd = true
is_of_statement symbol.SetName = true
is_of_statement symbol.VariantList = true
is_of_statement symbol.PropertyName = true
is_of_statement symbol.HeadItems = true
is_of_statement symbol.PrimMetadata = true
is_of_statement symbol.EditedField = true
is_of_statement symbol.MaybeTargets = true
is_of_statement symbol.AfterDot = true
is_of_statement symbol.ConnectWord = true
is_of_statement symbol.StringList = true
is_of_statement symbol.StringsOrEnd = true
is_of_statement symbol.MoreStrings = true
is_of_statement symbol.PathList = true
is_of_statement symbol.PathsOrEnd = true
is_of_statement symbol.MorePaths = true
is_of_statement symbol.ReferenceList = true
is_of_statement symbol.ReferencesOrEnd = true
is_of_statement symbol.MoreReferences = true
is_of_statement symbol.SubLayerList = true
is_of_statement symbol.SubLayersOrEnd = true
is_of_statement symbol.MoreSubLayers = true
is_of_statement s = false

-- the symbol opens the metadata or the body of a prim or a variant
abbrev pub is_opening : Symbol → Bool
is_opening symbol.MaybePrimMetadata = true
is_opening symbol.OpenBrace = true
is_opening s = false
