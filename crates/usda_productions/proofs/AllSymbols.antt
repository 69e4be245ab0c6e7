-- What holds of each symbol of the grammar holds of all, and so with the rows of its table.
use Rattle.std.proofs.Common.{◌≡◌, ◌∙◌, ℕ, zero, suc, Bool, true, ◌&&◌, List, [], ◌∷◌, Option, Some, None, ap, sym, refl}
use Rattle.usda_grammar.specs.declared.symbols.Symbol.{Symbol}
use Rattle.usda_grammar.specs.declared.symbols.Symbol.TheVariants as symbol
use Rattle.usda_grammar.specs.declared.kinds.WordKind.{WordKind}
use Rattle.usda_grammar.proofs.AllKinds.{all, kinds, all_kinds-at, front, back}

abbrev pub symbols : List Symbol
symbols =
    symbol.Equals ∷ symbol.Colon ∷ symbol.Dot ∷ symbol.CloseParen ∷ symbol.OpenBrace ∷ symbol.CloseBrace ∷ symbol.CloseBracket ∷ symbol.RootPrims ∷ symbol.OffsetNumber ∷ symbol.BodyEnd ∷ symbol.PrimName ∷ symbol.SetName ∷ symbol.MaybeSemicolon ∷ symbol.MaybeHead ∷ symbol.HeadItems ∷ symbol.SubLayerList ∷ symbol.SubLayersOrEnd ∷ symbol.MoreSubLayers ∷ symbol.MaybeOffsets ∷ symbol.OffsetItems ∷ symbol.RootStatements ∷ symbol.MaybeTypeName ∷ symbol.MaybePrimMetadata ∷ symbol.PrimMetadata ∷ symbol.EditedField ∷ symbol.StringList ∷ symbol.StringsOrEnd ∷ symbol.MoreStrings ∷ symbol.PathList ∷ symbol.PathsOrEnd ∷ symbol.MorePaths ∷ symbol.ReferenceList ∷ symbol.ReferencesOrEnd ∷ symbol.MoreReferences ∷ symbol.MaybePath ∷ symbol.VariantList ∷ symbol.PrimBody ∷ symbol.AfterCustom ∷ symbol.AfterVariability ∷ symbol.AfterEdit ∷ symbol.AfterReorder ∷ symbol.AfterEditedCustom ∷ symbol.AfterEditedVariability ∷ symbol.MaybeBrackets ∷ symbol.PropertyName ∷ symbol.MaybeAttributeTail ∷ symbol.AfterDot ∷ symbol.ConnectWord ∷ symbol.SamplesOrEnd ∷ symbol.MoreSamples ∷ symbol.MaybeTargets ∷ symbol.MaybePropertyMetadata ∷ symbol.PropertyMetadata ∷ symbol.Value ∷ symbol.MembersOrEnd ∷ symbol.MoreMembers ∷ symbol.ElementsOrEnd ∷ symbol.MoreElements ∷ symbol.Dictionary ∷ symbol.DictionaryEntries ∷ symbol.EntryKey ∷ symbol.MaybeSeparator ∷ symbol.NameList ∷ symbol.NamesOrEnd ∷ symbol.MoreNames ∷ []

abbrev pub every : (Symbol → Bool) → List Symbol → Bool
every p [] = true
every p (s ∷ ss) = p s && every p ss

abbrev at : List Symbol → ℕ → Option Symbol
at [] n = None
at (s ∷ ss) zero = Some s
at (s ∷ ss) (suc n) = at ss n

every-at : (p : Symbol → Bool) (ss : List Symbol) → every p ss ≡ true → (n : ℕ) (s : Symbol) → at ss n ≡ Some s → p s ≡ true
every-at p [] e n s same = absurd cc
every-at p (x ∷ ss) e zero s same = let f : x ≡ s = cc in ap p (sym f) ∙ front (p x) (every p ss) e
every-at p (x ∷ ss) e (suc n) s same = every-at p ss (back (p x) (every p ss) e) n s same

-- a test that each symbol passes
pub every_symbol : (p : Symbol → Bool) → every p symbols ≡ true → (s : Symbol) → p s ≡ true
every_symbol p e symbol.Equals = every-at p symbols e 0 symbol.Equals refl
every_symbol p e symbol.Colon = every-at p symbols e 1 symbol.Colon refl
every_symbol p e symbol.Dot = every-at p symbols e 2 symbol.Dot refl
every_symbol p e symbol.CloseParen = every-at p symbols e 3 symbol.CloseParen refl
every_symbol p e symbol.OpenBrace = every-at p symbols e 4 symbol.OpenBrace refl
every_symbol p e symbol.CloseBrace = every-at p symbols e 5 symbol.CloseBrace refl
every_symbol p e symbol.CloseBracket = every-at p symbols e 6 symbol.CloseBracket refl
every_symbol p e symbol.RootPrims = every-at p symbols e 7 symbol.RootPrims refl
every_symbol p e symbol.OffsetNumber = every-at p symbols e 8 symbol.OffsetNumber refl
every_symbol p e symbol.BodyEnd = every-at p symbols e 9 symbol.BodyEnd refl
every_symbol p e symbol.PrimName = every-at p symbols e 10 symbol.PrimName refl
every_symbol p e symbol.SetName = every-at p symbols e 11 symbol.SetName refl
every_symbol p e symbol.MaybeSemicolon = every-at p symbols e 12 symbol.MaybeSemicolon refl
every_symbol p e symbol.MaybeHead = every-at p symbols e 13 symbol.MaybeHead refl
every_symbol p e symbol.HeadItems = every-at p symbols e 14 symbol.HeadItems refl
every_symbol p e symbol.SubLayerList = every-at p symbols e 15 symbol.SubLayerList refl
every_symbol p e symbol.SubLayersOrEnd = every-at p symbols e 16 symbol.SubLayersOrEnd refl
every_symbol p e symbol.MoreSubLayers = every-at p symbols e 17 symbol.MoreSubLayers refl
every_symbol p e symbol.MaybeOffsets = every-at p symbols e 18 symbol.MaybeOffsets refl
every_symbol p e symbol.OffsetItems = every-at p symbols e 19 symbol.OffsetItems refl
every_symbol p e symbol.RootStatements = every-at p symbols e 20 symbol.RootStatements refl
every_symbol p e symbol.MaybeTypeName = every-at p symbols e 21 symbol.MaybeTypeName refl
every_symbol p e symbol.MaybePrimMetadata = every-at p symbols e 22 symbol.MaybePrimMetadata refl
every_symbol p e symbol.PrimMetadata = every-at p symbols e 23 symbol.PrimMetadata refl
every_symbol p e symbol.EditedField = every-at p symbols e 24 symbol.EditedField refl
every_symbol p e symbol.StringList = every-at p symbols e 25 symbol.StringList refl
every_symbol p e symbol.StringsOrEnd = every-at p symbols e 26 symbol.StringsOrEnd refl
every_symbol p e symbol.MoreStrings = every-at p symbols e 27 symbol.MoreStrings refl
every_symbol p e symbol.PathList = every-at p symbols e 28 symbol.PathList refl
every_symbol p e symbol.PathsOrEnd = every-at p symbols e 29 symbol.PathsOrEnd refl
every_symbol p e symbol.MorePaths = every-at p symbols e 30 symbol.MorePaths refl
every_symbol p e symbol.ReferenceList = every-at p symbols e 31 symbol.ReferenceList refl
every_symbol p e symbol.ReferencesOrEnd = every-at p symbols e 32 symbol.ReferencesOrEnd refl
every_symbol p e symbol.MoreReferences = every-at p symbols e 33 symbol.MoreReferences refl
every_symbol p e symbol.MaybePath = every-at p symbols e 34 symbol.MaybePath refl
every_symbol p e symbol.VariantList = every-at p symbols e 35 symbol.VariantList refl
every_symbol p e symbol.PrimBody = every-at p symbols e 36 symbol.PrimBody refl
every_symbol p e symbol.AfterCustom = every-at p symbols e 37 symbol.AfterCustom refl
every_symbol p e symbol.AfterVariability = every-at p symbols e 38 symbol.AfterVariability refl
every_symbol p e symbol.AfterEdit = every-at p symbols e 39 symbol.AfterEdit refl
every_symbol p e symbol.AfterReorder = every-at p symbols e 40 symbol.AfterReorder refl
every_symbol p e symbol.AfterEditedCustom = every-at p symbols e 41 symbol.AfterEditedCustom refl
every_symbol p e symbol.AfterEditedVariability = every-at p symbols e 42 symbol.AfterEditedVariability refl
every_symbol p e symbol.MaybeBrackets = every-at p symbols e 43 symbol.MaybeBrackets refl
every_symbol p e symbol.PropertyName = every-at p symbols e 44 symbol.PropertyName refl
every_symbol p e symbol.MaybeAttributeTail = every-at p symbols e 45 symbol.MaybeAttributeTail refl
every_symbol p e symbol.AfterDot = every-at p symbols e 46 symbol.AfterDot refl
every_symbol p e symbol.ConnectWord = every-at p symbols e 47 symbol.ConnectWord refl
every_symbol p e symbol.SamplesOrEnd = every-at p symbols e 48 symbol.SamplesOrEnd refl
every_symbol p e symbol.MoreSamples = every-at p symbols e 49 symbol.MoreSamples refl
every_symbol p e symbol.MaybeTargets = every-at p symbols e 50 symbol.MaybeTargets refl
every_symbol p e symbol.MaybePropertyMetadata = every-at p symbols e 51 symbol.MaybePropertyMetadata refl
every_symbol p e symbol.PropertyMetadata = every-at p symbols e 52 symbol.PropertyMetadata refl
every_symbol p e symbol.Value = every-at p symbols e 53 symbol.Value refl
every_symbol p e symbol.MembersOrEnd = every-at p symbols e 54 symbol.MembersOrEnd refl
every_symbol p e symbol.MoreMembers = every-at p symbols e 55 symbol.MoreMembers refl
every_symbol p e symbol.ElementsOrEnd = every-at p symbols e 56 symbol.ElementsOrEnd refl
every_symbol p e symbol.MoreElements = every-at p symbols e 57 symbol.MoreElements refl
every_symbol p e symbol.Dictionary = every-at p symbols e 58 symbol.Dictionary refl
every_symbol p e symbol.DictionaryEntries = every-at p symbols e 59 symbol.DictionaryEntries refl
every_symbol p e symbol.EntryKey = every-at p symbols e 60 symbol.EntryKey refl
every_symbol p e symbol.MaybeSeparator = every-at p symbols e 61 symbol.MaybeSeparator refl
every_symbol p e symbol.NameList = every-at p symbols e 62 symbol.NameList refl
every_symbol p e symbol.NamesOrEnd = every-at p symbols e 63 symbol.NamesOrEnd refl
every_symbol p e symbol.MoreNames = every-at p symbols e 64 symbol.MoreNames refl

-- a test that each symbol passes with each kind of token
pub every_row : (p : Symbol → WordKind → Bool) → every (λ s. all (p s) kinds) symbols ≡ true → (s : Symbol) (k : WordKind) → p s k ≡ true
every_row p e s k = all_kinds-at (p s) (every_symbol (λ s. all (p s) kinds) e s) k
