-- Some text of each symbol. Written by tools/grammar.py.
use Rattle.std.proofs.Common.{List, [], ◌∷◌, ◌++◌, refl}
use Rattle.usda_grammar.specs.declared.kinds.WordKind.{WordKind}
use Rattle.usda_grammar.specs.declared.kinds.WordKind.TheVariants as token
use Rattle.usda_grammar.specs.declared.kinds.Keyword.TheVariants as word
use Rattle.usda_grammar.specs.declared.symbols.Symbol.{Symbol}
use Rattle.usda_grammar.specs.declared.symbols.Symbol.TheVariants as symbol
use Rattle.usda_grammar.specs.Derivations.{skips, takes, AreText}

abbrev pub shortest : Symbol → List WordKind
shortest symbol.Equals = token.Equals ∷ []
shortest symbol.Colon = token.Colon ∷ []
shortest symbol.Dot = token.Dot ∷ []
shortest symbol.CloseParen = token.CloseParen ∷ []
shortest symbol.OpenBrace = token.OpenBrace ∷ []
shortest symbol.CloseBrace = token.CloseBrace ∷ []
shortest symbol.CloseBracket = token.CloseBracket ∷ []
shortest symbol.RootPrims = (token.Word word.RootPrims) ∷ []
shortest symbol.OffsetNumber = token.Number ∷ []
shortest symbol.BodyEnd = token.CloseBrace ∷ []
shortest symbol.PrimName = token.Quoted ∷ []
shortest symbol.SetName = token.Quoted ∷ []
shortest symbol.SubLayerList = token.OpenBracket ∷ token.CloseBracket ∷ []
shortest symbol.SubLayersOrEnd = token.CloseBracket ∷ []
shortest symbol.MoreSubLayers = token.CloseBracket ∷ []
shortest symbol.EditedField = token.Equals ∷ (token.Word word.Specifier) ∷ []
shortest symbol.StringList = (token.Word word.NoneWord) ∷ []
shortest symbol.StringsOrEnd = token.CloseBracket ∷ []
shortest symbol.MoreStrings = token.CloseBracket ∷ []
shortest symbol.PathList = (token.Word word.NoneWord) ∷ []
shortest symbol.PathsOrEnd = token.CloseBracket ∷ []
shortest symbol.MorePaths = token.CloseBracket ∷ []
shortest symbol.ReferenceList = (token.Word word.NoneWord) ∷ []
shortest symbol.ReferencesOrEnd = token.CloseBracket ∷ []
shortest symbol.MoreReferences = token.CloseBracket ∷ []
shortest symbol.AfterCustom = (token.Word word.Rel) ∷ (token.Word word.Specifier) ∷ []
shortest symbol.AfterVariability = (token.Word word.Rel) ∷ (token.Word word.Specifier) ∷ []
shortest symbol.AfterEdit = (token.Word word.Rel) ∷ (token.Word word.Specifier) ∷ []
shortest symbol.AfterReorder = (token.Word word.Rel) ∷ (token.Word word.Specifier) ∷ []
shortest symbol.AfterEditedCustom = (token.Word word.Rel) ∷ (token.Word word.Specifier) ∷ []
shortest symbol.AfterEditedVariability = (token.Word word.Rel) ∷ (token.Word word.Specifier) ∷ []
shortest symbol.PropertyName = (token.Word word.Specifier) ∷ []
shortest symbol.AfterDot = (token.Word word.Spline) ∷ []
shortest symbol.ConnectWord = (token.Word word.Spline) ∷ []
shortest symbol.SamplesOrEnd = token.CloseBrace ∷ []
shortest symbol.MoreSamples = token.CloseBrace ∷ []
shortest symbol.Value = (token.Word word.Specifier) ∷ []
shortest symbol.MembersOrEnd = token.CloseParen ∷ []
shortest symbol.MoreMembers = token.CloseParen ∷ []
shortest symbol.ElementsOrEnd = token.CloseBracket ∷ []
shortest symbol.MoreElements = token.CloseBracket ∷ []
shortest symbol.Dictionary = token.OpenBrace ∷ token.CloseBrace ∷ []
shortest symbol.EntryKey = (token.Word word.Specifier) ∷ []
shortest symbol.NameList = token.OpenBracket ∷ token.CloseBracket ∷ []
shortest symbol.NamesOrEnd = token.CloseBracket ∷ []
shortest symbol.MoreNames = token.CloseBracket ∷ []
shortest s = []

-- what stands behind a symbol, with the symbol's text before it
pub with_shortest : (s : Symbol) (stack : List Symbol) (ks : List WordKind) → AreText stack ks → AreText (s ∷ stack) (shortest s ++ ks)
with_shortest symbol.Equals stack ks (d, h) = ((takes d), ([], refl, h))
with_shortest symbol.Colon stack ks (d, h) = ((takes d), ([], refl, h))
with_shortest symbol.Dot stack ks (d, h) = ((takes d), ([], refl, h))
with_shortest symbol.CloseParen stack ks (d, h) = ((takes d), ([], refl, h))
with_shortest symbol.OpenBrace stack ks (d, h) = ((takes d), ([], refl, h))
with_shortest symbol.CloseBrace stack ks (d, h) = ((takes d), ([], refl, h))
with_shortest symbol.CloseBracket stack ks (d, h) = ((takes d), ([], refl, h))
with_shortest symbol.RootPrims stack ks (d, h) = ((takes d), ([], refl, h))
with_shortest symbol.OffsetNumber stack ks (d, h) = ((takes d), ([], refl, h))
with_shortest symbol.BodyEnd stack ks (d, h) = ((takes d), ([], refl, h))
with_shortest symbol.PrimName stack ks (d, h) = ((takes d), ([], refl, h))
with_shortest symbol.SetName stack ks (d, h) = ((takes d), ([], refl, h))
with_shortest symbol.MaybeSemicolon stack ks (d, h) = ((skips d), (refl, h))
with_shortest symbol.MaybeHead stack ks (d, h) = ((skips d), (refl, h))
with_shortest symbol.HeadItems stack ks (d, h) = ((skips d), (refl, h))
with_shortest symbol.SubLayerList stack ks (d, h) = ((takes (takes d)), (symbol.SubLayersOrEnd ∷ [], refl, ([], refl, h)))
with_shortest symbol.SubLayersOrEnd stack ks (d, h) = ((takes d), ([], refl, h))
with_shortest symbol.MoreSubLayers stack ks (d, h) = ((takes d), ([], refl, h))
with_shortest symbol.MaybeOffsets stack ks (d, h) = ((skips d), (refl, h))
with_shortest symbol.OffsetItems stack ks (d, h) = ((skips d), (refl, h))
with_shortest symbol.RootStatements stack ks (d, h) = ((skips d), (refl, h))
with_shortest symbol.MaybeTypeName stack ks (d, h) = ((skips d), (refl, h))
with_shortest symbol.MaybePrimMetadata stack ks (d, h) = ((skips d), (refl, h))
with_shortest symbol.PrimMetadata stack ks (d, h) = ((skips d), (refl, h))
with_shortest symbol.EditedField stack ks (d, h) = ((takes (takes d)), (symbol.Value ∷ [], refl, ([], refl, h)))
with_shortest symbol.StringList stack ks (d, h) = ((takes d), ([], refl, h))
with_shortest symbol.StringsOrEnd stack ks (d, h) = ((takes d), ([], refl, h))
with_shortest symbol.MoreStrings stack ks (d, h) = ((takes d), ([], refl, h))
with_shortest symbol.PathList stack ks (d, h) = ((takes d), ([], refl, h))
with_shortest symbol.PathsOrEnd stack ks (d, h) = ((takes d), ([], refl, h))
with_shortest symbol.MorePaths stack ks (d, h) = ((takes d), ([], refl, h))
with_shortest symbol.ReferenceList stack ks (d, h) = ((takes d), ([], refl, h))
with_shortest symbol.ReferencesOrEnd stack ks (d, h) = ((takes d), ([], refl, h))
with_shortest symbol.MoreReferences stack ks (d, h) = ((takes d), ([], refl, h))
with_shortest symbol.MaybePath stack ks (d, h) = ((skips d), (refl, h))
with_shortest symbol.VariantList stack ks (d, h) = ((skips d), (refl, h))
with_shortest symbol.PrimBody stack ks (d, h) = ((skips d), (refl, h))
with_shortest symbol.AfterCustom stack ks (d, h) = ((takes (takes (skips (skips d)))), (symbol.PropertyName ∷ symbol.MaybeTargets ∷ symbol.MaybePropertyMetadata ∷ [], refl, ([], refl, (refl, (refl, h)))))
with_shortest symbol.AfterVariability stack ks (d, h) = ((takes (takes (skips (skips d)))), (symbol.PropertyName ∷ symbol.MaybeTargets ∷ symbol.MaybePropertyMetadata ∷ [], refl, ([], refl, (refl, (refl, h)))))
with_shortest symbol.AfterEdit stack ks (d, h) = ((takes (takes (skips (skips d)))), (symbol.PropertyName ∷ symbol.MaybeTargets ∷ symbol.MaybePropertyMetadata ∷ [], refl, ([], refl, (refl, (refl, h)))))
with_shortest symbol.AfterReorder stack ks (d, h) = ((takes (takes (skips (skips d)))), (symbol.PropertyName ∷ symbol.MaybeTargets ∷ symbol.MaybePropertyMetadata ∷ [], refl, ([], refl, (refl, (refl, h)))))
with_shortest symbol.AfterEditedCustom stack ks (d, h) = ((takes (takes (skips (skips d)))), (symbol.PropertyName ∷ symbol.MaybeTargets ∷ symbol.MaybePropertyMetadata ∷ [], refl, ([], refl, (refl, (refl, h)))))
with_shortest symbol.AfterEditedVariability stack ks (d, h) = ((takes (takes (skips (skips d)))), (symbol.PropertyName ∷ symbol.MaybeTargets ∷ symbol.MaybePropertyMetadata ∷ [], refl, ([], refl, (refl, (refl, h)))))
with_shortest symbol.MaybeBrackets stack ks (d, h) = ((skips d), (refl, h))
with_shortest symbol.PropertyName stack ks (d, h) = ((takes d), ([], refl, h))
with_shortest symbol.MaybeAttributeTail stack ks (d, h) = ((skips d), (refl, h))
with_shortest symbol.AfterDot stack ks (d, h) = ((takes d), ([], refl, h))
with_shortest symbol.ConnectWord stack ks (d, h) = ((takes d), ([], refl, h))
with_shortest symbol.SamplesOrEnd stack ks (d, h) = ((takes d), ([], refl, h))
with_shortest symbol.MoreSamples stack ks (d, h) = ((takes d), ([], refl, h))
with_shortest symbol.MaybeTargets stack ks (d, h) = ((skips d), (refl, h))
with_shortest symbol.MaybePropertyMetadata stack ks (d, h) = ((skips d), (refl, h))
with_shortest symbol.PropertyMetadata stack ks (d, h) = ((skips d), (refl, h))
with_shortest symbol.Value stack ks (d, h) = ((takes d), ([], refl, h))
with_shortest symbol.MembersOrEnd stack ks (d, h) = ((takes d), ([], refl, h))
with_shortest symbol.MoreMembers stack ks (d, h) = ((takes d), ([], refl, h))
with_shortest symbol.ElementsOrEnd stack ks (d, h) = ((takes d), ([], refl, h))
with_shortest symbol.MoreElements stack ks (d, h) = ((takes d), ([], refl, h))
with_shortest symbol.Dictionary stack ks (d, h) = ((takes (skips (takes d))), (symbol.DictionaryEntries ∷ symbol.CloseBrace ∷ [], refl, (refl, ([], refl, h))))
with_shortest symbol.DictionaryEntries stack ks (d, h) = ((skips d), (refl, h))
with_shortest symbol.EntryKey stack ks (d, h) = ((takes d), ([], refl, h))
with_shortest symbol.MaybeSeparator stack ks (d, h) = ((skips d), (refl, h))
with_shortest symbol.NameList stack ks (d, h) = ((takes (takes d)), (symbol.NamesOrEnd ∷ [], refl, ([], refl, h)))
with_shortest symbol.NamesOrEnd stack ks (d, h) = ((takes d), ([], refl, h))
with_shortest symbol.MoreNames stack ks (d, h) = ((takes d), ([], refl, h))
