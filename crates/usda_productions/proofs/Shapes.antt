-- What each symbol of the table stands for.
use Rattle.std.specs.Prelude.{List, map}
use Rattle.usda_grammar.specs.declared.kinds.WordKind.TheVariants as token
use Rattle.usda_grammar.specs.declared.kinds.Keyword.TheVariants as word
use Rattle.usda_grammar.specs.declared.symbols.Symbol.{Symbol}
use Rattle.usda_grammar.specs.declared.symbols.Symbol.TheVariants as symbol
use Rattle.usda_productions.specs.Tokens.{is_key}
use Rattle.usda_productions.specs.Forms.{root_statement, head_item, sublayer_list, sublayer, offset_item, prim_item, edited_field, string_list, path_list, reference_list, reference, statement, variant, after_reorder, after_edit, after_edited_custom, after_edited_variability, after_custom, after_variability, after_dot, edited_dot, sample, property_item, value, dictionary, entry, name_list, Form, one, rule, maybe, many, more, nil, ◌▹◌, tok, wrd, any_name, listed, equals, colon, dot, close_paren, close_brace, semicolon, open_brace, body_end, in_brackets, array_mark}
use Rattle.usda_productions.specs.Rules.{attribute_tail, separator}

abbrev pub form : Symbol → Form
form symbol.Equals = equals
form symbol.Colon = colon
form symbol.Dot = dot
form symbol.CloseParen = close_paren
form symbol.OpenBrace = open_brace
form symbol.CloseBrace = close_brace
form symbol.CloseBracket = tok symbol.CloseBracket token.CloseBracket
form symbol.RootPrims = wrd symbol.RootPrims word.RootPrims
form symbol.OffsetNumber = tok symbol.OffsetNumber token.Number
form symbol.BodyEnd = body_end
form symbol.PrimName = tok symbol.PrimName token.Quoted
form symbol.SetName = tok symbol.SetName token.Quoted
form symbol.MaybeSemicolon = semicolon
form symbol.MaybeHead = in_brackets symbol.MaybeHead head_item
form symbol.HeadItems = many (rule head_item ▹ nil)
form symbol.SubLayerList = rule sublayer_list
form symbol.SubLayersOrEnd = listed symbol.SubLayersOrEnd symbol.MoreSubLayers (rule sublayer) token.CloseBracket
form symbol.MoreSubLayers = more symbol.SubLayersOrEnd symbol.MoreSubLayers (rule sublayer) token.CloseBracket
form symbol.MaybeOffsets = in_brackets symbol.MaybeOffsets offset_item
form symbol.OffsetItems = many (rule offset_item ▹ nil)
form symbol.RootStatements = many (rule root_statement ▹ nil)
form symbol.MaybeTypeName = maybe (any_name symbol.MaybeTypeName ▹ nil)
form symbol.MaybePrimMetadata = in_brackets symbol.MaybePrimMetadata prim_item
form symbol.PrimMetadata = many (rule prim_item ▹ nil)
form symbol.EditedField = rule edited_field
form symbol.StringList = rule string_list
form symbol.StringsOrEnd = listed symbol.StringsOrEnd symbol.MoreStrings (tok symbol.StringsOrEnd token.Quoted) token.CloseBracket
form symbol.MoreStrings = more symbol.StringsOrEnd symbol.MoreStrings (tok symbol.StringsOrEnd token.Quoted) token.CloseBracket
form symbol.PathList = rule path_list
form symbol.PathsOrEnd = listed symbol.PathsOrEnd symbol.MorePaths (tok symbol.PathsOrEnd token.Path) token.CloseBracket
form symbol.MorePaths = more symbol.PathsOrEnd symbol.MorePaths (tok symbol.PathsOrEnd token.Path) token.CloseBracket
form symbol.ReferenceList = rule reference_list
form symbol.ReferencesOrEnd = listed symbol.ReferencesOrEnd symbol.MoreReferences (rule (reference symbol.ReferencesOrEnd)) token.CloseBracket
form symbol.MoreReferences = more symbol.ReferencesOrEnd symbol.MoreReferences (rule (reference symbol.ReferencesOrEnd)) token.CloseBracket
form symbol.MaybePath = maybe (tok symbol.MaybePath token.Path ▹ nil)
form symbol.VariantList = many (rule variant ▹ nil)
form symbol.PrimBody = many (rule statement ▹ nil)
form symbol.AfterCustom = rule after_custom
form symbol.AfterVariability = rule after_variability
form symbol.AfterEdit = rule after_edit
form symbol.AfterReorder = rule after_reorder
form symbol.AfterEditedCustom = rule after_edited_custom
form symbol.AfterEditedVariability = rule after_edited_variability
form symbol.MaybeBrackets = array_mark
form symbol.PropertyName = any_name symbol.PropertyName
form symbol.MaybeAttributeTail = attribute_tail
form symbol.AfterDot = rule after_dot
form symbol.ConnectWord = rule edited_dot
form symbol.SamplesOrEnd = listed symbol.SamplesOrEnd symbol.MoreSamples (rule sample) token.CloseBrace
form symbol.MoreSamples = more symbol.SamplesOrEnd symbol.MoreSamples (rule sample) token.CloseBrace
form symbol.MaybeTargets = maybe (tok symbol.MaybeTargets token.Equals ▹ rule path_list ▹ nil)
form symbol.MaybePropertyMetadata = in_brackets symbol.MaybePropertyMetadata property_item
form symbol.PropertyMetadata = many (rule property_item ▹ nil)
form symbol.Value = rule (value symbol.Value)
form symbol.MembersOrEnd = listed symbol.MembersOrEnd symbol.MoreMembers (rule (value symbol.MembersOrEnd)) token.CloseParen
form symbol.MoreMembers = more symbol.MembersOrEnd symbol.MoreMembers (rule (value symbol.MembersOrEnd)) token.CloseParen
form symbol.ElementsOrEnd = listed symbol.ElementsOrEnd symbol.MoreElements (rule (value symbol.ElementsOrEnd)) token.CloseBracket
form symbol.MoreElements = more symbol.ElementsOrEnd symbol.MoreElements (rule (value symbol.ElementsOrEnd)) token.CloseBracket
form symbol.Dictionary = rule (dictionary symbol.Dictionary)
form symbol.DictionaryEntries = many (rule entry ▹ nil)
form symbol.EntryKey = one symbol.EntryKey is_key
form symbol.MaybeSeparator = separator
form symbol.NameList = rule name_list
form symbol.NamesOrEnd = listed symbol.NamesOrEnd symbol.MoreNames (tok symbol.NamesOrEnd token.Quoted) token.CloseBracket
form symbol.MoreNames = more symbol.NamesOrEnd symbol.MoreNames (tok symbol.NamesOrEnd token.Quoted) token.CloseBracket

abbrev pub forms : List Symbol → List Form
forms ss = map form ss
