-- The productions of the grammar, and by which symbol each of their words is acted on.
--
-- The symbol that stands with a word says what the word adds to the layer that is read (`usda_drafts`, specs/Acts.antt), or why it
-- is refused there. The words of a value go to the value in hand, which is complete with its last word.
use Rattle.std.specs.Prelude.{List, [], ◌∷◌}
use Rattle.usda_grammar.specs.declared.kinds.WordKind.TheVariants as token
use Rattle.usda_grammar.specs.declared.kinds.Keyword.TheVariants as word
use Rattle.usda_grammar.specs.declared.symbols.Symbol.TheVariants as symbol
use Rattle.usda_productions.specs.Tokens.{is_edit_word, is_key, is_literal, is_separator}
use Rattle.usda_productions.specs.Forms.{Rule, root_statement, head_item, sublayer_list, sublayer, offset_item, prim, prim_item, edited_field, field, string_list, path_list, reference_list, reference, statement, variant_set, variant, relationship, after_reorder, after_edit, after_edited_custom, after_edited_variability, after_custom, after_variability, after_dot, edited_dot, sample, property_item, value, dictionary, entry, name_list, Form, one, rule, maybe, many, more, Seq, nil, ◌▹◌, ◌∣◌, tok, wrd, any_name, name_but, listed, equals, colon, dot, close_paren, close_brace, semicolon, open_brace, body_end, in_brackets, array_mark}

-- What stands behind an attribute's name: a value and metadata, metadata alone, samples or connections, or nothing. The `=` begins
-- the default of the attribute.
abbrev pub attribute_tail : Form
attribute_tail =
    maybe (tok symbol.MaybeAttributeTail token.Equals ▹ rule (value symbol.Value) ▹ in_brackets symbol.MaybePropertyMetadata property_item ▹ nil
    ∣ tok symbol.MaybeAttributeTail token.OpenParen ▹ many (rule property_item ▹ nil) ▹ close_paren ▹ nil
    ∣ tok symbol.MaybeAttributeTail token.Dot ▹ rule after_dot ▹ nil)

-- behind a dictionary's entry
abbrev pub separator : Form
separator = maybe (one symbol.MaybeSeparator is_separator ▹ nil)

-- A `;` may stand once behind each statement. Where a production has a word of its own, the word is that one and no name.
abbrev pub rules : Rule → Seq
-- a root prim, or the order of the root prims, which `rootPrims` begins
rules root_statement =
    rule (prim symbol.RootStatements) ▹ semicolon ▹ nil
    ∣ wrd symbol.RootStatements word.Reorder ▹ wrd symbol.RootPrims word.RootPrims ▹ equals ▹ rule name_list ▹ semicolon ▹ nil
-- metadata of the layer: a comment, the sublayers, or a key, which its value follows
rules head_item =
    tok symbol.HeadItems token.Quoted ▹ semicolon ▹ nil
    ∣ wrd symbol.HeadItems word.SubLayers ▹ equals ▹ rule sublayer_list ▹ semicolon ▹ nil
    ∣ name_but symbol.HeadItems (word.SubLayers ∷ []) ▹ equals ▹ rule (value symbol.Value) ▹ semicolon ▹ nil
rules sublayer_list = tok symbol.SubLayerList token.OpenBracket ▹ listed symbol.SubLayersOrEnd symbol.MoreSubLayers (rule sublayer) token.CloseBracket ▹ nil
-- one more sublayer, and perhaps its offset and scale
rules sublayer = tok symbol.SubLayersOrEnd token.Asset ▹ in_brackets symbol.MaybeOffsets offset_item ▹ nil
-- `offset` or `scale`, and the number that the last item of the list gets; another key is refused by what it says
rules offset_item = any_name symbol.OffsetItems ▹ equals ▹ tok symbol.OffsetNumber token.Number ▹ semicolon ▹ nil
-- Specifier, type, name, metadata and body. The specifier and the type are kept for the prim that its name begins, inside what it
-- stands in; its `}` ends it.
rules (prim here) = wrd here word.Specifier ▹ maybe (any_name symbol.MaybeTypeName ▹ nil) ▹ tok symbol.PrimName token.Quoted ▹ in_brackets symbol.MaybePrimMetadata prim_item ▹ open_brace ▹ many (rule statement ▹ nil) ▹ body_end ▹ nil
-- metadata of a prim: a comment, an edit of a field, a field, which is set, the chosen variants, or a key, which its value follows
rules prim_item =
    tok symbol.PrimMetadata token.Quoted ▹ semicolon ▹ nil
    ∣ one symbol.PrimMetadata is_edit_word ▹ rule edited_field ▹ semicolon ▹ nil
    ∣ rule (field symbol.PrimMetadata) ▹ semicolon ▹ nil
    ∣ wrd symbol.PrimMetadata word.Variants ▹ equals ▹ rule (dictionary symbol.Dictionary) ▹ semicolon ▹ nil
    ∣ name_but symbol.PrimMetadata (word.Edit ∷ word.Reorder ∷ word.Variants ∷ word.StringField ∷ word.PathField ∷ word.ReferenceField ∷ []) ▹ equals ▹ rule (value symbol.Value) ▹ semicolon ▹ nil
-- behind an edit word: a field, which is edited so, or the value of a key of that name, which its `=` begins
rules edited_field =
    rule (field symbol.EditedField) ▹ nil
    ∣ tok symbol.EditedField token.Equals ▹ rule (value symbol.Value) ▹ nil
-- a field, of which a list is begun
rules (field here) =
    wrd here word.StringField ▹ equals ▹ rule string_list ▹ nil
    ∣ wrd here word.PathField ▹ equals ▹ rule path_list ▹ nil
    ∣ wrd here word.ReferenceField ▹ equals ▹ rule reference_list ▹ nil
-- none, one, or a list in brackets; each item is one more of the list that is begun, and the `]` ends it
rules string_list =
    wrd symbol.StringList word.NoneWord ▹ nil
    ∣ tok symbol.StringList token.Quoted ▹ nil
    ∣ tok symbol.StringList token.OpenBracket ▹ listed symbol.StringsOrEnd symbol.MoreStrings (tok symbol.StringsOrEnd token.Quoted) token.CloseBracket ▹ nil
rules path_list =
    wrd symbol.PathList word.NoneWord ▹ nil
    ∣ tok symbol.PathList token.Path ▹ nil
    ∣ tok symbol.PathList token.OpenBracket ▹ listed symbol.PathsOrEnd symbol.MorePaths (tok symbol.PathsOrEnd token.Path) token.CloseBracket ▹ nil
rules reference_list =
    wrd symbol.ReferenceList word.NoneWord ▹ nil
    ∣ rule (reference symbol.ReferenceList) ▹ nil
    ∣ tok symbol.ReferenceList token.OpenBracket ▹ listed symbol.ReferencesOrEnd symbol.MoreReferences (rule (reference symbol.ReferencesOrEnd)) token.CloseBracket ▹ nil
-- an asset, a path, or both: the path behind an asset is that of the same item
rules (reference here) =
    tok here token.Asset ▹ maybe (tok symbol.MaybePath token.Path ▹ nil) ▹ in_brackets symbol.MaybeOffsets offset_item ▹ nil
    ∣ tok here token.Path ▹ in_brackets symbol.MaybeOffsets offset_item ▹ nil
-- A statement of a prim or a variant: a child, a variant set, or what begins with an edit word, a flag, `rel` or a type. Its first
-- word ends the statement before; flag, type and `[]` are kept for the property that its name begins.
rules statement =
    rule (prim symbol.PrimBody) ▹ semicolon ▹ nil
    ∣ rule variant_set ▹ semicolon ▹ nil
    ∣ wrd symbol.PrimBody word.Reorder ▹ rule after_reorder ▹ semicolon ▹ nil
    ∣ wrd symbol.PrimBody word.Edit ▹ rule after_edit ▹ semicolon ▹ nil
    ∣ wrd symbol.PrimBody word.Custom ▹ rule after_custom ▹ semicolon ▹ nil
    ∣ wrd symbol.PrimBody word.Variability ▹ rule after_variability ▹ semicolon ▹ nil
    ∣ rule (relationship symbol.PrimBody) ▹ semicolon ▹ nil
    ∣ name_but symbol.PrimBody (word.Specifier ∷ word.VariantSet ∷ word.Reorder ∷ word.Edit ∷ word.Custom ∷ word.Variability ∷ word.Rel ∷ []) ▹ array_mark ▹ any_name symbol.PropertyName ▹ attribute_tail ▹ semicolon ▹ nil
-- the name begins a set of variants
rules variant_set = wrd symbol.PrimBody word.VariantSet ▹ tok symbol.SetName token.Quoted ▹ equals ▹ open_brace ▹ many (rule variant ▹ nil) ▹ close_brace ▹ nil
-- the name begins a variant of the set, and its `}` ends it
rules variant = tok symbol.VariantList token.Quoted ▹ in_brackets symbol.MaybePrimMetadata prim_item ▹ open_brace ▹ many (rule statement ▹ nil) ▹ body_end ▹ nil
-- the name begins the relationship, and the `=` its targets
rules (relationship here) = wrd here word.Rel ▹ any_name symbol.PropertyName ▹ maybe (tok symbol.MaybeTargets token.Equals ▹ rule path_list ▹ nil) ▹ in_brackets symbol.MaybePropertyMetadata property_item ▹ nil
-- an order of names, or an edit
rules after_reorder =
    wrd symbol.AfterReorder word.OrderedField ▹ equals ▹ rule name_list ▹ nil
    ∣ wrd symbol.AfterReorder word.Custom ▹ rule after_edited_custom ▹ nil
    ∣ wrd symbol.AfterReorder word.Variability ▹ rule after_edited_variability ▹ nil
    ∣ rule (relationship symbol.AfterReorder) ▹ nil
    ∣ name_but symbol.AfterReorder (word.OrderedField ∷ word.Custom ∷ word.Variability ∷ word.Rel ∷ []) ▹ array_mark ▹ any_name symbol.PropertyName ▹ dot ▹ rule edited_dot ▹ nil
-- an edit of a relationship's targets, or of an attribute's connections
rules after_edit =
    wrd symbol.AfterEdit word.Custom ▹ rule after_edited_custom ▹ nil
    ∣ wrd symbol.AfterEdit word.Variability ▹ rule after_edited_variability ▹ nil
    ∣ rule (relationship symbol.AfterEdit) ▹ nil
    ∣ name_but symbol.AfterEdit (word.Custom ∷ word.Variability ∷ word.Rel ∷ []) ▹ array_mark ▹ any_name symbol.PropertyName ▹ dot ▹ rule edited_dot ▹ nil
rules after_edited_custom =
    wrd symbol.AfterEditedCustom word.Variability ▹ rule after_edited_variability ▹ nil
    ∣ rule (relationship symbol.AfterEditedCustom) ▹ nil
    ∣ name_but symbol.AfterEditedCustom (word.Variability ∷ word.Rel ∷ []) ▹ array_mark ▹ any_name symbol.PropertyName ▹ dot ▹ rule edited_dot ▹ nil
rules after_edited_variability =
    rule (relationship symbol.AfterEditedVariability) ▹ nil
    ∣ name_but symbol.AfterEditedVariability (word.Rel ∷ []) ▹ array_mark ▹ any_name symbol.PropertyName ▹ dot ▹ rule edited_dot ▹ nil
-- a relationship or an attribute
rules after_custom =
    wrd symbol.AfterCustom word.Variability ▹ rule after_variability ▹ nil
    ∣ rule (relationship symbol.AfterCustom) ▹ nil
    ∣ name_but symbol.AfterCustom (word.Variability ∷ word.Rel ∷ []) ▹ array_mark ▹ any_name symbol.PropertyName ▹ attribute_tail ▹ nil
rules after_variability =
    rule (relationship symbol.AfterVariability) ▹ nil
    ∣ name_but symbol.AfterVariability (word.Rel ∷ []) ▹ array_mark ▹ any_name symbol.PropertyName ▹ attribute_tail ▹ nil
-- samples or connections, which the word begins; `spline` is refused by what it says
rules after_dot =
    wrd symbol.AfterDot word.TimeSamples ▹ equals ▹ open_brace ▹ listed symbol.SamplesOrEnd symbol.MoreSamples (rule sample) token.CloseBrace ▹ nil
    ∣ wrd symbol.AfterDot word.Connect ▹ equals ▹ rule path_list ▹ nil
    ∣ wrd symbol.AfterDot word.Spline ▹ nil
rules edited_dot =
    wrd symbol.ConnectWord word.Connect ▹ equals ▹ rule path_list ▹ nil
    ∣ wrd symbol.ConnectWord word.Spline ▹ nil
-- a time, and the value at it
rules sample = tok symbol.SamplesOrEnd token.Number ▹ colon ▹ rule (value symbol.Value) ▹ nil
-- metadata of a property: a comment, or a key, which its value follows
rules property_item =
    tok symbol.PropertyMetadata token.Quoted ▹ semicolon ▹ nil
    ∣ any_name symbol.PropertyMetadata ▹ equals ▹ rule (value symbol.Value) ▹ semicolon ▹ nil
-- One word, a tuple of one member at least, an array, or a dictionary. The first word of a value begins it, and each word up to its
-- last is one more of it, whatever the symbol.
rules (value here) =
    one here is_literal ▹ nil
    ∣ tok here token.OpenParen ▹ rule (value symbol.Value) ▹ more symbol.MembersOrEnd symbol.MoreMembers (rule (value symbol.MembersOrEnd)) token.CloseParen ▹ nil
    ∣ tok here token.OpenBracket ▹ listed symbol.ElementsOrEnd symbol.MoreElements (rule (value symbol.ElementsOrEnd)) token.CloseBracket ▹ nil
    ∣ rule (dictionary here) ▹ nil
rules (dictionary here) = tok here token.OpenBrace ▹ many (rule entry ▹ nil) ▹ close_brace ▹ nil
-- type, key and value
rules entry =
    wrd symbol.DictionaryEntries word.Dictionary ▹ one symbol.EntryKey is_key ▹ equals ▹ rule (value symbol.Value) ▹ separator ▹ nil
    ∣ name_but symbol.DictionaryEntries (word.Dictionary ∷ []) ▹ array_mark ▹ one symbol.EntryKey is_key ▹ equals ▹ rule (value symbol.Value) ▹ separator ▹ nil
-- each name is one more of the order that is begun
rules name_list = tok symbol.NameList token.OpenBracket ▹ listed symbol.NamesOrEnd symbol.MoreNames (tok symbol.NamesOrEnd token.Quoted) token.CloseBracket ▹ nil

-- a layer: its metadata in brackets, and its root prims
abbrev pub layer_forms : List Form
layer_forms = in_brackets symbol.MaybeHead head_item ∷ many (rule root_statement ▹ nil) ∷ []
