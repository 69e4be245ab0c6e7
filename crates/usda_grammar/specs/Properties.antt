-- What may come next: the body of a prim: properties, variant sets, orders and children. Written by tools/grammar.py.
use Rattle.std.specs.Prelude.{List, [], ◌∷◌, Option, Some, None}
use Rattle.usda_grammar.specs.declared.kinds.WordKind.{WordKind}
use Rattle.usda_grammar.specs.declared.kinds.WordKind.TheVariants as token
use Rattle.usda_grammar.specs.declared.kinds.Keyword.TheVariants as word
use Rattle.usda_grammar.specs.declared.symbols.Symbol.{Symbol}
use Rattle.usda_grammar.specs.declared.symbols.Symbol.TheVariants as symbol

-- the statements of a prim or a variant
abbrev pub prim_body : WordKind → Option (List Symbol)
prim_body (token.Word word.Specifier) = Some (symbol.MaybeTypeName ∷ symbol.PrimName ∷ symbol.MaybePrimMetadata ∷ symbol.OpenBrace ∷ symbol.PrimBody ∷ symbol.BodyEnd ∷ symbol.MaybeSemicolon ∷ symbol.PrimBody ∷ [])
prim_body (token.Word word.Edit) = Some (symbol.AfterEdit ∷ symbol.MaybeSemicolon ∷ symbol.PrimBody ∷ [])
prim_body (token.Word word.Reorder) = Some (symbol.AfterReorder ∷ symbol.MaybeSemicolon ∷ symbol.PrimBody ∷ [])
prim_body (token.Word word.VariantSet) = Some (symbol.SetName ∷ symbol.Equals ∷ symbol.OpenBrace ∷ symbol.VariantList ∷ symbol.CloseBrace ∷ symbol.MaybeSemicolon ∷ symbol.PrimBody ∷ [])
prim_body (token.Word word.Custom) = Some (symbol.AfterCustom ∷ symbol.MaybeSemicolon ∷ symbol.PrimBody ∷ [])
prim_body (token.Word word.Variability) = Some (symbol.AfterVariability ∷ symbol.MaybeSemicolon ∷ symbol.PrimBody ∷ [])
prim_body (token.Word word.Rel) = Some (symbol.PropertyName ∷ symbol.MaybeTargets ∷ symbol.MaybePropertyMetadata ∷ symbol.MaybeSemicolon ∷ symbol.PrimBody ∷ [])
prim_body (token.Word w) = Some (symbol.MaybeBrackets ∷ symbol.PropertyName ∷ symbol.MaybeAttributeTail ∷ symbol.MaybeSemicolon ∷ symbol.PrimBody ∷ [])
prim_body k = None

-- what follows `custom`
abbrev pub after_custom : WordKind → Option (List Symbol)
after_custom (token.Word word.Variability) = Some (symbol.AfterVariability ∷ [])
after_custom (token.Word word.Rel) = Some (symbol.PropertyName ∷ symbol.MaybeTargets ∷ symbol.MaybePropertyMetadata ∷ [])
after_custom (token.Word w) = Some (symbol.MaybeBrackets ∷ symbol.PropertyName ∷ symbol.MaybeAttributeTail ∷ [])
after_custom k = None

-- what follows `uniform` or `varying`
abbrev pub after_variability : WordKind → Option (List Symbol)
after_variability (token.Word word.Rel) = Some (symbol.PropertyName ∷ symbol.MaybeTargets ∷ symbol.MaybePropertyMetadata ∷ [])
after_variability (token.Word w) = Some (symbol.MaybeBrackets ∷ symbol.PropertyName ∷ symbol.MaybeAttributeTail ∷ [])
after_variability k = None

-- what follows an edit word
abbrev pub after_edit : WordKind → Option (List Symbol)
after_edit (token.Word word.Custom) = Some (symbol.AfterEditedCustom ∷ [])
after_edit (token.Word word.Variability) = Some (symbol.AfterEditedVariability ∷ [])
after_edit (token.Word word.Rel) = Some (symbol.PropertyName ∷ symbol.MaybeTargets ∷ symbol.MaybePropertyMetadata ∷ [])
after_edit (token.Word w) = Some (symbol.MaybeBrackets ∷ symbol.PropertyName ∷ symbol.Dot ∷ symbol.ConnectWord ∷ [])
after_edit k = None

-- what follows `reorder`
abbrev pub after_reorder : WordKind → Option (List Symbol)
after_reorder (token.Word word.OrderedField) = Some (symbol.Equals ∷ symbol.NameList ∷ [])
after_reorder (token.Word word.Custom) = Some (symbol.AfterEditedCustom ∷ [])
after_reorder (token.Word word.Variability) = Some (symbol.AfterEditedVariability ∷ [])
after_reorder (token.Word word.Rel) = Some (symbol.PropertyName ∷ symbol.MaybeTargets ∷ symbol.MaybePropertyMetadata ∷ [])
after_reorder (token.Word w) = Some (symbol.MaybeBrackets ∷ symbol.PropertyName ∷ symbol.Dot ∷ symbol.ConnectWord ∷ [])
after_reorder k = None

-- what follows an edit word and `custom`
abbrev pub after_edited_custom : WordKind → Option (List Symbol)
after_edited_custom (token.Word word.Variability) = Some (symbol.AfterEditedVariability ∷ [])
after_edited_custom (token.Word word.Rel) = Some (symbol.PropertyName ∷ symbol.MaybeTargets ∷ symbol.MaybePropertyMetadata ∷ [])
after_edited_custom (token.Word w) = Some (symbol.MaybeBrackets ∷ symbol.PropertyName ∷ symbol.Dot ∷ symbol.ConnectWord ∷ [])
after_edited_custom k = None

-- what follows an edit word and `uniform` or `varying`
abbrev pub after_edited_variability : WordKind → Option (List Symbol)
after_edited_variability (token.Word word.Rel) = Some (symbol.PropertyName ∷ symbol.MaybeTargets ∷ symbol.MaybePropertyMetadata ∷ [])
after_edited_variability (token.Word w) = Some (symbol.MaybeBrackets ∷ symbol.PropertyName ∷ symbol.Dot ∷ symbol.ConnectWord ∷ [])
after_edited_variability k = None

-- `[` and `]`, which make the type that of an array, or nothing
abbrev pub maybe_brackets : WordKind → Option (List Symbol)
maybe_brackets token.OpenBracket = Some (symbol.CloseBracket ∷ [])
maybe_brackets k = None

-- the name of a property
abbrev pub property_name : WordKind → Option (List Symbol)
property_name (token.Word w) = Some ([])
property_name k = None

-- the value of an attribute and its metadata, or its samples or connections, or nothing
abbrev pub maybe_attribute_tail : WordKind → Option (List Symbol)
maybe_attribute_tail token.Equals = Some (symbol.Value ∷ symbol.MaybePropertyMetadata ∷ [])
maybe_attribute_tail token.OpenParen = Some (symbol.PropertyMetadata ∷ symbol.CloseParen ∷ [])
maybe_attribute_tail token.Dot = Some (symbol.AfterDot ∷ [])
maybe_attribute_tail k = None

-- what follows the `.` behind an attribute's name
abbrev pub after_dot : WordKind → Option (List Symbol)
after_dot (token.Word word.TimeSamples) = Some (symbol.Equals ∷ symbol.OpenBrace ∷ symbol.SamplesOrEnd ∷ [])
after_dot (token.Word word.Connect) = Some (symbol.Equals ∷ symbol.PathList ∷ [])
after_dot (token.Word word.Spline) = Some ([])
after_dot k = None

-- what follows the `.` behind the name of an attribute that is edited
abbrev pub connect_word : WordKind → Option (List Symbol)
connect_word (token.Word word.Connect) = Some (symbol.Equals ∷ symbol.PathList ∷ [])
connect_word (token.Word word.Spline) = Some ([])
connect_word k = None

-- the next of the samples, or the end of them
abbrev pub samples_or_end : WordKind → Option (List Symbol)
samples_or_end token.CloseBrace = Some ([])
samples_or_end token.Number = Some (symbol.Colon ∷ symbol.Value ∷ symbol.MoreSamples ∷ [])
samples_or_end k = None

-- what follows one of the samples
abbrev pub more_samples : WordKind → Option (List Symbol)
more_samples token.Comma = Some (symbol.SamplesOrEnd ∷ [])
more_samples token.CloseBrace = Some ([])
more_samples k = None

-- the targets of a relationship, or nothing
abbrev pub maybe_targets : WordKind → Option (List Symbol)
maybe_targets token.Equals = Some (symbol.PathList ∷ [])
maybe_targets k = None

-- the metadata of a property in brackets, or nothing
abbrev pub maybe_property_metadata : WordKind → Option (List Symbol)
maybe_property_metadata token.OpenParen = Some (symbol.PropertyMetadata ∷ symbol.CloseParen ∷ [])
maybe_property_metadata k = None

-- the metadata of a property
abbrev pub property_metadata : WordKind → Option (List Symbol)
property_metadata (token.Word w) = Some (symbol.Equals ∷ symbol.Value ∷ symbol.MaybeSemicolon ∷ symbol.PropertyMetadata ∷ [])
property_metadata token.Quoted = Some (symbol.MaybeSemicolon ∷ symbol.PropertyMetadata ∷ [])
property_metadata k = None

-- the symbols of this part
abbrev pub properties_starts : Symbol → WordKind → Option (List Symbol)
properties_starts symbol.PrimBody k = prim_body k
properties_starts symbol.AfterCustom k = after_custom k
properties_starts symbol.AfterVariability k = after_variability k
properties_starts symbol.AfterEdit k = after_edit k
properties_starts symbol.AfterReorder k = after_reorder k
properties_starts symbol.AfterEditedCustom k = after_edited_custom k
properties_starts symbol.AfterEditedVariability k = after_edited_variability k
properties_starts symbol.MaybeBrackets k = maybe_brackets k
properties_starts symbol.PropertyName k = property_name k
properties_starts symbol.MaybeAttributeTail k = maybe_attribute_tail k
properties_starts symbol.AfterDot k = after_dot k
properties_starts symbol.ConnectWord k = connect_word k
properties_starts symbol.SamplesOrEnd k = samples_or_end k
properties_starts symbol.MoreSamples k = more_samples k
properties_starts symbol.MaybeTargets k = maybe_targets k
properties_starts symbol.MaybePropertyMetadata k = maybe_property_metadata k
properties_starts symbol.PropertyMetadata k = property_metadata k
properties_starts s k = None
