-- What may come next: the head of a prim, its metadata, and the lists that edit its fields. Written by tools/grammar.py.
use Rattle.std.specs.Prelude.{List, [], ◌∷◌, Option, Some, None}
use Rattle.usda_grammar.specs.declared.kinds.WordKind.{WordKind}
use Rattle.usda_grammar.specs.declared.kinds.WordKind.TheVariants as token
use Rattle.usda_grammar.specs.declared.kinds.Keyword.TheVariants as word
use Rattle.usda_grammar.specs.declared.symbols.Symbol.{Symbol}
use Rattle.usda_grammar.specs.declared.symbols.Symbol.TheVariants as symbol

-- the type of a prim, or nothing
abbrev pub maybe_type_name : WordKind → Option (List Symbol)
maybe_type_name (token.Word w) = Some ([])
maybe_type_name k = None

-- the metadata of a prim or a variant in brackets, or nothing
abbrev pub maybe_prim_metadata : WordKind → Option (List Symbol)
maybe_prim_metadata token.OpenParen = Some (symbol.PrimMetadata ∷ symbol.CloseParen ∷ [])
maybe_prim_metadata k = None

-- the metadata of a prim or a variant
abbrev pub prim_metadata : WordKind → Option (List Symbol)
prim_metadata (token.Word word.StringField) = Some (symbol.Equals ∷ symbol.StringList ∷ symbol.MaybeSemicolon ∷ symbol.PrimMetadata ∷ [])
prim_metadata (token.Word word.PathField) = Some (symbol.Equals ∷ symbol.PathList ∷ symbol.MaybeSemicolon ∷ symbol.PrimMetadata ∷ [])
prim_metadata (token.Word word.ReferenceField) = Some (symbol.Equals ∷ symbol.ReferenceList ∷ symbol.MaybeSemicolon ∷ symbol.PrimMetadata ∷ [])
prim_metadata (token.Word word.Edit) = Some (symbol.EditedField ∷ symbol.MaybeSemicolon ∷ symbol.PrimMetadata ∷ [])
prim_metadata (token.Word word.Reorder) = Some (symbol.EditedField ∷ symbol.MaybeSemicolon ∷ symbol.PrimMetadata ∷ [])
prim_metadata (token.Word word.Variants) = Some (symbol.Equals ∷ symbol.Dictionary ∷ symbol.MaybeSemicolon ∷ symbol.PrimMetadata ∷ [])
prim_metadata (token.Word w) = Some (symbol.Equals ∷ symbol.Value ∷ symbol.MaybeSemicolon ∷ symbol.PrimMetadata ∷ [])
prim_metadata token.Quoted = Some (symbol.MaybeSemicolon ∷ symbol.PrimMetadata ∷ [])
prim_metadata k = None

-- what follows an edit word: a field and its list, or the value of a key of that name
abbrev pub edited_field : WordKind → Option (List Symbol)
edited_field (token.Word word.StringField) = Some (symbol.Equals ∷ symbol.StringList ∷ [])
edited_field (token.Word word.PathField) = Some (symbol.Equals ∷ symbol.PathList ∷ [])
edited_field (token.Word word.ReferenceField) = Some (symbol.Equals ∷ symbol.ReferenceList ∷ [])
edited_field token.Equals = Some (symbol.Value ∷ [])
edited_field k = None

-- the strings of a list: none, one, or a list in brackets
abbrev pub string_list : WordKind → Option (List Symbol)
string_list (token.Word word.NoneWord) = Some ([])
string_list token.Quoted = Some ([])
string_list token.OpenBracket = Some (symbol.StringsOrEnd ∷ [])
string_list k = None

-- the next of the strings of a list, or the end of them
abbrev pub strings_or_end : WordKind → Option (List Symbol)
strings_or_end token.CloseBracket = Some ([])
strings_or_end token.Quoted = Some (symbol.MoreStrings ∷ [])
strings_or_end k = None

-- what follows one of the strings of a list
abbrev pub more_strings : WordKind → Option (List Symbol)
more_strings token.Comma = Some (symbol.StringsOrEnd ∷ [])
more_strings token.CloseBracket = Some ([])
more_strings k = None

-- the paths of a list: none, one, or a list in brackets
abbrev pub path_list : WordKind → Option (List Symbol)
path_list (token.Word word.NoneWord) = Some ([])
path_list token.Path = Some ([])
path_list token.OpenBracket = Some (symbol.PathsOrEnd ∷ [])
path_list k = None

-- the next of the paths of a list, or the end of them
abbrev pub paths_or_end : WordKind → Option (List Symbol)
paths_or_end token.CloseBracket = Some ([])
paths_or_end token.Path = Some (symbol.MorePaths ∷ [])
paths_or_end k = None

-- what follows one of the paths of a list
abbrev pub more_paths : WordKind → Option (List Symbol)
more_paths token.Comma = Some (symbol.PathsOrEnd ∷ [])
more_paths token.CloseBracket = Some ([])
more_paths k = None

-- the references or payloads of a list: none, one, or a list in brackets
abbrev pub reference_list : WordKind → Option (List Symbol)
reference_list (token.Word word.NoneWord) = Some ([])
reference_list token.Asset = Some (symbol.MaybePath ∷ symbol.MaybeOffsets ∷ [])
reference_list token.Path = Some (symbol.MaybeOffsets ∷ [])
reference_list token.OpenBracket = Some (symbol.ReferencesOrEnd ∷ [])
reference_list k = None

-- the next of the references or payloads of a list, or the end of them
abbrev pub references_or_end : WordKind → Option (List Symbol)
references_or_end token.CloseBracket = Some ([])
references_or_end token.Asset = Some (symbol.MaybePath ∷ symbol.MaybeOffsets ∷ symbol.MoreReferences ∷ [])
references_or_end token.Path = Some (symbol.MaybeOffsets ∷ symbol.MoreReferences ∷ [])
references_or_end k = None

-- what follows one of the references or payloads of a list
abbrev pub more_references : WordKind → Option (List Symbol)
more_references token.Comma = Some (symbol.ReferencesOrEnd ∷ [])
more_references token.CloseBracket = Some ([])
more_references k = None

-- the path of a prim behind an asset, or nothing
abbrev pub maybe_path : WordKind → Option (List Symbol)
maybe_path token.Path = Some ([])
maybe_path k = None

-- the variants of a set
abbrev pub variant_list : WordKind → Option (List Symbol)
variant_list token.Quoted = Some (symbol.MaybePrimMetadata ∷ symbol.OpenBrace ∷ symbol.PrimBody ∷ symbol.BodyEnd ∷ symbol.VariantList ∷ [])
variant_list k = None

-- the symbols of this part
abbrev pub prims_starts : Symbol → WordKind → Option (List Symbol)
prims_starts symbol.MaybeTypeName k = maybe_type_name k
prims_starts symbol.MaybePrimMetadata k = maybe_prim_metadata k
prims_starts symbol.PrimMetadata k = prim_metadata k
prims_starts symbol.EditedField k = edited_field k
prims_starts symbol.StringList k = string_list k
prims_starts symbol.StringsOrEnd k = strings_or_end k
prims_starts symbol.MoreStrings k = more_strings k
prims_starts symbol.PathList k = path_list k
prims_starts symbol.PathsOrEnd k = paths_or_end k
prims_starts symbol.MorePaths k = more_paths k
prims_starts symbol.ReferenceList k = reference_list k
prims_starts symbol.ReferencesOrEnd k = references_or_end k
prims_starts symbol.MoreReferences k = more_references k
prims_starts symbol.MaybePath k = maybe_path k
prims_starts symbol.VariantList k = variant_list k
prims_starts s k = None
