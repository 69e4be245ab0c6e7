-- What may come next: values, dictionaries and lists of names. Written by tools/grammar.py.
use Rattle.std.specs.Prelude.{List, [], ◌∷◌, Option, Some, None}
use Rattle.usda_grammar.specs.declared.kinds.WordKind.{WordKind}
use Rattle.usda_grammar.specs.declared.kinds.WordKind.TheVariants as token
use Rattle.usda_grammar.specs.declared.kinds.Keyword.TheVariants as word
use Rattle.usda_grammar.specs.declared.symbols.Symbol.{Symbol}
use Rattle.usda_grammar.specs.declared.symbols.Symbol.TheVariants as symbol

-- a value
abbrev pub value : WordKind → Option (List Symbol)
value (token.Word w) = Some ([])
value token.Number = Some ([])
value token.Quoted = Some ([])
value token.Asset = Some ([])
value token.Path = Some ([])
value token.OpenParen = Some (symbol.Value ∷ symbol.MoreMembers ∷ [])
value token.OpenBracket = Some (symbol.ElementsOrEnd ∷ [])
value token.OpenBrace = Some (symbol.DictionaryEntries ∷ symbol.CloseBrace ∷ [])
value k = None

-- the next of the members of a tuple, or the end of them
abbrev pub members_or_end : WordKind → Option (List Symbol)
members_or_end (token.Word w) = Some (symbol.MoreMembers ∷ [])
members_or_end token.CloseParen = Some ([])
members_or_end token.Number = Some (symbol.MoreMembers ∷ [])
members_or_end token.Quoted = Some (symbol.MoreMembers ∷ [])
members_or_end token.Asset = Some (symbol.MoreMembers ∷ [])
members_or_end token.Path = Some (symbol.MoreMembers ∷ [])
members_or_end token.OpenParen = Some (symbol.Value ∷ symbol.MoreMembers ∷ symbol.MoreMembers ∷ [])
members_or_end token.OpenBracket = Some (symbol.ElementsOrEnd ∷ symbol.MoreMembers ∷ [])
members_or_end token.OpenBrace = Some (symbol.DictionaryEntries ∷ symbol.CloseBrace ∷ symbol.MoreMembers ∷ [])
members_or_end k = None

-- what follows one of the members of a tuple
abbrev pub more_members : WordKind → Option (List Symbol)
more_members token.Comma = Some (symbol.MembersOrEnd ∷ [])
more_members token.CloseParen = Some ([])
more_members k = None

-- the next of the elements of an array, or the end of them
abbrev pub elements_or_end : WordKind → Option (List Symbol)
elements_or_end (token.Word w) = Some (symbol.MoreElements ∷ [])
elements_or_end token.CloseBracket = Some ([])
elements_or_end token.Number = Some (symbol.MoreElements ∷ [])
elements_or_end token.Quoted = Some (symbol.MoreElements ∷ [])
elements_or_end token.Asset = Some (symbol.MoreElements ∷ [])
elements_or_end token.Path = Some (symbol.MoreElements ∷ [])
elements_or_end token.OpenParen = Some (symbol.Value ∷ symbol.MoreMembers ∷ symbol.MoreElements ∷ [])
elements_or_end token.OpenBracket = Some (symbol.ElementsOrEnd ∷ symbol.MoreElements ∷ [])
elements_or_end token.OpenBrace = Some (symbol.DictionaryEntries ∷ symbol.CloseBrace ∷ symbol.MoreElements ∷ [])
elements_or_end k = None

-- what follows one of the elements of an array
abbrev pub more_elements : WordKind → Option (List Symbol)
more_elements token.Comma = Some (symbol.ElementsOrEnd ∷ [])
more_elements token.CloseBracket = Some ([])
more_elements k = None

-- a dictionary
abbrev pub dictionary : WordKind → Option (List Symbol)
dictionary token.OpenBrace = Some (symbol.DictionaryEntries ∷ symbol.CloseBrace ∷ [])
dictionary k = None

-- the entries of a dictionary
abbrev pub dictionary_entries : WordKind → Option (List Symbol)
dictionary_entries (token.Word word.Dictionary) = Some (symbol.EntryKey ∷ symbol.Equals ∷ symbol.Value ∷ symbol.MaybeSeparator ∷ symbol.DictionaryEntries ∷ [])
dictionary_entries (token.Word w) = Some (symbol.MaybeBrackets ∷ symbol.EntryKey ∷ symbol.Equals ∷ symbol.Value ∷ symbol.MaybeSeparator ∷ symbol.DictionaryEntries ∷ [])
dictionary_entries k = None

-- the key of an entry
abbrev pub entry_key : WordKind → Option (List Symbol)
entry_key (token.Word w) = Some ([])
entry_key token.Quoted = Some ([])
entry_key k = None

-- `;` or `,`, or nothing
abbrev pub maybe_separator : WordKind → Option (List Symbol)
maybe_separator token.Semicolon = Some ([])
maybe_separator token.Comma = Some ([])
maybe_separator k = None

-- a list of names in quotes
abbrev pub name_list : WordKind → Option (List Symbol)
name_list token.OpenBracket = Some (symbol.NamesOrEnd ∷ [])
name_list k = None

-- the next of the names, or the end of them
abbrev pub names_or_end : WordKind → Option (List Symbol)
names_or_end token.CloseBracket = Some ([])
names_or_end token.Quoted = Some (symbol.MoreNames ∷ [])
names_or_end k = None

-- what follows one of the names
abbrev pub more_names : WordKind → Option (List Symbol)
more_names token.Comma = Some (symbol.NamesOrEnd ∷ [])
more_names token.CloseBracket = Some ([])
more_names k = None

-- the symbols of this part
abbrev pub values_starts : Symbol → WordKind → Option (List Symbol)
values_starts symbol.Value k = value k
values_starts symbol.MembersOrEnd k = members_or_end k
values_starts symbol.MoreMembers k = more_members k
values_starts symbol.ElementsOrEnd k = elements_or_end k
values_starts symbol.MoreElements k = more_elements k
values_starts symbol.Dictionary k = dictionary k
values_starts symbol.DictionaryEntries k = dictionary_entries k
values_starts symbol.EntryKey k = entry_key k
values_starts symbol.MaybeSeparator k = maybe_separator k
values_starts symbol.NameList k = name_list k
values_starts symbol.NamesOrEnd k = names_or_end k
values_starts symbol.MoreNames k = more_names k
values_starts s k = None
