-- Why a word that is no value's may be refused as `Syntax` though some text of the grammar goes on with it.
use Rattle.std.specs.Prelude.{◌≡◌, ◌⊎◌, true, false, ◌&&◌, None, Err}
use Rattle.sdf_paths.specs.Paths.{is_property}
use Rattle.sdf_values.specs.declared.refusal.RefusalKind.TheVariants.{Syntax}
use Rattle.usd_names.specs.Names.{is_identifier}
use Rattle.usda_drafts.specs.Acts.{act}
use Rattle.usda_drafts.specs.declared.draft.Draft.{Draft}
use Rattle.usda_drafts.specs.declared.fault.Refused.{Refused}
use Rattle.usda_fields.specs.Fields.{given_at, text_field, path_field, reference_field}
use Rattle.usda_fields.specs.Names.{identifier_of, variant_of, has_variants}
use Rattle.usda_fields.specs.declared.field.ListField.TheVariants.{Paths, References, Texts}
use Rattle.usda_grammar.specs.declared.kinds.Keyword.TheVariants as word
use Rattle.usda_grammar.specs.declared.kinds.WordKind.{WordKind}
use Rattle.usda_grammar.specs.declared.kinds.WordKind.TheVariants as kind
use Rattle.usda_grammar.specs.declared.symbols.Symbol.{Symbol}
use Rattle.usda_grammar.specs.declared.symbols.Symbol.TheVariants as symbol
use Rattle.usda_lexer.specs.Meanings.{path_text}
use Rattle.usda_lists.specs.Edits.{clashes}
use Rattle.usda_lists.specs.Paths.{path_from}
use Rattle.usda_lists.specs.declared.edit.ListEdit.{ListEdit}
use Rattle.usda_lists.specs.declared.edit.ListEdit.TheVariants.{Explicit}
use Rattle.usda_statements.specs.OpenValues.{is_open}
use Rattle.usda_words.specs.Words.{Word}
use Rattle.text_syntax.specs.Open.{begins_value}

-- a path of a list that is none where this is the plain path of the prim that owns the statement
abbrev pub IsNoPathOfList : WordKind → Word → Draft → Type 0
IsNoPathOfList kind.Path w d = path_from d.owner.said.base (path_text w.text) ≡ None
IsNoPathOfList k w d = ⊥

-- the word of a field whose list is an edit beside an explicit list, or an explicit list beside edits
abbrev pub IsClash : ListEdit → WordKind → Word → Draft → Type 0
IsClash edit (kind.Word word.StringField) w d = clashes edit (given_at (Texts (text_field w.text)) d.owner.said.given) ≡ true
IsClash edit (kind.Word word.PathField) w d = clashes edit (given_at (Paths (path_field w.text)) d.owner.said.given) ≡ true
IsClash edit (kind.Word word.ReferenceField) w d = clashes edit (given_at (References (reference_field w.text)) d.owner.said.given) ≡ true
IsClash edit k w d = ⊥

-- the same of the connections or targets of the property in hand
abbrev pub IsPropertyClash : Draft → Type 0
IsPropertyClash d = clashes d.property.edit d.property.marks.lists ≡ true

-- the word `connect` before a list that does not go with those given of the attribute
abbrev pub IsConnectClash : WordKind → Draft → Type 0
IsConnectClash (kind.Word word.Connect) d = IsPropertyClash d
IsConnectClash k d = ⊥

-- The rule of a symbol that a word of this kind breaks: a name in quotes that is none, a path that is none, or lists that do not go
-- together. A draft whose innermost owner is a property, or whose variant set has no name, refuses the names below it as well; that no
-- text makes such a draft is not said here.
abbrev pub BreaksRule : Symbol → WordKind → Word → Draft → Type 0
BreaksRule symbol.PrimName k w d = (identifier_of w.text ≡ Err Syntax) ⊎ (is_property d.owner.said.path ≡ true)
BreaksRule symbol.SetName k w d = identifier_of w.text ≡ Err Syntax
BreaksRule symbol.VariantList k w d = (variant_of w.text ≡ Err Syntax) ⊎ ((has_variants d.owner.said.path && is_identifier d.owner.set) ≡ false)
BreaksRule symbol.StringList k w d = IsNoPathOfList k w d
BreaksRule symbol.StringsOrEnd k w d = IsNoPathOfList k w d
BreaksRule symbol.MoreStrings k w d = IsNoPathOfList k w d
BreaksRule symbol.PathList k w d = IsNoPathOfList k w d
BreaksRule symbol.PathsOrEnd k w d = IsNoPathOfList k w d
BreaksRule symbol.MorePaths k w d = IsNoPathOfList k w d
BreaksRule symbol.ReferenceList k w d = IsNoPathOfList k w d
BreaksRule symbol.ReferencesOrEnd k w d = IsNoPathOfList k w d
BreaksRule symbol.MoreReferences k w d = IsNoPathOfList k w d
BreaksRule symbol.MaybePath k w d = path_from d.owner.said.base (path_text w.text) ≡ None
BreaksRule symbol.PrimMetadata k w d = IsClash Explicit k w d
BreaksRule symbol.EditedField k w d = IsClash d.edit k w d
BreaksRule symbol.MaybeTargets k w d = IsPropertyClash d
BreaksRule symbol.AfterDot k w d = IsConnectClash k d
BreaksRule symbol.ConnectWord k w d = IsConnectClash k d
BreaksRule s k w d = ⊥

-- No other word is refused as `Syntax`, outside of values.
abbrev pub OtherWordsHaveRules : Type 0
OtherWordsHaveRules = (s : Symbol) (w : Word) (d : Draft) (r : Refused) → is_open d.value ≡ false → begins_value s ≡ false → act s w d ≡ Err r → r.kind ≡ Syntax → BreaksRule s w.kind w d
