-- Drafts of layers whose properties are proper so far.
use Rattle.std.specs.Prelude.{◌≡◌, ◌≤◌, ◌^◌, Bool, true, false, List, Ok, unsigned_abs}
use Rattle.std.specs.Str.{is_utf8}
use Rattle.sdf_paths.specs.declared.element.Element.{Element}
use Rattle.sdf_values.specs.declared.value.Value.{Value}
use Rattle.spec_parts.specs.declared.spec.Spec.{Spec}
use Rattle.spec_properties.specs.Properties.{AreProperties}
use Rattle.spec_properties.specs.declared.property.Property.{Property}
use Rattle.usda_grammar.specs.declared.kinds.Keyword.TheVariants as word
use Rattle.usda_grammar.specs.declared.kinds.WordKind.{WordKind}
use Rattle.usda_grammar.specs.declared.kinds.WordKind.TheVariants as token
use Rattle.usda_grammar.specs.declared.symbols.Symbol.{Symbol}
use Rattle.usda_grammar.specs.declared.symbols.Symbol.TheVariants as symbol
use Rattle.usda_lexer.specs.Meanings.{path_text}
use Rattle.usda_statements.specs.OpenValues.{is_open, given, value_in}
use Rattle.usda_statements.specs.PropertyDrafts.{is_in_hand}
use Rattle.usda_statements.specs.declared.open_value.OpenValue.{OpenValue}
use Rattle.usda_statements.specs.declared.property.PropertyDraft.{PropertyDraft}
use Rattle.usda_words.specs.Words.{Word}
use Rattle.usda_drafts.specs.declared.aim.Goal.{Goal}
use Rattle.usda_drafts.specs.declared.aim.Goal.TheVariants as goal
use Rattle.usda_drafts.specs.declared.draft.Draft.{Draft}
use Rattle.usda_drafts.specs.declared.draft.OpenList.{OpenList}
use Rattle.usda_drafts.specs.declared.draft.OpenList.TheVariants as open_list
use Rattle.usda_drafts.specs.declared.owner.Owner.{Owner}
use Rattle.layer_texts.specs.Writable.{is_word}
use Rattle.value_returns.specs.Proper.{IsProperProperty}
use Rattle.value_texts.specs.Each.{AreAll}
use Rattle.properties_read.specs.Sound.{IsSoundProperty, AreRead}
use Rattle.properties_read.specs.Targets.{Reading, closed, begun, bracketed}
use Rattle.properties_read.specs.Values.{IsValueOf}
use Rattle.layer_reads.specs.Properties.{is_any_key}
use Rattle.fields_read.specs.Laws.{IsReadFor}

-- no property is in hand, or one that is sound
abbrev pub IsSoundInHand : Reading → PropertyDraft → Type 0
IsSoundInHand r p = is_in_hand p ≡ true → IsSoundProperty r p

-- the properties of an owner that is open
abbrev pub IsReadOwner : Owner → Type 0
IsReadOwner o = AreRead o.properties o.marks

-- properties that are proper, each name once
pub record AreProper (properties : List Property) : Type 0 where
  pub once : AreProperties properties
  pub each : AreAll IsProperProperty properties

-- the properties of a prim or a variant that is closed
abbrev pub IsProperEntry : List Element × Spec → Type 0
IsProperEntry e = AreProper e.1.body.properties

-- A draft whose properties are proper so far: the one in hand, those of the owners that are open, and those of the specs.
pub record HasSoundProperties (r : Reading) (d : Draft) : Type 0 where
  pub in_hand : IsSoundInHand r d.property
  pub owner : IsReadOwner d.owner
  pub outer : AreAll IsReadOwner d.outer
  pub specs : AreAll IsProperEntry d.specs

-- ---- values

-- a value that goes to the property in hand is of its type, its time is within 10^12, and the value of a key is one of it
abbrev pub IsFor : Goal → Value → Draft → Type 0
IsFor goal.Default v d = IsValueOf d.property.ty v
IsFor goal.Sample v d = (unsigned_abs d.aim.time ≤ 10 ^ 30) × IsValueOf d.property.ty v
IsFor goal.PropertyKey v d = IsReadFor is_any_key d.aim.key v
IsFor g v d = Unit {0}

-- where a word completes the value of a draft, the value is one for what it goes to
abbrev pub CompletesWell : Word → Draft → Type 0
CompletesWell w d = (v : OpenValue) → given d.owner.said.base w.token w.text d.value ≡ Ok v → is_open v ≡ false → IsFor d.aim.goal (value_in v) d

-- ---- words

-- a name of the text is one
abbrev pub IsNameWord : WordKind → Word → Type 0
IsNameWord (token.Word x) w = is_word w.text ≡ true
IsNameWord k w = Unit {0}

-- what a path of the text stands for is UTF-8
abbrev pub IsUtf8Path : WordKind → Word → Type 0
IsUtf8Path token.Path w = is_utf8 (path_text w.text) ≡ true
IsUtf8Path k w = Unit {0}

-- ---- lists

-- the paths of a list go to the property in hand
abbrev pub is_of_property : OpenList → Bool
is_of_property open_list.Property = true
is_of_property l = false

-- what is read of a list whose first word has this kind
abbrev pub behind_start : WordKind → Reading
behind_start token.OpenBracket = bracketed
behind_start k = closed

-- what is read of a list between its brackets behind a word of this kind
abbrev pub behind_part : WordKind → Reading
behind_part token.CloseBracket = closed
behind_part k = bracketed

-- what is read of a list behind the word that stands behind the `.` of an attribute
abbrev pub behind_dot : WordKind → Reading
behind_dot (token.Word word.Connect) = begun
behind_dot k = closed

-- ---- symbols

-- the symbols that take the words of lists
abbrev pub takes_lists : Symbol → Bool
takes_lists symbol.StringList = true
takes_lists symbol.StringsOrEnd = true
takes_lists symbol.MoreStrings = true
takes_lists symbol.PathList = true
takes_lists symbol.PathsOrEnd = true
takes_lists symbol.MorePaths = true
takes_lists symbol.ReferenceList = true
takes_lists symbol.ReferencesOrEnd = true
takes_lists symbol.MoreReferences = true
takes_lists s = false

-- the symbols that take a word that begins or ends a statement, names its property, or begins a list of it
abbrev pub takes_turns : Symbol → Bool
takes_turns symbol.PrimBody = true
takes_turns symbol.BodyEnd = true
takes_turns symbol.PropertyName = true
takes_turns symbol.AfterDot = true
takes_turns symbol.ConnectWord = true
takes_turns symbol.MaybeTargets = true
takes_turns s = false

-- the symbols that take the words of values
abbrev pub takes_values : Symbol → Bool
takes_values symbol.Value = true
takes_values symbol.MembersOrEnd = true
takes_values symbol.MoreMembers = true
takes_values symbol.ElementsOrEnd = true
takes_values symbol.MoreElements = true
takes_values symbol.Dictionary = true
takes_values symbol.DictionaryEntries = true
takes_values symbol.EntryKey = true
takes_values symbol.Equals = true
takes_values symbol.MaybeBrackets = true
takes_values symbol.CloseBracket = true
takes_values symbol.CloseBrace = true
takes_values symbol.MaybeSeparator = true
takes_values s = false
