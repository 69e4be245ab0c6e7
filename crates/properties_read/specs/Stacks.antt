-- The properties of a draft beside the symbols that are left to be read.
use Rattle.std.specs.Prelude.{◌≡◌, Bool, true, false, not, ◌&&◌, if◌then◌else◌, List, [], ◌∷◌, ◌++◌, Option, Some, None, Ok}
use Rattle.sdf_paths.specs.Paths.{IsPath}
use Rattle.usda_grammar.specs.Machine.{step}
use Rattle.usda_grammar.specs.Table.{layer}
use Rattle.usda_grammar.specs.declared.kinds.WordKind.{WordKind}
use Rattle.usda_grammar.specs.declared.symbols.Symbol.{Symbol}
use Rattle.usda_grammar.specs.declared.symbols.Symbol.TheVariants as symbol
use Rattle.usda_statements.specs.OpenValues.{is_open}
use Rattle.usda_values.specs.Drafts.{is_complete}
use Rattle.usda_values.specs.declared.draft.ValueDraft.{ValueDraft}
use Rattle.usda_words.specs.Words.{Word}
use Rattle.value_texts.specs.Following.{awaited, is_formed}
use Rattle.value_texts.specs.Each.{AreAll}
use Rattle.usda_drafts.specs.Acts.{act}
use Rattle.usda_drafts.specs.Drafts.{blank}
use Rattle.usda_drafts.specs.Values.{with_value_begun}
use Rattle.usda_drafts.specs.declared.draft.Draft.{Draft}
use Rattle.text_syntax.specs.Open.{begins_value}
use Rattle.properties_read.specs.Drafts.{IsProperEntry, HasSoundProperties, CompletesWell, IsNameWord, IsUtf8Path, is_of_property, takes_lists, takes_values}
use Rattle.properties_read.specs.Targets.{Reading, closed, begun, bracketed}

-- ---- stacks

-- the symbols that may stand above one that takes the words of a list: those of an item's path and offsets, and the `=` before the list
abbrev pub is_above : Symbol → Bool
is_above symbol.Equals = true
is_above symbol.MaybePath = true
is_above symbol.MaybeOffsets = true
is_above symbol.OffsetItems = true
is_above symbol.OffsetNumber = true
is_above symbol.MaybeSemicolon = true
is_above symbol.CloseParen = true
is_above s = false

-- none of these symbols takes the words of a list
abbrev pub has_no_list : List Symbol → Bool
has_no_list [] = true
has_no_list (s ∷ rest) = not (takes_lists s) && has_no_list rest

-- one list is open at most, and only such symbols stand above it
abbrev pub is_shaped : List Symbol → Bool
is_shaped [] = true
is_shaped (s ∷ rest) = if takes_lists s then has_no_list rest else if is_above s then is_shaped rest else has_no_list rest

-- the symbol that takes the next word of the list that is open, if one is
abbrev pub open_list_of : List Symbol → Option Symbol
open_list_of [] = None
open_list_of (s ∷ rest) = if takes_lists s then Some s else open_list_of rest

-- ---- drafts

-- what is read of a list, where it is one of the property in hand
abbrev pub if_of_property : Bool → Reading → Reading
if_of_property true r = r
if_of_property false r = closed

-- the properties of a draft are proper so far, where this symbol takes the next word of the list that is open
abbrev pub IsListRead : Option Symbol → Draft → Type 0
IsListRead None d = HasSoundProperties closed d
IsListRead (Some symbol.PathList) d = HasSoundProperties (if_of_property (is_of_property d.list) begun) d
IsListRead (Some symbol.PathsOrEnd) d = HasSoundProperties (if_of_property (is_of_property d.list) bracketed) d
IsListRead (Some symbol.MorePaths) d = HasSoundProperties (if_of_property (is_of_property d.list) bracketed) d
IsListRead (Some s) d = (is_of_property d.list ≡ false) × HasSoundProperties closed d

-- The properties of a draft are proper so far, where these symbols are left to be read, the innermost first.
pub record IsReading (stack : List Symbol) (d : Draft) : Type 0 where
  pub shaped : is_shaped stack ≡ true
  pub sound : IsListRead (open_list_of stack) d

-- ---- words

-- What is known of a word that a symbol takes: a name is one, a path is UTF-8, and where the word completes a value, the
-- value is one for what it goes to; and of the draft: the plain path of the prim that owns the statement is one, and while a value is open,
-- the symbol is one of values.
pub record IsReady (s : Symbol) (w : Word) (d : Draft) : Type 0 where
  pub name : IsNameWord w.kind w
  pub path : IsUtf8Path w.kind w
  pub base : IsPath d.owner.said.base
  pub apart : is_open d.value ≡ true → takes_values s ≡ true
  pub value : is_open d.value ≡ true → CompletesWell w d
  pub first : is_open d.value ≡ false → begins_value s ≡ true → CompletesWell w (with_value_begun d)

-- ---- the laws

-- while a value is open, each word is taken by a symbol of values, whatever stands below those that the value awaits
abbrev pub OpenValuesTakeTheirWords : Type 0
OpenValuesTakeTheirWords =
    (v : ValueDraft) (below after : List Symbol) (k : WordKind) (s : Symbol) → is_formed v ≡ true → is_complete v ≡ false → step (awaited v ++ below) k ≡ Some (s, after) → takes_values s ≡ true

-- From the first word of a text on, each word keeps the properties of the draft proper; so they are in the end.
pub record StepsKeepProperties : Type 0 where
  pub begins : IsReading layer blank
  pub kept : (stack after : List Symbol) (s : Symbol) (w : Word) (d next : Draft)
      → step stack w.kind ≡ Some (s, after) → act s w d ≡ Ok next → IsReady s w d → IsReading stack d → IsReading after next
  pub proper : (stack : List Symbol) (d : Draft) → IsReading stack d → AreAll IsProperEntry d.specs
