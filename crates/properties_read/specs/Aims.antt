-- What is expected of a value that goes to the property in hand.
use Rattle.std.specs.Prelude.{◌≡◌, ◌⊎◌, ◌≤◌, ◌^◌, Bool, true, false, not, ◌&&◌, ◌||◌, if◌then◌else◌, List, [], ◌∷◌, Some, Ok, unsigned_abs}
use Rattle.sdf_values.specs.declared.value.Value.{Value}
use Rattle.usda_fields.specs.Keys.{key_rule, rule_shape}
use Rattle.usda_grammar.specs.declared.kinds.WordKind.TheVariants as token
use Rattle.usda_grammar.specs.Machine.{step}
use Rattle.usda_grammar.specs.Table.{layer}
use Rattle.usda_grammar.specs.declared.symbols.Symbol.{Symbol}
use Rattle.usda_grammar.specs.declared.symbols.Symbol.TheVariants as symbol
use Rattle.usda_statements.specs.OpenValues.{is_open, given, value_in}
use Rattle.usda_statements.specs.declared.open_value.OpenValue.{OpenValue}
use Rattle.usda_drafts.specs.Acts.{act}
use Rattle.usda_drafts.specs.Drafts.{blank}
use Rattle.usda_values.specs.declared.shape.Shape.{Shape}
use Rattle.usda_values.specs.declared.shape.Shape.TheVariants.{Untyped}
use Rattle.usda_words.specs.Words.{Word}
use Rattle.usda_drafts.specs.Bodies.{tail_act, sample_act}
use Rattle.usda_drafts.specs.Metadata.{property_key_act}
use Rattle.usda_drafts.specs.Values.{shape_of}
use Rattle.usda_drafts.specs.declared.aim.Goal.{Goal}
use Rattle.usda_drafts.specs.declared.aim.Goal.TheVariants as goal
use Rattle.usda_drafts.specs.declared.draft.Draft.{Draft}
use Rattle.value_texts.specs.Readable.{is_read_as, depth}
use Rattle.value_texts.specs.Writable.{is_writable}
use Rattle.layer_texts.specs.Writable.{is_word}
use Rattle.text_checks.specs.Utf8.{is_utf8_value}
use Rattle.value_returns.specs.FullPaths.{has_full_paths}
use Rattle.properties_read.specs.Drafts.{IsFor, CompletesWell, IsNameWord}

-- A default and a sample are to be of the type of the property in hand, the time of a sample is within 10^12, and what is expected at a key
-- is what its rule says.
abbrev pub IsAimedAt : Goal → Draft → Type 0
IsAimedAt goal.Default d = d.aim.shape ≡ shape_of d.property.ty
IsAimedAt goal.Sample d = (d.aim.shape ≡ shape_of d.property.ty) × (unsigned_abs d.aim.time ≤ 10 ^ 30)
IsAimedAt goal.PropertyKey d = (d.aim.shape ≡ rule_shape (key_rule d.aim.key)) × (is_word d.aim.key ≡ true)
IsAimedAt g d = Unit {0}

-- what is expected of the next value of the draft fits what it goes to
abbrev pub IsAimed : Draft → Type 0
IsAimed d = IsAimedAt d.aim.goal d

-- ---- where a value comes next

-- the symbols of values: the first word of one, its members, elements and entries
abbrev pub is_of_value : Symbol → Bool
is_of_value symbol.Value = true
is_of_value symbol.Dictionary = true
is_of_value symbol.MembersOrEnd = true
is_of_value symbol.MoreMembers = true
is_of_value symbol.ElementsOrEnd = true
is_of_value symbol.MoreElements = true
is_of_value symbol.DictionaryEntries = true
is_of_value symbol.EntryKey = true
is_of_value symbol.MaybeSeparator = true
is_of_value s = false

-- the marks before values and behind them
abbrev pub is_mark : Symbol → Bool
is_mark symbol.Equals = true
is_mark symbol.Colon = true
is_mark symbol.CloseBrace = true
is_mark symbol.CloseBracket = true
is_mark symbol.MaybeBrackets = true
is_mark s = false

-- a value comes next or goes on, or does so behind such marks
abbrev pub awaits_value : List Symbol → Bool
awaits_value [] = false
awaits_value (s ∷ rest) = if is_of_value s then true else if is_mark s then awaits_value rest else false

-- the symbols behind which a value may come or go on
abbrev pub leads_to_value : Symbol → Bool
leads_to_value s = is_of_value s || is_mark s

-- behind no other symbol a value comes next
abbrev pub is_calm : List Symbol → Bool
is_calm [] = true
is_calm (s ∷ rest) = (leads_to_value s || not (awaits_value rest)) && is_calm rest

-- Where a value is open or comes next, what is expected of it fits what it goes to.
pub record IsAiming (stack : List Symbol) (d : Draft) : Type 0 where
  pub calm : is_calm stack ≡ true
  pub aimed : (is_open d.value ≡ true) ⊎ (awaits_value stack ≡ true) → IsAimed d

-- From the first word of a text on, where names are names.
pub record StepsKeepAims : Type 0 where
  pub begins : IsAiming layer blank
  pub kept : (stack after : List Symbol) (s : Symbol) (w : Word) (d next : Draft)
      → step stack w.kind ≡ Some (s, after) → act s w d ≡ Ok next → IsNameWord w.kind w → IsAiming stack d → IsAiming after next
  -- what is expected of a value that is open, or comes next
  pub open_value : (stack : List Symbol) (d : Draft) → IsAiming stack d → is_open d.value ≡ true → IsAimed d
  pub next_value : (stack : List Symbol) (d : Draft) → IsAiming stack d → awaits_value stack ≡ true → IsAimed d

-- ---- values that are read

-- the value is read as itself where this is expected, directly behind an `=`; where nothing is expected that is not asked
abbrev pub IsReadWhere : Shape → Value → Type 0
IsReadWhere Untyped v = Unit {0}
IsReadWhere shape v = is_read_as v shape true ≡ true

-- A value that was read to its end where this is expected: it can be written, it is at most 64 levels deep, its paths are from the root
-- down, and its assets and paths are UTF-8.
pub record IsWhole (shape : Shape) (v : Value) : Type 0 where
  pub read : IsReadWhere shape v
  pub writable : is_writable v ≡ true
  pub deep : depth v ≤ 64
  pub full : has_full_paths v ≡ true
  pub utf8 : is_utf8_value v ≡ true

-- The words of a property that a value follows aim it, and a value that is read where that is expected is one for what it goes to.
pub record ValuesAreAimed : Type 0 where
  pub default : (d next : Draft) → tail_act token.Equals d ≡ Ok next → IsAimed next
  pub sample : (w : Word) (d next : Draft) → sample_act token.Number w d ≡ Ok next → IsAimed next
  pub key : (w : Word) (d next : Draft) → is_word w.text ≡ true → property_key_act w d ≡ Ok next → IsAimed next
  pub fits : (d : Draft) (v : Value) → IsAimed d → IsWhole d.aim.shape v → IsFor d.aim.goal v d
  -- a word that completes a value, where each value that it completes is read as what is expected
  pub completes : (w : Word) (d : Draft) → IsAimed d → ((v : OpenValue) → given d.owner.said.base w.token w.text d.value ≡ Ok v → is_open v ≡ false → IsWhole d.aim.shape (value_in v)) → CompletesWell w d
