-- What each word of a layer makes of the value that is open.
use Rattle.std.specs.Prelude.{◌≡◌, true, List, Some, Ok}
use Rattle.sdf_paths.specs.Paths.{IsPath}
use Rattle.sdf_values.specs.declared.value.Value.{Value}
use Rattle.usda_drafts.specs.Acts.{act}
use Rattle.usda_drafts.specs.Drafts.{blank}
use Rattle.usda_drafts.specs.Values.{completed}
use Rattle.usda_drafts.specs.declared.draft.Draft.{Draft}
use Rattle.usda_grammar.specs.Table.{starts}
use Rattle.usda_grammar.specs.declared.symbols.Symbol.{Symbol}
use Rattle.usda_statements.specs.OpenValues.{no_value, is_open}
use Rattle.usda_statements.specs.declared.open_value.OpenValue.{OpenValue}
use Rattle.usda_words.specs.Words.{Word}
use Rattle.text_syntax.specs.Open.{IsOfValue}
use Rattle.values_read.specs.Sound.{IsSound, IsSoundDraft}
use Rattle.values_read.specs.Tokens.{IsLexedWord}

-- while a value is open, it is sound as far as it is read, where it is expected
abbrev pub IsOpenSound : Draft → Type 0
IsOpenSound d = is_open d.value ≡ true → IsSoundDraft d.aim.shape d.value.draft

-- What a word of a value leaves: the value is still open, and all else as it was, or it is complete, and goes sound where it belongs.
pub data ValueGoesOn (d : Draft) (w : Word) (next : Draft) : Type 0 where
  still_open : (v : OpenValue) → is_open v ≡ true → IsSoundDraft d.aim.shape v.draft → next ≡ record d { value = v } → ValueGoesOn d w next
  complete : (v : Value) → IsSound 0 d.aim.shape true v → completed d.aim.goal v w.start (record d { value = no_value }) ≡ Ok next → ValueGoesOn d w next

-- Of the words of a text that is UTF-8, where the plain path of the prim that owns the statement is one.
pub record WordsKeepValuesSound : Type 0 where
  -- no value is open before the first word
  pub begins : IsOpenSound blank
  -- a word that the grammar takes
  pub kept : (s : Symbol) (w : Word) (d next : Draft) (after : List Symbol) → IsLexedWord w → IsPath d.owner.said.base → IsOpenSound d → starts s w.kind ≡ Some after → act s w d ≡ Ok next → IsOpenSound next
  -- a word of a value that the grammar takes
  pub value : (s : Symbol) (w : Word) (d next : Draft) (after : List Symbol) → IsLexedWord w → IsPath d.owner.said.base → IsOpenSound d → starts s w.kind ≡ Some after → IsOfValue s d → act s w d ≡ Ok next → ValueGoesOn d w next
