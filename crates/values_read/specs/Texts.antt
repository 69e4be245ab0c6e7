-- The values of each text.
use Rattle.std.specs.Prelude.{◌≡◌, ℕ, true, List, ◌∷◌, ◌++◌, Option, Some, Ok}
use Rattle.std.specs.Str.{is_utf8}
use Rattle.usda_drafts.specs.Acts.{act}
use Rattle.usda_drafts.specs.Drafts.{blank}
use Rattle.usda_drafts.specs.declared.draft.Draft.{Draft}
use Rattle.usda_drafts.specs.declared.fault.Refused.{Refused}
use Rattle.usda_grammar.specs.Table.{starts}
use Rattle.usda_grammar.specs.declared.symbols.Symbol.{Symbol}
use Rattle.usda_machine.specs.Texts.{HasRead}
use Rattle.usda_words.specs.Words.{Word, words_of, word_kind}
use Rattle.text_syntax.specs.Open.{IsOfValue}
use Rattle.values_read.specs.Owners.{ArePlaced}
use Rattle.values_read.specs.Words.{IsOpenSound, ValueGoesOn}

-- Of each text that is UTF-8: behind any words that its first ones are, the open value is sound, and each word of a value leaves it so,
-- or completes it, and the sound value goes where it belongs.
pub record TextsSaySoundValues : Type 0 where
  pub read : (refused_as : Option Word → Refused) (bytes : List ℕ) (front rest : List Word) (stack : List Symbol) (d : Draft) → is_utf8 bytes ≡ true → words_of bytes ≡ front ++ rest
      → HasRead word_kind act refused_as blank front stack d → IsOpenSound d × ArePlaced d
  pub value : (refused_as : Option Word → Refused) (bytes : List ℕ) (front rest : List Word) (w : Word) (stack after : List Symbol) (s : Symbol) (d next : Draft) → is_utf8 bytes ≡ true → words_of bytes ≡ front ++ w ∷ rest
      → HasRead word_kind act refused_as blank front stack d → starts s w.kind ≡ Some after → IsOfValue s d → act s w d ≡ Ok next → ValueGoesOn d w next
