-- Words of a text that are taken one behind the other, whatever symbols stand below and whatever words follow.
use Rattle.std.specs.Prelude.{◌≡◌, List, ◌++◌, map, Option}
use Rattle.usda_grammar.specs.declared.symbols.Symbol.{Symbol}
use Rattle.usda_machine.specs.Reading.{run}
use Rattle.usda_words.specs.Words.{Word, word_kind}
use Rattle.usda_drafts.specs.Acts.{act}
use Rattle.usda_drafts.specs.declared.draft.Draft.{Draft}
use Rattle.usda_drafts.specs.declared.fault.Refused.{Refused}
use Rattle.value_texts.specs.Cuts.{Said}
use Rattle.value_texts.specs.Words.{told_of, as_word}

-- these words lead from symbols and a draft to others
pub record Lead (from : List Symbol) (d : Draft) (ws : List Word) (to : List Symbol) (next : Draft) : Type 0 where
  pub goes : (refused_as : Option Word → Refused) (below : List Symbol) (rest : List Word) → run word_kind act refused_as (from ++ below) d (ws ++ rest) ≡ run word_kind act refused_as (to ++ below) next rest

-- Words that say this, at whatever places they stand, lead to these symbols and to a draft of which this holds.
pub record AreTaken (from : List Symbol) (d : Draft) (said : List Said) (to : List Symbol) (Is : Draft → Type 0) : Type 0 where
  pub taken : (ws : List Word) → map told_of ws ≡ map as_word said → (next : Draft) × Is next × Lead from d ws to next
