-- What holds of the draft behind all words of a text, and of its layer.
use Rattle.std.specs.Prelude.{◌≡◌, ℕ, true, List, Some, Ok}
use Rattle.usda_drafts.specs.Acts.{act}
use Rattle.usda_drafts.specs.Drafts.{blank, layer_of}
use Rattle.usda_drafts.specs.declared.draft.Draft.{Draft}
use Rattle.usda_grammar.specs.Machine.{step, is_done}
use Rattle.usda_grammar.specs.Table.{layer}
use Rattle.usda_grammar.specs.declared.symbols.Symbol.{Symbol}
use Rattle.usda_productions.specs.Rules.{layer_forms}
use Rattle.usda_productions.specs.Texts.{MakeBy}
use Rattle.usda_words.specs.Words.{Word, words_of, word_kind}
use Rattle.value_texts.specs.Following.{IsOfToken}
use Rattle.trees_read.specs.Drafts.{Follows, IsOver}
use Rattle.trees_read.specs.Trees.{IsProperTree}

-- the text ends with nothing open, and the tree of its layer is proper
pub record IsReadToEnd (d : Draft) : Type 0 where
  pub over : IsOver d
  pub proper : IsProperTree (layer_of d)

-- Of each text: what is open in the draft behind some of its words is what the grammar still awaits, and its tree is proper as far as it
-- is read. So at the end nothing is open, and the tree of the layer is proper.
pub record TreesAreRead : Type 0 where
  -- before the first word
  pub begins : Follows layer blank
  -- a word that the grammar takes
  pub kept : (stack : List Symbol) (d : Draft) (w : Word) (s : Symbol) (after : List Symbol) (next : Draft) → IsOfToken w → Follows stack d → step stack w.kind ≡ Some (s, after) → act s w d ≡ Ok next → Follows after next
  -- where the text may end
  pub ends : (stack : List Symbol) (d : Draft) → Follows stack d → is_done stack ≡ true → IsReadToEnd d
  -- all words of a text, by the productions of the grammar
  pub read : (bytes : List ℕ) (d : Draft) → MakeBy word_kind act layer_forms blank (words_of bytes) d → IsReadToEnd d
