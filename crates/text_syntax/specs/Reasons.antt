-- Why the first refusal of a text may be `Syntax` at a word with which some text of the grammar goes on.
use Rattle.std.specs.Prelude.{◌≡◌, ◌⊎◌, ℕ, List, ◌∷◌, ◌++◌, Option}
use Rattle.sdf_values.specs.declared.refusal.RefusalKind.TheVariants.{Syntax}
use Rattle.usda_drafts.specs.Acts.{act}
use Rattle.usda_drafts.specs.Drafts.{blank}
use Rattle.usda_drafts.specs.declared.draft.Draft.{Draft}
use Rattle.usda_drafts.specs.declared.fault.Refused.{Refused}
use Rattle.usda_grammar.specs.declared.symbols.Symbol.{Symbol}
use Rattle.usda_machine.specs.Texts.{HasRead, IsRefusedAct}
use Rattle.usda_words.specs.Words.{Word, words_of, word_kind}
use Rattle.text_syntax.specs.Open.{IsNoPathFrom}
use Rattle.text_syntax.specs.Elsewhere.{BreaksRule}

-- it is a path of a value that is none, or it breaks the rule of the symbol that takes it
abbrev pub RefusalsHaveReasons : Type 0
RefusalsHaveReasons =
    (refused_as : Option Word → Refused) (bytes : List ℕ) (front : List Word) (w : Word) (rest : List Word) (stack : List Symbol) (d : Draft) (r : Refused) → words_of bytes ≡ front ++ w ∷ rest
    → HasRead word_kind act refused_as blank front stack d → (is : IsRefusedAct word_kind act refused_as blank stack d w r) → r.kind ≡ Syntax
    → IsNoPathFrom d.owner.said.base w.token w.text ⊎ BreaksRule is.symbol w.kind w d
