-- While a value is open in the draft of a layer, the grammar awaits what the draft of the value awaits.
use Rattle.std.specs.Prelude.{◌≡◌, ◌⊎◌, ℕ, Bool, true, false, List, ◌∷◌, ◌++◌, Option, Some, None, Ok, Err}
use Rattle.sdf_paths.specs.declared.element.Element.{Element}
use Rattle.sdf_values.specs.declared.refusal.RefusalKind.TheVariants.{Syntax}
use Rattle.usda_drafts.specs.Acts.{act}
use Rattle.usda_drafts.specs.Drafts.{blank}
use Rattle.usda_drafts.specs.declared.draft.Draft.{Draft}
use Rattle.usda_drafts.specs.declared.fault.Refused.{Refused}
use Rattle.usda_grammar.specs.Machine.{step}
use Rattle.usda_grammar.specs.Table.{layer}
use Rattle.usda_grammar.specs.declared.symbols.Symbol.{Symbol}
use Rattle.usda_grammar.specs.declared.symbols.Symbol.TheVariants as symbol
use Rattle.usda_lexer.specs.Meanings.{path_text}
use Rattle.usda_lexer.specs.declared.token.TokenKind.{TokenKind}
use Rattle.usda_lexer.specs.declared.token.TokenKind.TheVariants as form
use Rattle.usda_lists.specs.Paths.{absolute_from}
use Rattle.usda_machine.specs.Texts.{HasRead, IsRefusedAct}
use Rattle.usda_statements.specs.OpenValues.{is_open}
use Rattle.usda_values.specs.PathTexts.{is_path_text}
use Rattle.usda_values.specs.declared.draft.ValueDraft.{ValueDraft}
use Rattle.usda_words.specs.Words.{Word, words_of, word_kind}
use Rattle.value_texts.specs.Following.{awaited, is_formed, IsOfToken}

-- the symbols are those that stand for what is open of a value, above others
abbrev pub IsAwaited : List Symbol → ValueDraft → Type 0
IsAwaited stack v = (below : List Symbol) × (is_formed v ≡ true) × (stack ≡ awaited v ++ below)

-- while a value is open, what the grammar goes on with is what the draft of the value awaits
abbrev pub Follows : List Symbol → Draft → Type 0
Follows stack d = is_open d.value ≡ true → IsAwaited stack d.value.draft

-- the symbols at which a value begins
abbrev pub begins_value : Symbol → Bool
begins_value symbol.Value = true
begins_value symbol.Dictionary = true
begins_value s = false

-- the word is one of a value: of one that is open, or the first of one
abbrev pub IsOfValue : Symbol → Draft → Type 0
IsOfValue s d = (is_open d.value ≡ true) ⊎ (begins_value s ≡ true)

-- a path, as it is from the root down, that is none
abbrev pub IsNone : Option (List ℕ) → Type 0
IsNone None = Unit {0}
IsNone (Some token) = is_path_text (path_text token) ≡ false

-- a path between `<` and `>` that is none where this is the plain path of the prim that owns the statement
abbrev pub IsNoPathFrom : List Element → TokenKind → List ℕ → Type 0
IsNoPathFrom base f text = (f ≡ form.Path) × IsNone (absolute_from base (path_text text))

-- Of each text: where a value is open behind some of its words, what the grammar goes on with is what the draft of the value awaits. So
-- a word of a value is refused as `Syntax` only where no text goes on with it, or for a path that is none.
pub record OpenValuesFollow : Type 0 where
  -- no value is open before the first word
  pub begins : Follows layer blank
  -- a word that the grammar takes
  pub kept : (stack : List Symbol) (d : Draft) (w : Word) (s : Symbol) (after : List Symbol) (next : Draft) → IsOfToken w → Follows stack d → step stack w.kind ≡ Some (s, after) → act s w d ≡ Ok next → Follows after next
  pub refused : (stack : List Symbol) (d : Draft) (w : Word) (s : Symbol) (after : List Symbol) (r : Refused) → IsOfToken w → Follows stack d → step stack w.kind ≡ Some (s, after) → IsOfValue s d → act s w d ≡ Err r
      → r.kind ≡ Syntax → IsNoPathFrom d.owner.said.base w.token w.text
  -- a word of a text that is refused for what it means, where texts of the grammar go on with it
  pub first : (refused_as : Option Word → Refused) (bytes : List ℕ) (front : List Word) (w : Word) (rest : List Word) (stack : List Symbol) (d : Draft) (r : Refused) → words_of bytes ≡ front ++ w ∷ rest
      → HasRead word_kind act refused_as blank front stack d → (is : IsRefusedAct word_kind act refused_as blank stack d w r) → IsOfValue is.symbol d → r.kind ≡ Syntax → IsNoPathFrom d.owner.said.base w.token w.text
