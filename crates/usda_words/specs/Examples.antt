-- Tokens and their words.
use Rattle.std.specs.Prelude.{◌≡◌, ℕ, ◌+◌, Bool, true, false, List, [], ◌∷◌, codes, map, length, Option, Some, None}
use Rattle.usda_grammar.specs.declared.kinds.Keyword.TheVariants as word
use Rattle.usda_grammar.specs.declared.kinds.WordKind.{WordKind}
use Rattle.usda_grammar.specs.declared.kinds.WordKind.TheVariants as kind
use Rattle.usda_lexer.specs.Words.{Word as Token}
use Rattle.usda_lexer.specs.declared.token.LexFault.{LexFault}
use Rattle.usda_lexer.specs.declared.token.LexFault.TheVariants.{Unclosed, BadByte, NumberTooLong}
use Rattle.usda_lexer.specs.declared.token.Mark.TheVariants as mark
use Rattle.usda_lexer.specs.declared.token.TokenKind.{TokenKind}
use Rattle.usda_lexer.specs.declared.token.TokenKind.TheVariants as form
use Rattle.usda_words.specs.Words.{words_behind, at_start}

-- a token of this text that begins here
abbrev pub token : TokenKind → List ℕ → ℕ → Token
token f text start = record { kind = f; text = text; start = start; end = start + length text }

-- a name that begins here
abbrev pub name : List ℕ → ℕ → Token
name = token form.Name

-- a number that begins here
abbrev pub number : List ℕ → ℕ → Token
number = token form.Number

-- a `.` here
abbrev pub dot : ℕ → Token
dot = token (form.Mark mark.Dot) (codes ".")

-- the kinds of the words of these tokens and of the fault behind them, each with its place
abbrev pub AreWords : List Token → Option LexFault → List (WordKind × ℕ) → Type 0
AreWords ts fault said = map (λ w. (w.kind, w.start)) (words_behind at_start ts fault) ≡ said

-- the kind of a name alone
abbrev pub IsWord : List ℕ → WordKind → Type 0
IsWord text k = AreWords (name text 0 ∷ []) None ((k, 0) ∷ [])

-- a fault behind the name `x` and an equals sign
abbrev pub FaultIs : LexFault → List (WordKind × ℕ × Bool) → Type 0
FaultIs fault said = map (λ w. (w.kind, w.start, w.too_long)) (words_behind at_start (name (codes "x") 0 ∷ token (form.Mark mark.Equals) (codes "=") 2 ∷ []) (Some fault)) ≡ (kind.Word word.Other, 0, false) ∷ (kind.Equals, 2, false) ∷ said

-- where blanks and comments may not stand
pub record DotsAreTold : Type 0 where
  -- x.timeSamples
  pub joined : AreWords (name (codes "x") 0 ∷ dot 1 ∷ name (codes "timeSamples") 2 ∷ []) None ((kind.Word word.Other, 0) ∷ (kind.Dot, 1) ∷ (kind.Word word.TimeSamples, 2) ∷ [])
  -- x .connect
  pub blank_before : AreWords (name (codes "x") 0 ∷ dot 2 ∷ name (codes "connect") 3 ∷ []) None ((kind.Word word.Other, 0) ∷ (kind.Fault, 2) ∷ (kind.Word word.Connect, 3) ∷ [])
  -- x. connect
  pub blank_behind : AreWords (name (codes "x") 0 ∷ dot 1 ∷ name (codes "connect") 3 ∷ []) None ((kind.Word word.Other, 0) ∷ (kind.Dot, 1) ∷ (kind.Fault, 3) ∷ [])
  -- x/**/.spline
  pub comment_before : AreWords (name (codes "x") 0 ∷ dot 5 ∷ name (codes "spline") 6 ∷ []) None ((kind.Word word.Other, 0) ∷ (kind.Fault, 5) ∷ (kind.Word word.Spline, 6) ∷ [])
  -- x.#, and spline on the next line
  pub comment_behind : AreWords (name (codes "x") 0 ∷ dot 1 ∷ name (codes "spline") 4 ∷ []) None ((kind.Word word.Other, 0) ∷ (kind.Dot, 1) ∷ (kind.Fault, 4) ∷ [])
  -- x .5: a number with a point is no dot
  pub number_with_point : AreWords (name (codes "x") 0 ∷ number (codes ".5") 2 ∷ []) None ((kind.Word word.Other, 0) ∷ (kind.Number, 2) ∷ [])
  -- x.5
  pub number_joined : AreWords (name (codes "x") 0 ∷ number (codes ".5") 1 ∷ []) None ((kind.Word word.Other, 0) ∷ (kind.Number, 1) ∷ [])
  -- x. 5
  pub number_behind : AreWords (name (codes "x") 0 ∷ dot 1 ∷ number (codes "5") 3 ∷ []) None ((kind.Word word.Other, 0) ∷ (kind.Dot, 1) ∷ (kind.Fault, 3) ∷ [])

-- what stands behind the last token
pub record FaultsAreTold : Type 0 where
  -- x = @
  pub asset : FaultIs (Unclosed 4) ((kind.Fault, 4, false) ∷ [])
  -- x = ?
  pub byte : FaultIs (BadByte 4) ((kind.Fault, 4, false) ∷ [])
  -- x = and 35 digits
  pub digits : FaultIs (NumberTooLong 4) ((kind.Number, 4, true) ∷ [])
  -- x. and 35 digits behind a blank
  pub digits_apart : AreWords (name (codes "x") 0 ∷ dot 1 ∷ []) (Some (NumberTooLong 3)) ((kind.Word word.Other, 0) ∷ (kind.Dot, 1) ∷ (kind.Fault, 3) ∷ [])

-- words of each kind
pub record KeywordsAreTold : Type 0 where
  pub def_word : IsWord (codes "def") (kind.Word word.Specifier)
  pub class_word : IsWord (codes "class") (kind.Word word.Specifier)
  pub append_word : IsWord (codes "append") (kind.Word word.Edit)
  pub reorder_word : IsWord (codes "reorder") (kind.Word word.Reorder)
  pub clipSets_word : IsWord (codes "clipSets") (kind.Word word.StringField)
  pub inherits_word : IsWord (codes "inherits") (kind.Word word.PathField)
  pub payload_word : IsWord (codes "payload") (kind.Word word.ReferenceField)
  pub variants_word : IsWord (codes "variants") (kind.Word word.Variants)
  pub variantSet_word : IsWord (codes "variantSet") (kind.Word word.VariantSet)
  pub variantSets_word : IsWord (codes "variantSets") (kind.Word word.StringField)
  pub subLayers_word : IsWord (codes "subLayers") (kind.Word word.SubLayers)
  pub rootPrims_word : IsWord (codes "rootPrims") (kind.Word word.RootPrims)
  pub nameChildren_word : IsWord (codes "nameChildren") (kind.Word word.OrderedField)
  pub custom_word : IsWord (codes "custom") (kind.Word word.Custom)
  pub varying_word : IsWord (codes "varying") (kind.Word word.Variability)
  pub rel_word : IsWord (codes "rel") (kind.Word word.Rel)
  pub None_word : IsWord (codes "None") (kind.Word word.NoneWord)
  pub dictionary_word : IsWord (codes "dictionary") (kind.Word word.Dictionary)
  -- a word is the whole name, in small and capital letters as they are
  pub Def_name : IsWord (codes "Def") (kind.Word word.Other)
  pub defs_name : IsWord (codes "defs") (kind.Word word.Other)
  pub joined_name : IsWord (codes "rel:custom") (kind.Word word.Other)
  pub none_name : IsWord (codes "none") (kind.Word word.Other)

-- blanks beside a `.`, faults, and the words of the grammar
pub record AreTold : Type 0 where
  pub dots : DotsAreTold
  pub faults : FaultsAreTold
  pub keywords : KeywordsAreTold
