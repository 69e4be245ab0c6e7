-- What the machine has to do with the grammar.
use Rattle.std.specs.Prelude.{◌≡◌, true, List, ◌∷◌, ◌++◌, Some, None}
use Rattle.usda_grammar.specs.declared.kinds.WordKind.{WordKind}
use Rattle.usda_grammar.specs.declared.symbols.Symbol.{Symbol}
use Rattle.usda_grammar.specs.Table.{layer}
use Rattle.usda_grammar.specs.Derivations.{Derivation, Derives, AreText}
use Rattle.usda_grammar.specs.Machine.{step, steps, is_done}

-- with a token that the machine does not take, no text goes on
abbrev pub RefusedHasNoText : Type 0
RefusedHasNoText = (front : List WordKind) (stack : List Symbol) (k : WordKind) (rest : List WordKind) → steps layer front ≡ Some stack → step stack k ≡ None → AreText layer (front ++ k ∷ rest) → ⊥

-- with what the machine has taken some text goes on
abbrev pub TakenHasText : Type 0
TakenHasText = (front : List WordKind) (stack : List Symbol) → steps layer front ≡ Some stack → (rest : List WordKind) × AreText layer (front ++ rest)

-- the machine takes these tokens, and the text may end behind them
abbrev pub IsAccepted : List Symbol → List WordKind → Type 0
IsAccepted stack ks = (left : List Symbol) × (steps stack ks ≡ Some left) × (is_done left ≡ true)

-- a text is what the machine takes to its end
pub record AcceptedIsText : Type 0 where
  pub accepted : (ks : List WordKind) → IsAccepted layer ks → AreText layer ks
  pub text : (ks : List WordKind) → AreText layer ks → IsAccepted layer ks

-- a text comes from the symbols of a layer in one way
abbrev pub TextHasOneDerivation : Type 0
TextHasOneDerivation = (ks : List WordKind) (d e : Derivation) → Derives d layer ks → Derives e layer ks → d ≡ e
