-- The texts of symbols.
use Rattle.std.specs.Prelude.{◌≡◌, true, List, [], ◌∷◌, ◌++◌, Some}
use Rattle.usda_grammar.specs.declared.kinds.WordKind.{WordKind}
use Rattle.usda_grammar.specs.declared.symbols.Symbol.{Symbol}
use Rattle.usda_grammar.specs.Table.{starts, may_be_absent}

-- how the tokens of a text come from symbols: each symbol is absent, or takes a token
pub data Derivation : Type 0 where
  ends : Derivation
  skips : Derivation → Derivation
  takes : Derivation → Derivation

-- the tokens come from the symbols so: a symbol is absent only where it may be, and takes only a token that it begins with
abbrev pub Derives : Derivation → List Symbol → List WordKind → Type 0
Derives ends [] [] = Unit {0}
Derives ends [] (k ∷ ks) = ⊥
Derives ends (s ∷ stack) ks = ⊥
Derives (skips d) [] ks = ⊥
Derives (skips d) (s ∷ stack) ks = (may_be_absent s ≡ true) × Derives d stack ks
Derives (takes d) [] ks = ⊥
Derives (takes d) (s ∷ stack) [] = ⊥
Derives (takes d) (s ∷ stack) (k ∷ ks) = (after : List Symbol) × (starts s k ≡ Some after) × Derives d (after ++ stack) ks

-- the tokens are a text of these symbols
abbrev pub AreText : List Symbol → List WordKind → Type 0
AreText stack ks = (d : Derivation) × Derives d stack ks
