-- What makes a draft of words goes on with what makes the next of the words behind them.
use Rattle.std.proofs.Common.{List, [], ◌∷◌, ◌++◌, Option, Result, sym, subst}
use Rattle.usda_grammar.specs.declared.kinds.WordKind.{WordKind}
use Rattle.usda_grammar.specs.declared.symbols.Symbol.{Symbol}
use Rattle.usda_grammar.specs.Derivations.{Derivation, ends, skips, takes}
use Rattle.usda_machine.specs.Texts.{Makes as MakesBy}

module _ {Word Draft Refusal : Type 0} (kind : Word → WordKind) (act : Symbol → Word → Draft → Result Draft Refusal) (refused_as : Option Word → Refusal) where
  abbrev Makes : Derivation → List Symbol → Draft → List Word → List Symbol → Draft → Type 0
  Makes = MakesBy kind act refused_as

  pub makes_append : (t : Derivation) (stack : List Symbol) (d : Draft) (front : List Word) (mid : List Symbol) (d_mid : Draft) (u : Derivation) (ws : List Word) (left : List Symbol) (out : Draft) → Makes t stack d front mid d_mid → Makes u mid d_mid ws left out → (v : Derivation) × Makes v stack d (front ++ ws) left out
  makes_append ends stack d [] mid d_mid u ws left out h g = (u, subst (λ (x : Draft). Makes u stack x ws left out) (sym h.1) (subst (λ (x : List Symbol). Makes u x d_mid ws left out) (sym h.0) g))
  makes_append ends stack d (w ∷ front) mid d_mid u ws left out h g = absurd h
  makes_append (skips t) [] d front mid d_mid u ws left out h g = absurd h
  makes_append (skips t) (s ∷ stack) d front mid d_mid u ws left out h g = let v = makes_append t stack d front mid d_mid u ws left out h.1 g in (skips v.0, (h.0, v.1))
  makes_append (takes t) [] d front mid d_mid u ws left out h g = absurd h
  makes_append (takes t) (s ∷ stack) d [] mid d_mid u ws left out h g = absurd h
  makes_append (takes t) (s ∷ stack) d (w ∷ front) mid d_mid u ws left out (after, next, at, acted, h) g = let v = makes_append t (after ++ stack) next front mid d_mid u ws left out h g in (takes v.0, (after, next, at, acted, v.1))
