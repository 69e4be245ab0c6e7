-- Steps of the grammar, one behind the other.
use Rattle.std.proofs.Common.{◌≡◌, List, [], ◌∷◌, ◌++◌, Option, Some, None, ap}
use Rattle.usda_grammar.specs.declared.kinds.WordKind.{WordKind}
use Rattle.usda_grammar.specs.declared.symbols.Symbol.{Symbol}
use Rattle.usda_grammar.specs.Machine.{step, steps, left_behind}

pub steps_then : (ks ls : List WordKind) (from mid : List Symbol) → steps from ks ≡ Some mid → steps from (ks ++ ls) ≡ steps mid ls
steps_then [] ls from mid h = let same : from ≡ mid = cc in ap (λ s. steps s ls) same
steps_then (k ∷ ks) ls from mid h = cases (step from k) h (λ next e. steps_then ks ls next mid e)
  where
    cases : (o : Option (Symbol × List Symbol)) → left_behind o (λ next. steps next ks) ≡ Some mid → ((next : List Symbol) → steps next ks ≡ Some mid → steps next (ks ++ ls) ≡ steps mid ls)
        → left_behind o (λ next. steps next (ks ++ ls)) ≡ steps mid ls
    cases None e more = absurd cc
    cases (Some next) e more = more next.1 e
