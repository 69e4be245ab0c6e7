-- The machine that takes a text token by token.
use Rattle.std.specs.Prelude.{Bool, true, false, ◌&&◌, List, [], ◌∷◌, ◌++◌, Option, Some, None}
use Rattle.usda_grammar.specs.declared.kinds.WordKind.{WordKind}
use Rattle.usda_grammar.specs.declared.symbols.Symbol.{Symbol}
use Rattle.usda_grammar.specs.Table.{starts, may_be_absent}

-- a token taken by a symbol, or by what stands below it where the symbol is absent
abbrev pub choose : Symbol → List Symbol → Option (List Symbol) → Bool → Option (Symbol × List Symbol) → Option (Symbol × List Symbol)
choose s stack (Some after) absent below = Some (s, after ++ stack)
choose s stack None true below = below
choose s stack None false below = None

-- the symbol that takes the token, and the symbols that are left
abbrev pub step : List Symbol → WordKind → Option (Symbol × List Symbol)
step [] k = None
step (s ∷ stack) k = choose s stack (starts s k) (may_be_absent s) (step stack k)

-- the symbols that are left behind one more token
abbrev pub left_behind : Option (Symbol × List Symbol) → (List Symbol → Option (List Symbol)) → Option (List Symbol)
left_behind None f = None
left_behind (Some next) f = f next.1

-- the symbols that are left behind these tokens
abbrev pub steps : List Symbol → List WordKind → Option (List Symbol)
steps stack [] = Some stack
steps stack (k ∷ ks) = left_behind (step stack k) (λ next. steps next ks)

-- whether the text may end here
abbrev pub is_done : List Symbol → Bool
is_done [] = true
is_done (s ∷ stack) = may_be_absent s && is_done stack
