-- The symbols of the code, the innermost last, and those of the machine, the innermost first.
use Rattle.std.specs.Prelude.{◌≡◌, List, [], ◌∷◌, Option, Some, None, Result, Ok, Err}
use Rattle.std.specs.declared.alloc.AllocError.{AllocError}
use Rattle.usda_grammar.specs.declared.symbols.Symbol.{Symbol}

-- symbols put above others one by one, so that the last of them is the innermost
abbrev pub onto : List Symbol → List Symbol → List Symbol
onto below [] = below
onto below (s ∷ ss) = onto (s ∷ below) ss

-- the innermost first
unfoldable pub stack_of : List Symbol → List Symbol
stack_of ss = onto [] ss

-- what a step answers, and the symbols behind it: what the machine gives, unless memory ran out
abbrev pub Steps : Result (Option Symbol) AllocError → List Symbol → Option (Symbol × List Symbol) → Type 0
Steps (Ok (Some s)) new found = found ≡ Some (s, new)
Steps (Ok None) new found = found ≡ None
Steps (Err e) new found = Unit {0}
