-- What a row of the grammar's table has to keep.
use Rattle.std.proofs.Common.{◌+◌, Bool, true, ◌&&◌, List, [], ◌∷◌, Option, Some, None, ◌≡◌, refl}
use Rattle.std.proofs.Math.Dec.{eqb, leb}
use Rattle.usda_grammar.specs.Table.{starts}
use Rattle.usda_grammar.specs.declared.kinds.WordKind.{WordKind}
use Rattle.usda_grammar.specs.declared.symbols.Symbol.{Symbol}
use Rattle.trees_read.specs.Stacks.{ends, names, variant_of, is_in_body, are_held, have_bodies}
use Rattle.usda_productions.proofs.AllSymbols.{every_row}

-- of these symbols, and of those behind each of them, no more prims are to be named than bodies are to be closed
abbrev pub are_balanced : List Symbol → Bool
are_balanced [] = true
are_balanced (s ∷ stack) = leb (names (s ∷ stack)) (ends (s ∷ stack)) && are_balanced stack

-- a body begins with a prim that has no name yet, or with a variant, and what stands in a body stays in it
abbrev pub is_kept_after : Symbol → Option (List Symbol) → Bool
is_kept_after s None = true
is_kept_after s (Some after) = eqb (names after + variant_of s) (ends after) && (are_held (is_in_body s) after && (are_balanced after && have_bodies after))

abbrev pub is_kept_row : Symbol → WordKind → Bool
is_kept_row s k = is_kept_after s (starts s k)

-- each row of the table keeps it
pub rows : (s : Symbol) (k : WordKind) → is_kept_row s k ≡ true
rows = every_row is_kept_row refl
