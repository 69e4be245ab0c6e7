-- The ways on of a form with a token: by which symbol it is taken, and what is left behind it.
use Rattle.std.proofs.Common.{◌≡◌, ℕ, zero, suc, Bool, true, false, ◌&&◌, ◌||◌, List, [], ◌∷◌, ◌++◌, map, Option, Some, None}
use Rattle.usda_grammar.specs.declared.kinds.WordKind.{WordKind}
use Rattle.usda_grammar.specs.declared.symbols.Symbol.{Symbol}
use Rattle.usda_grammar.specs.Table.{starts}
use Rattle.usda_productions.specs.Forms.{Form, one, rule, either, maybe, many, more, Seq, nil, then}
use Rattle.usda_productions.specs.Texts.{left, right, opened}
use Rattle.usda_productions.proofs.Shapes.{form, forms}

-- whether nothing may stand for a form

abbrev mutual
  pub absent : Form → Bool
  absent (one s test) = false
  absent (rule r) = false
  absent (either a b) = absent_seq a || absent_seq b
  absent (maybe a) = true
  absent (many a) = true
  absent (more next behind a k) = false

  pub absent_seq : Seq → Bool
  absent_seq nil = true
  absent_seq (then f s) = absent f && absent_seq s

abbrev pub absent_all : List Form → Bool
absent_all [] = true
absent_all (f ∷ fs) = absent f && absent_all fs

-- the ways on with a token

-- the symbol that takes the token, and the forms behind it
abbrev pub Way : Type 0
Way = Symbol × List Form

abbrev pub Ways : Type 0
Ways = Option (List Way)

abbrev pub both_ways : Ways → Ways → Ways
both_ways (Some xs) (Some ys) = Some (xs ++ ys)
both_ways (Some xs) None = None
both_ways None b = None

abbrev pub all_before : List Form → List Way → List Way
all_before fs xs = map (λ x. (x.0, x.1 ++ fs)) xs

abbrev pub before : List Form → Ways → Ways
before fs None = None
before fs (Some xs) = Some (all_before fs xs)

abbrev pub if_absent : Bool → Ways → Ways
if_absent true w = w
if_absent false w = Some []

abbrev pub ways_in : (Form → WordKind → Ways) → List Form → WordKind → Ways
ways_in w [] k = Some []
ways_in w (f ∷ fs) k = both_ways (before fs (w f k)) (if_absent (absent f) (ways_in w fs k))

abbrev pub ways_opened : (Form → WordKind → Ways) → Option (List Form) → WordKind → Ways
ways_opened w None k = Some []
ways_opened w (Some fs) k = ways_in w fs k

abbrev pub if_same : Symbol → Bool → Ways
if_same s true = Some ((s, []) ∷ [])
if_same s false = Some []

abbrev pub row : Symbol → Option (List Symbol) → List Way
row s None = []
row s (Some after) = (s, forms after) ∷ []

abbrev pub ways_by : (Form → WordKind → Ways) → Form → WordKind → Ways
ways_by w (one s test) k = if_same s (test k)
ways_by w f k = both_ways (ways_opened w (opened left f) k) (ways_opened w (opened right f) k)

-- the ways on behind this token, found within so many openings
abbrev pub ways : ℕ → Form → WordKind → Ways
ways zero f k = None
ways (suc n) f k = ways_by (ways n) f k

-- a row of the table is the one way on of its symbol's form, by that symbol
abbrev pub Agrees : Symbol → WordKind → Type 0
Agrees s k = ways 24 (form s) k ≡ Some (row s (starts s k))
