-- Behind which words a value comes next.
use Rattle.std.proofs.Common.{◌≡◌, refl, Bool, true, false, not, ◌&&◌, ◌||◌, List, [], ◌∷◌, Option, Some, None}
use Rattle.std.proofs.lemmas.Bool.{and_parts, or_parts}
use Rattle.usda_grammar.specs.declared.kinds.WordKind.{WordKind}
use Rattle.usda_grammar.specs.declared.symbols.Symbol.{Symbol}
use Rattle.usda_grammar.specs.declared.symbols.Symbol.TheVariants as symbol
use Rattle.usda_grammar.specs.Table.{starts}
use Rattle.properties_read.specs.Aims.{awaits_value, leads_to_value, is_calm}
use Rattle.usda_productions.proofs.AllSymbols.{every_row}
use Rattle.value_texts.proofs.Tests.{implied, other_holds}

-- among the symbols behind a word, where it may stand there, a value comes only where it may
abbrev pub opens_calm : Option (List Symbol) → Bool
opens_calm None = true
opens_calm (Some pushed) = is_calm pushed

-- and none of them is a value that comes next
abbrev pub opens_still : Option (List Symbol) → Bool
opens_still None = true
opens_still (Some pushed) = is_calm pushed && not (awaits_value pushed)

-- each of these leads to a value
abbrev pub are_leading : List Symbol → Bool
are_leading [] = true
are_leading (s ∷ rest) = leads_to_value s && are_leading rest

abbrev pub opens_leading : Option (List Symbol) → Bool
opens_leading None = true
opens_leading (Some pushed) = are_leading pushed

-- the symbols that lead to no value, behind a word of which a value may come next
abbrev pub may_aim : Symbol → Bool
may_aim symbol.EditedField = true
may_aim symbol.HeadItems = true
may_aim symbol.MaybeAttributeTail = true
may_aim symbol.PrimMetadata = true
may_aim symbol.PropertyMetadata = true
may_aim symbol.SamplesOrEnd = true
may_aim s = false

-- what a row of the grammar's table has to keep
abbrev is_aimed_row : Symbol → WordKind → Bool
is_aimed_row s k = (not (leads_to_value s) || opens_leading (starts s k)) && ((leads_to_value s || (may_aim s || opens_still (starts s k))) && (leads_to_value s || opens_calm (starts s k)))

aimed_rows : (s : Symbol) (k : WordKind) → is_aimed_row s k ≡ true
aimed_rows = every_row is_aimed_row refl

-- the same, part by part
row_parts : (s : Symbol) (k : WordKind)
    → ((not (leads_to_value s) || opens_leading (starts s k)) ≡ true) × ((leads_to_value s || (may_aim s || opens_still (starts s k))) ≡ true) × ((leads_to_value s || opens_calm (starts s k)) ≡ true)
row_parts s k =
    let p = and_parts (not (leads_to_value s) || opens_leading (starts s k)) ((leads_to_value s || (may_aim s || opens_still (starts s k))) && (leads_to_value s || opens_calm (starts s k))) (aimed_rows s k) in
    let q = and_parts (leads_to_value s || (may_aim s || opens_still (starts s k))) (leads_to_value s || opens_calm (starts s k)) p.1 in (p.0, q.0, q.1)

pub starts_leading : (s : Symbol) (k : WordKind) → leads_to_value s ≡ true → opens_leading (starts s k) ≡ true
starts_leading s k h = implied (leads_to_value s) (opens_leading (starts s k)) h (row_parts s k).0

pub starts_still : (s : Symbol) (k : WordKind) → (leads_to_value s || may_aim s) ≡ false → opens_still (starts s k) ≡ true
starts_still s k h =
    let p = or_parts (leads_to_value s) (may_aim s) h in
    other_holds (may_aim s) (opens_still (starts s k)) p.1 (other_holds (leads_to_value s) (may_aim s || opens_still (starts s k)) p.0 (row_parts s k).1)

pub starts_calm : (s : Symbol) (k : WordKind) → leads_to_value s ≡ false → opens_calm (starts s k) ≡ true
starts_calm s k h = other_holds (leads_to_value s) (opens_calm (starts s k)) h (row_parts s k).2
