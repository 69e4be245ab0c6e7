-- A row of the table is good: what may come behind its symbols may follow them, and no symbol takes what it may be absent before.
use Rattle.std.proofs.Common.{Bool, true, false, not, ◌||◌, ◌&&◌, List, [], ◌∷◌, Option, Some, None}
use Rattle.usda_grammar.specs.declared.kinds.WordKind.{WordKind}
use Rattle.usda_grammar.specs.declared.symbols.Symbol.{Symbol}
use Rattle.usda_grammar.specs.Table.{starts, may_be_absent}
use Rattle.usda_grammar.proofs.AllKinds.{all, kinds}
use Rattle.usda_grammar.proofs.Follow.{may_follow}

abbrev pub takes_it : Option (List Symbol) → Bool
takes_it None = false
takes_it (Some after) = true

-- whether these symbols, at the end of what a symbol stands for, may go on with the token
abbrev pub comes : List Symbol → Symbol → WordKind → Bool
comes [] a k = may_follow a k
comes (s ∷ more) a k = takes_it (starts s k) || (may_be_absent s && comes more a k)

-- each of these symbols is followed by what may follow it
abbrev pub are_followed : List Symbol → Symbol → Bool
are_followed [] a = true
are_followed (s ∷ more) a = all (λ k. may_follow s k || not (comes more a k)) kinds && are_followed more a

abbrev pub is_good_after : Symbol → WordKind → Option (List Symbol) → Bool
is_good_after s k None = true
is_good_after s k (Some after) = are_followed after s && not (may_be_absent s && may_follow s k)

-- a row of the grammar is clear
abbrev pub is_good : Symbol → WordKind → Bool
is_good s k = is_good_after s k (starts s k)
