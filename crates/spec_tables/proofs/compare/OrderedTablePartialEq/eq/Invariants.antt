use Rattle.std.proofs.Common.{◌≡◌}
use Rattle.std.specs.Cmp.Lexicographic.{pointwise}
use Rattle.spec_tables.specs.Same.{same_entry}
use Rattle.spec_tables.proofs.compare.OrderedTablePartialEq.eq.Given as goal

abbrev pub invariant-loop-key : goal.invariant-loop-key
invariant-loop-key g l = pointwise (same_entry g.K.PartialEq.eq g.V.PartialEq.eq) l.self l.other ≡ pointwise (same_entry g.K.PartialEq.eq g.V.PartialEq.eq) l.key-iterator l.theirs
