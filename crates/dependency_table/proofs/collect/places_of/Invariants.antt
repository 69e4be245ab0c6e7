use Rattle.std.proofs.Common.{◌≡◌, take}
use Rattle.std.specs.BTreeSet.{contains}
use Rattle.std.specs.List.{list_any}
use Rattle.dependency_table.specs.Tables.{is_noted}
use Rattle.dependency_table.proofs.collect.places_of.Given as goal

abbrev pub invariant-loop-key : goal.invariant-loop-key
invariant-loop-key g l = (p : g.row.P.Denot) → contains g.P.Ord.cmp l.found p ≡ list_any (λ k. is_noted g.P.Ord.cmp g.K.Ord.cmp l.readers k p) (take l.key-index l.keys)
