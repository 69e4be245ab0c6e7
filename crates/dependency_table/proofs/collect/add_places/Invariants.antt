use Rattle.std.proofs.Common.{◌≡◌, ◌||◌}
use Rattle.std.specs.BTreeSet.{contains}
use Rattle.dependency_table.specs.Tables.{is_listed}
use Rattle.dependency_table.proofs.collect.add_places.Given as goal

-- what was found, and the places that are left
abbrev pub invariant-loop-place : goal.invariant-loop-place
invariant-loop-place g l = (p : g.row.P.Denot) → (contains g.P.Ord.cmp l.found p || is_listed g.P.Ord.cmp l.place-iterator p) ≡ (contains g.P.Ord.cmp l.fn.found p || contains g.P.Ord.cmp l.fn.places p)
