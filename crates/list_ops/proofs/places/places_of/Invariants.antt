use Rattle.std.proofs.Common.{◌≡◌, take}
use Rattle.std.specs.BTreeMap.{get}
use Rattle.std.specs.List.{position_from}
use Rattle.list_ops.proofs.places.places_of.Given as goal

abbrev pub invariant-loop-i : goal.invariant-loop-i
invariant-loop-i g l = (x : g.row.T.Denot) → get g.T.Ord.cmp l.places x ≡ position_from (λ y. g.T.PartialEq.eq y x) 0 (take l.i l.items)
