use Rattle.std.proofs.Common.{◌≡◌, drop}
use Rattle.std.specs.List.{position_from}
use Rattle.list_ops.proofs.places.place_in.Given as goal

abbrev pub invariant-loop-i : goal.invariant-loop-i
invariant-loop-i g l = position_from (λ y. g.T.PartialEq.eq y l.item) l.i (drop l.i l.items) ≡ position_from (λ y. g.T.PartialEq.eq y l.item) 0 l.items
