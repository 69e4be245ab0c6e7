use Rattle.std.proofs.Common.{◌≡◌, take}
use Rattle.std.specs.BTreeMap.{get}
use Rattle.stage_publish.specs.Editions.{index_of}
use Rattle.stage_publish.proofs.places.indices.Given as goal

abbrev pub invariant-loop-i : goal.invariant-loop-i
invariant-loop-i g l = (p : g.row.P.Denot) → get g.P.Ord.cmp l.indices p ≡ index_of g.P.Ord.cmp p (take l.i l.items)
