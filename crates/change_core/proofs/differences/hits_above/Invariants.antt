use Rattle.std.proofs.Common.{◌≡◌, ◌&&◌, not, take}
use Rattle.change_core.specs.Kept.{is_listed}
use Rattle.change_core.proofs.differences.hits_above.Given as goal

abbrev pub invariant-loop-key : goal.invariant-loop-key
invariant-loop-key g l = (k : g.row.K.Denot) → is_listed g.K.Ord.cmp l.hits k ≡ (is_listed g.K.Ord.cmp (take l.key-index l.above) k && not (is_listed g.K.Ord.cmp l.dropped k))
