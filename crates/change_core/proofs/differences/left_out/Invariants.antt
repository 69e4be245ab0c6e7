use Rattle.std.proofs.Common.{◌≡◌, ◌&&◌, not, take}
use Rattle.change_core.specs.Kept.{is_listed}
use Rattle.change_core.proofs.differences.left_out.Given as goal

abbrev pub invariant-loop-key : goal.invariant-loop-key
invariant-loop-key g l = (k : g.row.K.Denot) → is_listed g.K.Ord.cmp l.left k ≡ (is_listed g.K.Ord.cmp (take l.key-index l.keys) k && not (is_listed g.K.Ord.cmp l.others k))
