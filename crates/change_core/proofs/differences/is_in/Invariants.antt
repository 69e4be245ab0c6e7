use Rattle.std.proofs.Common.{◌≡◌, take, false}
use Rattle.change_core.specs.Kept.{is_listed}
use Rattle.change_core.proofs.differences.is_in.Given as goal

abbrev pub invariant-loop-other : goal.invariant-loop-other
invariant-loop-other g l = is_listed g.K.Ord.cmp (take l.other-index l.keys) l.key ≡ false
