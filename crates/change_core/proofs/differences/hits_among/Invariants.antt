use Rattle.std.proofs.Common.{◌≡◌, ◌&&◌, take}
use Rattle.std.specs.BTreeSet.{contains}
use Rattle.change_core.specs.Kept.{is_listed}
use Rattle.change_core.proofs.differences.hits_among.Given as goal

abbrev pub invariant-loop-key : goal.invariant-loop-key
invariant-loop-key g l = (k : g.row.K.Denot) → is_listed g.K.Ord.cmp l.hits k ≡ (is_listed g.K.Ord.cmp (take l.key-index l.keys) k && contains g.K.Ord.cmp l.changed k)
