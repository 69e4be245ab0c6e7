use Rattle.std.proofs.Common.{◌≡◌, ◌||◌, take}
use Rattle.std.specs.BTreeSet.{contains}
use Rattle.change_core.specs.Kept.{is_listed}
use Rattle.change_core.proofs.differences.add_keys.Given as goal

abbrev pub invariant-loop-key : goal.invariant-loop-key
invariant-loop-key g l = (k : g.row.K.Denot) → contains g.K.Ord.cmp l.set k ≡ (contains g.K.Ord.cmp l.fn.set k || is_listed g.K.Ord.cmp (take l.key-index l.keys) k)
