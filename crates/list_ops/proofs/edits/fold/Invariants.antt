use Rattle.std.proofs.Common.{◌≡◌, drop}
use Rattle.list_ops.specs.ListEdits.{all_applied, folded}
use Rattle.list_ops.proofs.Skipped.{IsOnce}
use Rattle.list_ops.proofs.edits.fold.Given as goal

abbrev pub invariant-loop-op : goal.invariant-loop-op
invariant-loop-op g l = (all_applied g.T.PartialEq.eq (drop l.op-index l.ops) l.list ≡ folded g.T.PartialEq.eq l.ops) × IsOnce g.T.PartialEq.eq l.is_once l.list
