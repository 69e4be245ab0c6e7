use Rattle.std.proofs.Common.{◌≡◌, suc, drop}
use Rattle.layer_apply.specs.Edits.{edit_from, edit}
use Rattle.layer_apply.proofs.batches.edit_all.Given as goal

abbrev pub invariant-loop-i : goal.invariant-loop-i
invariant-loop-i l = edit_from (suc l.i) (drop l.i l.ops) l.world ≡ edit l.initial.world l.ops
