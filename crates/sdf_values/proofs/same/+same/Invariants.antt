use Rattle.std.proofs.Common.{◌≡◌, take, length}
use Rattle.sdf_values.proofs.same.+same.Given as goal

abbrev pub invariant-same_values-loop-i : goal.invariant-same_values-loop-i
invariant-same_values-loop-i l = (take l.i l.a ≡ take l.i l.b) × (length l.a ≡ length l.b)

abbrev pub invariant-same_items-loop-i : goal.invariant-same_items-loop-i
invariant-same_items-loop-i l = (take l.i l.a ≡ take l.i l.b) × (length l.a ≡ length l.b)
