use Rattle.std.proofs.Common.{◌≡◌, []}
use Rattle.key_sets.specs.Order.{with_keys}
use Rattle.key_sets.proofs.ordering.in_order.Given as goal

-- the keys so far
abbrev pub invariant-loop-key : goal.invariant-loop-key
invariant-loop-key l = l.set.keys ≡ with_keys [] l.yielded
