use Rattle.std.proofs.Common.{◌≡◌, ◌++◌, map}
use Rattle.field_resolve.proofs.merging.in_order.Given as goal

abbrev pub invariant-loop-item : goal.invariant-loop-item
invariant-loop-item l = l.items ++ map (λ e. e.1) l.item-iterator ≡ map (λ e. e.1) l.table
