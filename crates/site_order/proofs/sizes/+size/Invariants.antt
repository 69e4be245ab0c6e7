use Rattle.std.proofs.Common.{◌≡◌, ◌+◌, ◌-◌, ◌^◌, ◌≤◌, min, sum_by, drop}
use Rattle.site_order.specs.Sizes.{child_size}
use Rattle.site_order.proofs.sizes.+size.Given as goal

abbrev pub invariant-size_among-loop-child : goal.invariant-size_among-loop-child
invariant-size_among-loop-child l =
    (l.count ≤ 2 ^ 64 - 1) × (min (l.count + sum_by child_size (drop l.child-index l.children)) (2 ^ 64 - 1) ≡ min (sum_by child_size l.children) (2 ^ 64 - 1))
