use Rattle.std.proofs.Common.{◌≡◌, ◌++◌, filter, drop}
use Rattle.composition.specs.Faults.{is_followed}
use Rattle.site_order.specs.Groups.{items}
use Rattle.site_order.proofs.faults.followed.Given as goal

abbrev pub invariant-loop-arc : goal.invariant-loop-arc
invariant-loop-arc l = items l.kept.items ++ filter (λ a. is_followed a.fault) (items (drop l.arc-index l.arcs)) ≡ filter (λ a. is_followed a.fault) (items l.arcs)
