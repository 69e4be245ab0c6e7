use Rattle.std.proofs.Common.{◌≡◌, ◌++◌, filter, drop}
use Rattle.composition.specs.Arcs.{same_kind}
use Rattle.site_order.specs.Groups.{items}
use Rattle.site_order.proofs.faults.arcs_of_kind.Given as goal

abbrev pub invariant-loop-arc : goal.invariant-loop-arc
invariant-loop-arc l = items l.arcs.items ++ filter (λ a. same_kind l.kind a.kind) (drop l.arc-index l.all) ≡ filter (λ a. same_kind l.kind a.kind) l.all
