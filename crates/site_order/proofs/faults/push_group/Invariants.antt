use Rattle.std.proofs.Common.{◌≡◌, ◌++◌, drop}
use Rattle.composition.specs.Faults.{faults_of}
use Rattle.site_order.specs.Groups.{items, is_among, is_told}
use Rattle.site_order.proofs.faults.push_group.Given as goal

abbrev pub invariant-loop-arc : goal.invariant-loop-arc
invariant-loop-arc l =
    l.out ++ faults_of (is_among l.group) (is_told l.group) l.node (items (drop l.arc-index l.arcs)) ≡ l.fn.out ++ faults_of (is_among l.group) (is_told l.group) l.node (items l.arcs)
