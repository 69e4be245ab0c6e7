use Rattle.std.proofs.Common.{◌≡◌, ◌++◌, drop}
use Rattle.std.specs.Prelude.{flat_map}
use Rattle.composition.specs.Faults.{node_faults}
use Rattle.site_order.specs.Places.{trees_shown}
use Rattle.site_order.proofs.faults.faults_of_all.Given as goal

abbrev pub invariant-loop-node : goal.invariant-loop-node
invariant-loop-node l = l.faults ++ flat_map node_faults (trees_shown (drop l.node-index l.nodes)) ≡ flat_map node_faults (trees_shown l.nodes)
