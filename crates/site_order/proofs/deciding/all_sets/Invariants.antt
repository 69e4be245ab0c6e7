use Rattle.std.proofs.Common.{◌≡◌, ◌++◌, drop}
use Rattle.std.specs.Prelude.{flat_map}
use Rattle.site_order.specs.Places.{trees_shown}
use Rattle.site_order.specs.Said.{sets_of}
use Rattle.site_order.proofs.deciding.all_sets.Given as goal

abbrev pub invariant-loop-node : goal.invariant-loop-node
invariant-loop-node l = l.all ++ flat_map sets_of (trees_shown (drop l.node-index l.nodes)) ≡ flat_map sets_of (trees_shown l.nodes)
