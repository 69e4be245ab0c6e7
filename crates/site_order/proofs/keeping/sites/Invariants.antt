use Rattle.std.proofs.Common.{◌≡◌, map, take}
use Rattle.composition.specs.Faults.{site_of}
use Rattle.site_order.specs.Places.{trees_shown}
use Rattle.site_order.proofs.keeping.sites.Given as goal

abbrev pub invariant-loop-node : goal.invariant-loop-node
invariant-loop-node l = l.told ≡ map site_of (trees_shown (take l.node-index l.node-items))
