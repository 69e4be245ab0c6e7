use Rattle.std.proofs.Common.{◌≡◌, ◌++◌, map, drop}
use Rattle.composition.specs.Faults.{sublayer}
use Rattle.site_order.proofs.faults.push_sublayer_faults.Given as goal

abbrev pub invariant-loop-fault : goal.invariant-loop-fault
invariant-loop-fault l = l.out ++ map sublayer (drop l.fault-index l.faults) ≡ l.fn.out ++ map sublayer l.faults
