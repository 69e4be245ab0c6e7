use Rattle.std.proofs.Common.{◌≡◌, ◌++◌, drop}
use Rattle.prim_index.specs.Reading.{sublayer_faults}
use Rattle.prim_index.proofs.reading.sublayer_faults.Given as goal

abbrev pub invariant-loop-fault : goal.invariant-loop-fault
invariant-loop-fault l = l.all ++ sublayer_faults (drop l.fault-index l.faults) ≡ sublayer_faults l.faults
