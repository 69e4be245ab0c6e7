use Rattle.std.proofs.Common.{◌≡◌, take}
use Rattle.prim_index.specs.Once.{faults_once}
use Rattle.prim_index.proofs.Faulted.{AreNoted, once_so_far}
use Rattle.prim_index.proofs.faults.faults_once.Given as goal

abbrev pub invariant-loop-fault : goal.invariant-loop-fault
invariant-loop-fault l = record {
  once : once_so_far l.faults l.fault-index l.once ≡ faults_once l.faults;
  noted : AreNoted l.met (take l.fault-index l.faults);
}
