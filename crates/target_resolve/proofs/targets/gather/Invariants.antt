use Rattle.std.proofs.Common.{◌≡◌, take}
use Rattle.target_resolve.specs.Resolving.{ops_by, faults_by}
use Rattle.target_resolve.proofs.targets.gather.Given as goal

abbrev pub invariant-loop-opinion : goal.invariant-loop-opinion
invariant-loop-opinion l = record { ops : l.ops ≡ ops_by (take l.opinion-index l.specs); faults : l.faults ≡ faults_by l.name (take l.opinion-index l.specs) }
