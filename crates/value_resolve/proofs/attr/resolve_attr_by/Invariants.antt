use Rattle.std.proofs.Common.{◌≡◌, take}
use Rattle.value_resolve.specs.Resolving.{faults_by}
use Rattle.value_resolve.proofs.Decided.{decided}
use Rattle.value_resolve.proofs.attr.resolve_attr_by.Given as goal

abbrev pub invariant-loop-opinion : goal.invariant-loop-opinion
invariant-loop-opinion l = record { decision : l.decision ≡ decided (take l.opinion-index l.specs); faults : l.faults ≡ faults_by l.name (take l.opinion-index l.specs) }
