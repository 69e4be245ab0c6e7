use Rattle.std.proofs.Common.{◌≡◌, ◌++◌, map, take}
use Rattle.target_resolve.specs.Translating.{outside}
use Rattle.target_resolve.proofs.targets.push_faults.Given as goal

abbrev pub invariant-loop-target : goal.invariant-loop-target
invariant-loop-target l = l.faults ≡ l.initial.faults ++ map (outside l.name l.said) (take l.target-index l.lost)
