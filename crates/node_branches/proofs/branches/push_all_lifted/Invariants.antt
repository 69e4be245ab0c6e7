use Rattle.std.proofs.Common.{◌≡◌, ◌++◌, flat_map, drop}
use Rattle.node_branches.specs.Branches.{lifted_of}
use Rattle.node_branches.proofs.branches.push_all_lifted.Given as goal

abbrev pub invariant-loop-class : goal.invariant-loop-class
invariant-loop-class l = l.out ++ flat_map (lifted_of l.kind l.node l.own) (drop l.class-index l.classes) ≡ l.fn.out ++ flat_map (lifted_of l.kind l.node l.own) l.classes
