use Rattle.std.proofs.Common.{◌≡◌, ◌++◌, drop}
use Rattle.composition.specs.Trees.{followed}
use Rattle.node_branches.proofs.branches.push_followed.Given as goal

abbrev pub invariant-loop-tried : goal.invariant-loop-tried
invariant-loop-tried l = l.out ++ followed (drop l.tried-index l.arcs) l.kind ≡ l.fn.out ++ followed l.arcs l.kind
