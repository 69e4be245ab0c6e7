use Rattle.std.proofs.Common.{◌≡◌, ◌++◌}
use Rattle.prim_reads.specs.Gathered.{first_levels}
use Rattle.prim_reads.proofs.node.push_levels.Given as goal

-- the arcs at the levels so far
abbrev pub invariant-loop-level : goal.invariant-loop-level
invariant-loop-level l = l.out ≡ l.initial.out ++ first_levels l.layers l.path l.level
