use Rattle.std.proofs.Common.{◌≡◌, ◌++◌, take}
use Rattle.prim_reads.specs.Gathered.{arcs_of}
use Rattle.prim_reads.proofs.node.push_arcs.Given as goal

abbrev pub invariant-loop-name : goal.invariant-loop-name
invariant-loop-name l = l.out ≡ l.initial.out ++ arcs_of (take l.name-index l.layers) l.path
