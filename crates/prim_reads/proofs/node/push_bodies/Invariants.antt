use Rattle.std.proofs.Common.{◌≡◌, ◌++◌, take}
use Rattle.prim_reads.specs.Gathered.{bodies_of}
use Rattle.prim_reads.proofs.node.push_bodies.Given as goal

abbrev pub invariant-loop-name : goal.invariant-loop-name
invariant-loop-name l = l.out ≡ l.initial.out ++ bodies_of (take l.name-index l.layers) l.path
