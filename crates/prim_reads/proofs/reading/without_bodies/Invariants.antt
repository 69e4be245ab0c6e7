use Rattle.std.proofs.Common.{◌≡◌, ◌++◌, drop}
use Rattle.prim_reads.specs.Gathered.{without_bodies}
use Rattle.prim_reads.proofs.reading.without_bodies.Given as goal

abbrev pub invariant-loop-key : goal.invariant-loop-key
invariant-loop-key l = l.kept ++ without_bodies (drop l.key-index l.keys) ≡ without_bodies l.keys
