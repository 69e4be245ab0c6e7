use Rattle.std.proofs.Common.{◌≡◌, ◌++◌, drop}
use Rattle.prim_index.specs.Reading.{chosen_all}
use Rattle.prim_index.proofs.reading.variants.Given as goal

abbrev pub invariant-loop-level : goal.invariant-loop-level
invariant-loop-level l = l.all ++ chosen_all l.node (drop l.level-index l.levels) ≡ chosen_all l.node l.levels
