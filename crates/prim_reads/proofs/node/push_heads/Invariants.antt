use Rattle.std.proofs.Common.{◌≡◌, ◌++◌, map, take}
use Rattle.layer_set.specs.declared.key.Key.TheVariants.{Head}
use Rattle.prim_reads.proofs.node.push_heads.Given as goal

abbrev pub invariant-loop-name : goal.invariant-loop-name
invariant-loop-name l = l.out ≡ l.initial.out ++ map Head (take l.name-index l.names)
