use Rattle.std.proofs.Common.{take}
use Rattle.std.specs.List.{All, Contains}
use Rattle.layer_set.specs.declared.key.Key.{Key}
use Rattle.layer_changes.specs.Covering.{HasSpec}
use Rattle.layer_changes.proofs.trees.add_specs.Given as goal

abbrev pub invariant-loop-path : goal.invariant-loop-path
invariant-loop-path l = All (HasSpec l.keys.keys l.name) (take l.path-index l.paths) × ((k : Key) → Contains l.fn.keys.keys k → Contains l.keys.keys k)
