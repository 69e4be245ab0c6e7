use Rattle.std.proofs.Common.{◌≡◌, ◌++◌, drop}
use Rattle.layer_set.specs.LookUps.{look_ups}
use Rattle.prim_index.specs.Reading.{tried_kind}
use Rattle.prim_index.proofs.reading.push_kind.Given as goal

abbrev pub invariant-loop-level : goal.invariant-loop-level
invariant-loop-level l =
    l.out ++ tried_kind (look_ups l.world) l.node (drop l.level-index l.levels) l.kind ≡ l.fn.out ++ tried_kind (look_ups l.world) l.node l.levels l.kind
