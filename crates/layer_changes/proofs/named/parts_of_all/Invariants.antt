use Rattle.std.proofs.Common.{take}
use Rattle.std.specs.List.{All, Contains}
use Rattle.layer_changes.specs.Parts.{parts_of}
use Rattle.layer_changes.proofs.named.parts_of_all.Given as goal

abbrev pub invariant-loop-op : goal.invariant-loop-op
invariant-loop-op l = All (λ op. All (Contains l.set.keys) (parts_of op)) (take l.op-index l.ops)
