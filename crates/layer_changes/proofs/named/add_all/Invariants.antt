use Rattle.std.proofs.Common.{take}
use Rattle.std.specs.List.{All, Contains}
use Rattle.layer_changes.specs.declared.part.Part.{Part}
use Rattle.layer_changes.proofs.named.add_all.Given as goal

abbrev pub invariant-loop-part : goal.invariant-loop-part
invariant-loop-part l = All (Contains l.set.keys) (take l.part-index l.parts) × ((p : Part) → Contains l.fn.set.keys p → Contains l.set.keys p)
