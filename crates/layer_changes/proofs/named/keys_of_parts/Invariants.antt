use Rattle.std.proofs.Common.{take}
use Rattle.std.specs.List.{All}
use Rattle.layer_changes.specs.Covering.{Names}
use Rattle.layer_changes.proofs.named.keys_of_parts.Given as goal

abbrev pub invariant-loop-part : goal.invariant-loop-part
invariant-loop-part l = All (Names l.old l.new l.set.keys) (take l.part-index l.parts)
