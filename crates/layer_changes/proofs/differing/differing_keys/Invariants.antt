use Rattle.std.proofs.Common.{take}
use Rattle.layer_changes.specs.Changed.{IsChangedKey}
use Rattle.layer_changes.specs.Covering.{Keeps}
use Rattle.layer_changes.proofs.differing.differing_keys.Given as goal

abbrev pub invariant-loop-key : goal.invariant-loop-key
invariant-loop-key l = Keeps (IsChangedKey l.old l.new) (take l.key-index l.keys) l.changed
