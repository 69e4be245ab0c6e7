use Rattle.std.proofs.Common.{◌≡◌, drop}
use Rattle.layer_edit.specs.Offsets.{item_of, all_of}
use Rattle.layer_edit.proofs.AllOf.{behind}
use Rattle.layer_edit.proofs.offsets.items_of.Given as goal

abbrev pub invariant-loop-reference : goal.invariant-loop-reference
invariant-loop-reference l = behind l.items (all_of item_of (drop l.reference-index l.written)) ≡ all_of item_of l.written
