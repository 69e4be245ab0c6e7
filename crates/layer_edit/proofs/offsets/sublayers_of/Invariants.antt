use Rattle.std.proofs.Common.{◌≡◌, drop}
use Rattle.layer_edit.specs.Offsets.{sublayer_of, all_of}
use Rattle.layer_edit.proofs.AllOf.{behind}
use Rattle.layer_edit.proofs.offsets.sublayers_of.Given as goal

abbrev pub invariant-loop-reference : goal.invariant-loop-reference
invariant-loop-reference l = behind l.sublayers (all_of sublayer_of (drop l.reference-index l.written)) ≡ all_of sublayer_of l.written
