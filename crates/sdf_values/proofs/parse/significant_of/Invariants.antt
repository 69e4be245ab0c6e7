use Rattle.std.proofs.Common.{◌≤◌, take}
use Rattle.sdf_values.specs.NumberTexts.{digits_number}
use Rattle.sdf_values.specs.Places.{Keeps}
use Rattle.sdf_values.proofs.parse.significant_of.Given as goal

abbrev pub invariant-loop-byte : goal.invariant-loop-byte
invariant-loop-byte l = record {
  kept : Keeps l.kept (digits_number (take l.byte-index l.text));
  few : l.kept.zeros ≤ l.byte-index;
}
