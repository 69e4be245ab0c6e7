use Rattle.std.proofs.Common.{◌≡◌, ◌^◌, min, take}
use Rattle.sdf_values.specs.NumberTexts.{digits_number}
use Rattle.sdf_values.proofs.parse.capped_number.Given as goal

abbrev pub invariant-loop-byte : goal.invariant-loop-byte
invariant-loop-byte l = l.number ≡ min (digits_number (take l.byte-index l.text)) (10 ^ 30)
