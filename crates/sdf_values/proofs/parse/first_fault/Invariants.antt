use Rattle.std.proofs.Common.{◌≡◌, List, ℕ, ◌++◌, take}
use Rattle.sdf_values.specs.NumberTexts.{is_number}
use Rattle.sdf_values.specs.Places.{accepts}
use Rattle.sdf_values.proofs.parse.first_fault.Given as goal

abbrev pub invariant-loop-at : goal.invariant-loop-at
invariant-loop-at l = (rest : List ℕ) → is_number (take l.at l.text ++ rest) ≡ accepts l.place rest
