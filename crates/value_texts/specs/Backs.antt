-- A value that is printed and read.
use Rattle.std.specs.Prelude.{◌≡◌, Result, Ok, Err}
use Rattle.sdf_values.specs.declared.value.Value.{Value}
use Rattle.usda_values.specs.declared.fault.ValueFault.{ValueFault}
use Rattle.usda_values.specs.declared.fault.ValueFault.TheVariants.{Refused, NoMemory}

-- the value again, unless memory runs out
abbrev pub GivesBack : Result Value ValueFault → Value → Type 0
GivesBack (Ok v) value = v ≡ value
GivesBack (Err (Refused kind at)) value = ⊥
GivesBack (Err NoMemory) value = Unit {0}
