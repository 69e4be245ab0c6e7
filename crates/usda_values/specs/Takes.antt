-- What a call gives that may want memory.
use Rattle.std.specs.Prelude.{◌≡◌, Result, Ok, Err}
use Rattle.sdf_values.specs.declared.value.Value.{Value}
use Rattle.usda_values.specs.declared.fault.PartFault.{PartFault}
use Rattle.usda_values.specs.declared.fault.PartFault.TheVariants.{Refused, NoMemory}
use Rattle.usda_values.specs.Scalars.{Taken}

-- what a call gives: what is taken, unless memory ran out
abbrev pub Gives : Result Value PartFault → Taken → Type 0
Gives (Ok v) taken = taken ≡ Ok v
Gives (Err (Refused k)) taken = taken ≡ Err k
Gives (Err NoMemory) taken = Unit {0}
