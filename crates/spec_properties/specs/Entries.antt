-- What contracts see of the small tables of a layer: entries in the order of their keys.
use Rattle.std.specs.Prelude.{ℕ, ℤ, List}
use Rattle.sdf_values.specs.declared.value.Value.{Value}

-- keys and values of metadata
abbrev pub MetaEntries : Type 0
MetaEntries = List (List ℕ × Value)

-- sets and variants
abbrev pub SelectionEntries : Type 0
SelectionEntries = List (List ℕ × List ℕ)

-- times, in units of 10^-18, and values
abbrev pub SampleEntries : Type 0
SampleEntries = List (ℤ × Value)
