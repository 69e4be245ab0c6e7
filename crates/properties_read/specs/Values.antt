-- Values of attributes.
use Rattle.std.specs.Prelude.{Option, Some, None}
use Rattle.std.specs.Ordering.{int_cmp}
use Rattle.sdf_values.specs.declared.type_name.TypeName.{TypeName}
use Rattle.sdf_values.specs.declared.value.Value.{Value}
use Rattle.spec_properties.specs.Entries.{SampleEntries}
use Rattle.spec_tables.specs.Tables.{IsTable}
use Rattle.value_returns.specs.Proper.{IsProperValue, IsProperDefault, IsProperSample}
use Rattle.value_texts.specs.Each.{AreAll}

-- a value of an attribute's type; what a relationship would say by a value is dropped
abbrev pub IsValueOf : Option TypeName → Value → Type 0
IsValueOf None v = Unit {0}
IsValueOf (Some ty) v = IsProperValue ty v

-- a default of the type, and samples of it in the order of their times, each time once
pub record AreValues (ty : TypeName) (default : Option Value) (samples : SampleEntries) : Type 0 where
  pub defaulted : IsProperDefault ty default
  pub times : IsTable int_cmp samples
  pub sampled : AreAll (IsProperSample ty) samples

-- what an attribute says by values; a relationship says nothing by them
abbrev pub AreValuesOf : Option TypeName → Option Value → SampleEntries → Type 0
AreValuesOf None default samples = Unit {0}
AreValuesOf (Some ty) default samples = AreValues ty default samples
