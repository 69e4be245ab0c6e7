-- What may be missing.
use Rattle.std.specs.Prelude.{Bool, true, false, Option, Some, None, ℤ}
use Rattle.std.specs.BTreeMap.{insert_entry}
use Rattle.sdf_values.specs.contracts.time.TimeCodeOrd.TheImpl.{ghosts as time_order}
use Rattle.sdf_values.specs.declared.value.Value.{Value}
use Rattle.spec_properties.specs.Entries.{SampleEntries}

-- nothing is there
abbrev pub is_missing : {T : Type 0} → Option T → Bool
is_missing (Some x) = false
is_missing None = true

-- samples in order of time, with one more, if it is there
abbrev pub with_sample : SampleEntries → Option (ℤ × Value) → SampleEntries
with_sample samples (Some e) = insert_entry time_order.cmp samples e.0 e.1
with_sample samples None = samples
