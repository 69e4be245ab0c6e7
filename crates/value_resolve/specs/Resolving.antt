-- The values of an attribute by its specs.
use Rattle.std.specs.Prelude.{Bool, List, [], ◌∷◌, cond, map, Option}
use Rattle.sdf_values.specs.declared.value.Value.{Value}
use Rattle.spec_properties.specs.Entries.{SampleEntries}
use Rattle.prim_view.specs.declared.fault.PrimFault.{PrimFault}
use Rattle.prim_view.specs.declared.fault.PrimFault.TheVariants.{TimeOutside}
use Rattle.composition.specs.Opinions.{Said}
use Rattle.composition.specs.Texts.{Text}
use Rattle.composition.specs.Values.{PropertySaid, given, deciding_default, deciding_samples, time_faults}

-- the default that decides
unfoldable pub default_by : List PropertySaid → Option Value
default_by ps = deciding_default (map given ps)

-- the samples that decide
unfoldable pub samples_by : List PropertySaid → SampleEntries
samples_by ps = deciding_samples (map given ps)

-- the faults of opinions of which something leaves the range of times
unfoldable pub faults_by : Text → List PropertySaid → List PrimFault
faults_by name ps = map TimeOutside (time_faults name ps)

-- the fault of one opinion, if something of it is left out
abbrev pub fault_if : Text → Said → Bool → List PrimFault
fault_if name s left_out = cond left_out (TimeOutside (record { layer = s.layer; site = s.site.path; name = name }) ∷ []) []
