use Rattle.std.proofs.Common.{◌≡◌, take}
use Rattle.spec_properties.specs.Properties.{property_names}
use Rattle.field_resolve.proofs.names.names_among.Given as goal

abbrev pub invariant-loop-property : goal.invariant-loop-property
invariant-loop-property l = l.names ≡ property_names (take l.property-index l.properties)
