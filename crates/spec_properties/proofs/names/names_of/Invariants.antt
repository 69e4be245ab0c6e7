use Rattle.std.proofs.Common.{◌≡◌, [], drop}
use Rattle.indexmap.specs.IndexSet.{insert_all}
use Rattle.spec_properties.specs.Properties.{property_names, same_name}
use Rattle.spec_properties.proofs.names.names_of.Given as goal

abbrev pub invariant-loop-property : goal.invariant-loop-property
invariant-loop-property l = insert_all same_name l.names.keys (property_names (drop l.property-index l.list)) ≡ insert_all same_name [] (property_names l.list)
