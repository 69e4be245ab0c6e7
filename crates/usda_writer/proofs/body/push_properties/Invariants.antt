use Rattle.std.proofs.Common.{◌≡◌, ◌++◌, string_bytes}
use Rattle.std.specs.List.{flat_map}
use Rattle.usda_writer.specs.Properties.{property_lines}
use Rattle.usda_writer.proofs.body.push_properties.Given as goal

abbrev pub invariant-loop-property : goal.invariant-loop-property
invariant-loop-property l = string_bytes l.out ++ flat_map (property_lines l.level) l.property-iterator.rest.now ≡ string_bytes l.fn.out ++ flat_map (property_lines l.level) l.properties
