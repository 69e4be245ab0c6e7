use Rattle.std.proofs.Common.{◌≡◌, [], drop}
use Rattle.flatten.specs.Flattened.{with_properties}
use Rattle.flatten.proofs.prim.flat_properties.Given as goal

abbrev pub invariant-loop-property : goal.invariant-loop-property
invariant-loop-property l = with_properties (drop l.property-index l.properties) l.flat ≡ with_properties l.properties []
