use Rattle.std.proofs.Common.{◌≡◌, drop}
use Rattle.prim_view.specs.Looks.{property_of}
use Rattle.prim_view.proofs.look.property_named.Given as goal

abbrev pub invariant-loop-property : goal.invariant-loop-property
invariant-loop-property l = property_of l.name (drop l.property-index l.properties) ≡ property_of l.name l.properties
