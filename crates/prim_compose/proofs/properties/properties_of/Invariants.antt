use Rattle.std.proofs.Common.{◌≡◌, take}
use Rattle.std.specs.Prelude.{flat_map}
use Rattle.prim_opinions.specs.Counting.{counted}
use Rattle.prim_compose.specs.Composed.{property_views, faults_of_property}
use Rattle.prim_compose.proofs.properties.properties_of.Given as goal

abbrev pub invariant-loop-name : goal.invariant-loop-name
invariant-loop-name l = record {
  views : l.properties.views ≡ flat_map (λ name. property_views name (counted name l.said)) (take l.name-index l.name-items);
  faults : l.properties.faults ≡ flat_map (λ name. faults_of_property name (counted name l.said)) (take l.name-index l.name-items);
}
