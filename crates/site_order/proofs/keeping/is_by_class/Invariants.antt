use Rattle.std.proofs.Common.{◌≡◌, drop}
use Rattle.std.specs.List.{list_any}
use Rattle.composition.specs.Opinions.{is_class_map}
use Rattle.site_order.proofs.keeping.is_by_class.Given as goal

abbrev pub invariant-loop-map : goal.invariant-loop-map
invariant-loop-map l = list_any is_class_map (drop l.map-index l.maps) ≡ list_any is_class_map l.maps
