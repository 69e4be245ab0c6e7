use Rattle.std.proofs.Common.{◌≡◌, ◌++◌, map, filter, drop}
use Rattle.std.specs.Prelude.{flat_map}
use Rattle.composition.specs.Faults.{sublayer, is_level_0}
use Rattle.site_order.specs.Groups.{items}
use Rattle.site_order.proofs.faults.push_sublayers.Given as goal

abbrev pub invariant-loop-arc : goal.invariant-loop-arc
invariant-loop-arc l =
    l.out ++ flat_map (λ a. map sublayer a.sublayers) (filter is_level_0 (items (drop l.arc-index l.arcs))) ≡ l.fn.out ++ flat_map (λ a. map sublayer a.sublayers) (filter is_level_0 (items l.arcs))
