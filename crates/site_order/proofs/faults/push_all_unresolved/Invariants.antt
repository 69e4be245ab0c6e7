use Rattle.std.proofs.Common.{◌≡◌, ◌++◌, drop}
use Rattle.std.specs.Prelude.{flat_map, zip}
use Rattle.composition.specs.Faults.{unresolved}
use Rattle.site_order.specs.Groups.{items}
use Rattle.site_order.specs.Places.{trees_shown}
use Rattle.site_order.proofs.faults.push_all_unresolved.Given as goal

abbrev pub invariant-loop-i : goal.invariant-loop-i
invariant-loop-i l =
    l.out ++ flat_map (unresolved l.node) (zip (items (drop l.i l.arcs)) (trees_shown (drop l.i l.children))) ≡ l.fn.out ++ flat_map (unresolved l.node) (zip (items l.arcs) (trees_shown l.children))
