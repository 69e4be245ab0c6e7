use Rattle.std.proofs.Common.{◌≡◌, ◌++◌, ◌+◌, ◌*◌, drop}
use Rattle.std.specs.List.{flat_map}
use Rattle.layer_load.specs.Assets.{assets_of_prims, assets_of_set, assets_of_variant, assets_within}
use Rattle.layer_load.proofs.walk.+walk.Given as goal

abbrev pub invariant-push_prims-loop-name : goal.invariant-push_prims-loop-name
invariant-push_prims-loop-name l =
    l.out ++ assets_of_prims l.layer.specs (assets_within l.layer.specs l.levels) l.path (drop l.name-index l.names)
    ≡ l.fn.out ++ assets_of_prims l.layer.specs (assets_within l.layer.specs l.levels) l.path l.names

abbrev pub invariant-push_set-loop-variant : goal.invariant-push_set-loop-variant
invariant-push_set-loop-variant l =
    l.out ++ flat_map (assets_of_variant l.layer.specs (assets_within l.layer.specs l.levels) l.path l.set.set) (drop l.variant-index l.set.variants)
    ≡ l.fn.out ++ flat_map (assets_of_variant l.layer.specs (assets_within l.layer.specs l.levels) l.path l.set.set) l.set.variants

abbrev pub invariant-push_sets-loop-set : goal.invariant-push_sets-loop-set
invariant-push_sets-loop-set l =
    l.out ++ flat_map (assets_of_set l.layer.specs (assets_within l.layer.specs l.levels) l.path) (drop l.set-index l.sets)
    ≡ l.fn.out ++ flat_map (assets_of_set l.layer.specs (assets_within l.layer.specs l.levels) l.path) l.sets

abbrev pub decreases-push_prims : goal.decreases-push_prims
decreases-push_prims l = 8 * l.levels + 2

abbrev pub decreases-push_prim : goal.decreases-push_prim
decreases-push_prim l = 8 * l.levels + 1

abbrev pub decreases-push_sets : goal.decreases-push_sets
decreases-push_sets l = 8 * l.levels + 3

abbrev pub decreases-push_set : goal.decreases-push_set
decreases-push_set l = 8 * l.levels + 2

abbrev pub decreases-push_variant : goal.decreases-push_variant
decreases-push_variant l = 8 * l.levels + 1

abbrev pub decreases-push_within : goal.decreases-push_within
decreases-push_within l = 8 * l.levels
