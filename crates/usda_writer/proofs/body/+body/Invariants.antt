use Rattle.std.proofs.Common.{◌≡◌, ◌++◌, ◌+◌, ◌*◌, drop, string_bytes}
use Rattle.std.specs.List.{flat_map}
use Rattle.usda_writer.specs.Canonical.{body_text, children_text, set_text, variant_below}
use Rattle.usda_writer.proofs.body.+body.Given as goal

abbrev pub invariant-push_children-loop-name : goal.invariant-push_children-loop-name
invariant-push_children-loop-name l =
    string_bytes l.out ++ children_text l.layer.specs (body_text l.layer.specs l.levels) l.level l.path (drop l.name-index l.names)
    ≡ string_bytes l.fn.out ++ children_text l.layer.specs (body_text l.layer.specs l.levels) l.level l.path l.names

abbrev pub invariant-push_variants-loop-variant : goal.invariant-push_variants-loop-variant
invariant-push_variants-loop-variant l =
    string_bytes l.out ++ flat_map (variant_below l.layer.specs (body_text l.layer.specs l.levels) l.level l.path l.set.set) (drop l.variant-index l.set.variants)
    ≡ string_bytes l.fn.out ++ flat_map (variant_below l.layer.specs (body_text l.layer.specs l.levels) l.level l.path l.set.set) l.set.variants

abbrev pub invariant-push_sets-loop-set : goal.invariant-push_sets-loop-set
invariant-push_sets-loop-set l =
    string_bytes l.out ++ flat_map (set_text l.layer.specs (body_text l.layer.specs l.levels) l.level l.path) (drop l.set-index l.sets)
    ≡ string_bytes l.fn.out ++ flat_map (set_text l.layer.specs (body_text l.layer.specs l.levels) l.level l.path) l.sets

abbrev pub decreases-push_children : goal.decreases-push_children
decreases-push_children l = 8 * l.levels + 2

abbrev pub decreases-push_child : goal.decreases-push_child
decreases-push_child l = 8 * l.levels + 1

abbrev pub decreases-push_sets : goal.decreases-push_sets
decreases-push_sets l = 8 * l.levels + 4

abbrev pub decreases-push_set : goal.decreases-push_set
decreases-push_set l = 8 * l.levels + 3

abbrev pub decreases-push_variants : goal.decreases-push_variants
decreases-push_variants l = 8 * l.levels + 2

abbrev pub decreases-push_variant : goal.decreases-push_variant
decreases-push_variant l = 8 * l.levels + 1

abbrev pub decreases-push_body : goal.decreases-push_body
decreases-push_body l = 8 * l.levels
