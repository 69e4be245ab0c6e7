use Rattle.std.proofs.Common.{◌≡◌, map, drop}
use Rattle.sdf_values.specs.Proper.{all_true}
use Rattle.value_shapes.specs.Held.{is_held, is_held_item}
use Rattle.value_shapes.proofs.held.+read.Given as goal

abbrev pub invariant-read_all-loop-value : goal.invariant-read_all-loop-value
invariant-read_all-loop-value l = all_true (map is_held (drop l.value-index l.values)) ≡ all_true (map is_held l.values)

abbrev pub invariant-read_items-loop-item : goal.invariant-read_items-loop-item
invariant-read_items-loop-item l = all_true (map is_held_item (drop l.item-index l.items)) ≡ all_true (map is_held_item l.items)
