use Rattle.std.proofs.Common.{◌≡◌, map, drop}
use Rattle.sdf_values.specs.declared.value.DictItem.{out-DictItem}
use Rattle.composition.specs.Values.{all_some, mapped_value, mapped_item}
use Rattle.value_resolve.proofs.Inside.{joined}
use Rattle.value_resolve.proofs.mapping.+mapped.Given as goal

abbrev pub invariant-mapped_values-loop-item : goal.invariant-mapped_values-loop-item
invariant-mapped_values-loop-item l = joined l.kept (all_some (map (mapped_value l.offset) (drop l.item-index l.items))) ≡ all_some (map (mapped_value l.offset) l.items)

abbrev pub invariant-mapped_dict-loop-item : goal.invariant-mapped_dict-loop-item
invariant-mapped_dict-loop-item l =
    joined l.kept (all_some (map (λ item. mapped_item (record { key = (out-DictItem item).key; ty = (out-DictItem item).ty; value = mapped_value l.offset (out-DictItem item).value })) (drop l.item-index l.items)))
    ≡ all_some (map (λ item. mapped_item (record { key = (out-DictItem item).key; ty = (out-DictItem item).ty; value = mapped_value l.offset (out-DictItem item).value })) l.items)
