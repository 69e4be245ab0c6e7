use Rattle.std.proofs.Common.{◌≡◌, ◌++◌, map, drop, string_bytes}
use Rattle.sdf_values.specs.Print.{print, print_item, listed, listed_from, lines}
use Rattle.sdf_values.specs.declared.value.DictItem.{out-DictItem}
use Rattle.sdf_values.proofs.print.+print.Given as goal

abbrev pub invariant-push_list-loop-value : goal.invariant-push_list-loop-value
invariant-push_list-loop-value l =
    string_bytes l.out ++ listed_from l.is_first (map print (drop l.value-index l.values)) l.indent ≡ string_bytes l.fn.out ++ listed (map print l.values) l.indent

abbrev pub invariant-push_items-loop-item : goal.invariant-push_items-loop-item
invariant-push_items-loop-item l =
    string_bytes l.out ++ lines (map (λ item. print_item (record { key = (out-DictItem item).key; ty = (out-DictItem item).ty; value = print (out-DictItem item).value })) (drop l.item-index l.items)) l.indent
    ≡ string_bytes l.fn.out ++ lines (map (λ item. print_item (record { key = (out-DictItem item).key; ty = (out-DictItem item).ty; value = print (out-DictItem item).value })) l.items) l.indent
