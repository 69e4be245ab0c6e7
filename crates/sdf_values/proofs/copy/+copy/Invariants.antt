use Rattle.std.proofs.Common.{◌≡◌, take}
use Rattle.sdf_values.proofs.copy.+copy.Given as goal

abbrev pub invariant-copy_dict-loop-item : goal.invariant-copy_dict-loop-item
invariant-copy_dict-loop-item l = l.copies ≡ take l.item-index l.items

abbrev pub invariant-copy_values-loop-item : goal.invariant-copy_values-loop-item
invariant-copy_values-loop-item l = l.copies ≡ take l.item-index l.items
