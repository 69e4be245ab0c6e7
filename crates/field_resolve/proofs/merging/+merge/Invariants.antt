use Rattle.std.proofs.Common.{◌≡◌, ◌*◌, ◌+◌, [], fold, take}
use Rattle.composition.specs.Merging.{merged_within, with_item, with_stronger}
use Rattle.field_resolve.proofs.merging.+merge.Given as goal

abbrev pub decreases-merged_within : goal.decreases-merged_within
decreases-merged_within l = l.levels * 4

abbrev pub decreases-over_entry : goal.decreases-over_entry
decreases-over_entry l = l.levels * 4 + 1

abbrev pub decreases-put_over : goal.decreases-put_over
decreases-put_over l = l.levels * 4 + 2

abbrev pub decreases-items_over : goal.decreases-items_over
decreases-items_over l = l.levels * 4 + 3

abbrev pub invariant-items_over-loop-item : goal.invariant-items_over-loop-item
invariant-items_over-loop-item l = l.table ≡ fold (with_stronger (merged_within l.levels)) (fold with_item [] l.others) (take l.item-index l.items)
