use Rattle.std.proofs.Common.{◌≡◌, [], fold, take}
use Rattle.composition.specs.Merging.{with_item}
use Rattle.field_resolve.proofs.merging.by_key.Given as goal

abbrev pub invariant-loop-item : goal.invariant-loop-item
invariant-loop-item l = l.table ≡ fold with_item [] (take l.item-index l.items)
