use Rattle.std.proofs.Common.{◌≡◌, drop}
use Rattle.std.specs.List.{list_any}
use Rattle.layer_edit.specs.Offsets.{is_bad_item}
use Rattle.layer_edit.proofs.offsets.has_bad_item.Given as goal

abbrev pub invariant-loop-item : goal.invariant-loop-item
invariant-loop-item l = list_any (is_bad_item l.layer) (drop l.item-index l.items) ≡ list_any (is_bad_item l.layer) l.items
