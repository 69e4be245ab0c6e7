use Rattle.std.proofs.Common.{◌≡◌, map, take}
use Rattle.layer_edit.specs.Typing.{kept, kept_all, kept_entry}
use Rattle.layer_edit.proofs.typing.+kept.Given as goal

abbrev pub invariant-kept_all-loop-value : goal.invariant-kept_all-loop-value
invariant-kept_all-loop-value l = l.all ≡ kept_all (map kept (take l.value-index l.values)) l.is_typed

abbrev pub invariant-kept_dict-loop-item : goal.invariant-kept_dict-loop-item
invariant-kept_dict-loop-item l = l.all ≡ map kept_entry (take l.item-index l.items)
