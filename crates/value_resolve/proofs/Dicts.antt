-- A dictionary through an offset, entry by entry.
use Rattle.std.proofs.Common.{◌≡◌, ◌∙◌, sym, ap, map, List, Option}
use Rattle.sdf_values.specs.Scales.{Offset}
use Rattle.sdf_values.specs.declared.value.Value.{Value, fold-Value, fold-roll-Value}
use Rattle.sdf_values.specs.declared.value.Value.TheOpen.{Value-F}
use Rattle.sdf_values.specs.declared.value.Value.TheVariants as value
use Rattle.sdf_values.specs.declared.value.Value.TheVariants.{rolls-Dict}
use Rattle.sdf_values.specs.declared.value.DictItem.{DictItem, out-DictItem, fold-DictItem, fold-roll-DictItem}
use Rattle.composition.specs.Values.{if_value, all_some, mapped_step, mapped_item, mapped_value}

module _ (o : Offset) where
  abbrev pub entry : DictItem → Option DictItem
  entry item = mapped_item (record { key = (out-DictItem item).key; ty = (out-DictItem item).ty; value = mapped_value o (out-DictItem item).value })

  entry_is : (item : DictItem) → fold-DictItem (Option Value) (Option DictItem) (mapped_step o) mapped_item item ≡ entry item
  entry_is item = fold-roll-DictItem (Option Value) (Option DictItem) (mapped_step o) mapped_item (record { key = (out-DictItem item).key; ty = (out-DictItem item).ty; value = (out-DictItem item).value })

  entries_are : (items : List DictItem) → map (fold-DictItem (Option Value) (Option DictItem) (mapped_step o) mapped_item) items ≡ map entry items
  entries_are items = ap (λ (f : DictItem → Option DictItem). map f items) (λ i item. entry_is item i)

  pub dict_is : (items : List DictItem) → if_value value.Dict (all_some (map entry items)) ≡ mapped_value o (value.Dict items)
  dict_is items =
      sym (ap (fold-Value (Option Value) (Option DictItem) (mapped_step o) mapped_item) (sym (rolls-Dict items))
      ∙ (fold-roll-Value (Option Value) (Option DictItem) (mapped_step o) mapped_item (Value-F.Dict items)
      ∙ ap (λ (kept : List (Option DictItem)). if_value value.Dict (all_some kept)) (entries_are items)))
