-- Selections with an entry more.
use Rattle.std.proofs.Common.{◌≡◌, List, [], ◌∷◌, ◌++◌, map, refl}
use Rattle.sdf_values.specs.declared.value.DictItem.{DictItem}
use Rattle.spec_properties.specs.Entries.{SelectionEntries}
use Rattle.usda_fields.specs.Variants.{with_selection, with_selections, said, entry_of}

pub selections_more : (items : List DictItem) (item : DictItem) (s : SelectionEntries) →
    with_selections (map entry_of (items ++ item ∷ [])) s ≡ with_selection item.key (said item.value).text (with_selections (map entry_of items) s)
selections_more [] item s = refl
selections_more (x ∷ items) item s = selections_more items item (with_selection x.key (said x.value).text s)
