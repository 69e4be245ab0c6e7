-- Offsets, references and sublayers as they are written.
use Rattle.std.specs.Prelude.{ℕ, ℤ, pos, Bool, false, not, ◌&&◌, ◌||◌, nat_le, int_le, unsigned_abs, if◌then◌else◌, List, [], ◌∷◌, Option, Some, None, is_some}
use Rattle.sdf_paths.specs.declared.element.Element.{Element}
use Rattle.sdf_values.specs.Scales.{Offset}
use Rattle.spec_parts.specs.declared.items.RefItem.{RefItem}
use Rattle.spec_parts.specs.declared.items.SubLayer.{SubLayer}
use Rattle.usda_lists.specs.Offsets.{whole_number}
use Rattle.composition.specs.Assets.{anchor}
use Rattle.layer_edit.specs.Places.{is_plain_prim}
use Rattle.edit_batches.specs.declared.written.WrittenOffset.{WrittenOffset}
use Rattle.edit_batches.specs.declared.written.WrittenReference.{WrittenReference}
use Rattle.edit_batches.specs.declared.written.WrittenSubLayer.{WrittenSubLayer}

-- a scale from 1 to a million, an offset within a thousand million of 0
abbrev pub in_bounds : ℤ → ℤ → Bool
in_bounds offset scale = nat_le (unsigned_abs offset) 1000000000 && (int_le (pos 1) scale && int_le scale (pos 1000000))

-- offset and scale have to be whole numbers in bounds
abbrev pub offset_of_wholes : Option ℤ → Option ℤ → Option Offset
offset_of_wholes (Some offset) (Some scale) = if in_bounds offset scale then Some (record { offset = offset; scale = scale }) else None
offset_of_wholes offset scale = None

-- the offset that is written; none where it is out of range
unfoldable pub offset_of : WrittenOffset → Option Offset
offset_of w = offset_of_wholes (whole_number w.offset) (whole_number w.scale)

module _ {A B : Type 0} (one_of : A → Option B) where
  -- one in front of the others; none where either is nothing
  abbrev pub before_rest : Option B → Option (List B) → Option (List B)
  before_rest (Some b) (Some bs) = Some (b ∷ bs)
  before_rest b bs = None

  -- what each is; none where one is nothing
  abbrev pub all_of : List A → Option (List B)
  all_of [] = Some []
  all_of (a ∷ rest) = before_rest (one_of a) (all_of rest)

-- the item with its offset, where that is in range
abbrev pub item_with : WrittenReference → Option Offset → Option RefItem
item_with w (Some offset) = Some (record { asset = w.asset; path = w.path; offset = offset })
item_with w None = None

-- the item that is written; none where its offset is out of range
abbrev pub item_of : WrittenReference → Option RefItem
item_of w = item_with w (offset_of w.offset)

-- the sublayer with its offset, where that is in range
abbrev pub sublayer_with : WrittenSubLayer → Option Offset → Option SubLayer
sublayer_with w (Some offset) = Some (record { asset = w.asset; offset = offset })
sublayer_with w None = None

-- the sublayer that is written; none where its offset is out of range
abbrev pub sublayer_of : WrittenSubLayer → Option SubLayer
sublayer_of w = sublayer_with w (offset_of w.offset)

-- the items, with offsets in range
abbrev pub items_of : List WrittenReference → Option (List RefItem)
items_of items = all_of item_of items

-- the sublayers, with offsets in range
abbrev pub sublayers_of : List WrittenSubLayer → Option (List SubLayer)
sublayers_of sublayers = all_of sublayer_of sublayers

-- ---- targets that no arc has

-- a class, or the target of a reference, has to be the path of a prim without selections
abbrev pub is_bad_target : List Element → Bool
is_bad_target path = not (is_plain_prim path)

-- an item without a path leads to a default prim, and that is no bad target
abbrev pub is_bad_path : Option (List Element) → Bool
is_bad_path (Some path) = is_bad_target path
is_bad_path None = false

-- an asset has to name a layer, from the folder of the layer that it stands in
abbrev pub is_bad_asset : List ℕ → Option (List ℕ) → Bool
is_bad_asset layer (Some asset) = not (is_some (anchor layer asset))
is_bad_asset layer None = false

-- no arc is made of the item in the layer of this name, for its target or for its asset
unfoldable pub is_bad_item : List ℕ → WrittenReference → Bool
is_bad_item layer w = is_bad_path w.path || is_bad_asset layer w.asset
