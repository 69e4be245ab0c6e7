-- The items of a list that is shared: its first ones, or none.
use Rattle.std.specs.Prelude.{◌≤◌, List, [], length, take}
use Rattle.sdf_paths.specs.declared.shared.Front.{Front}
use Rattle.sdf_paths.specs.declared.shared.Front.TheVariants.{Nothing, First}

abbrev pub front_items : {T : Type 0} → Front T → List T
front_items Nothing = []
front_items (First len list) = take len list.value

-- the list has as many items as are taken of it
abbrev pub IsWithin : {T : Type 0} → Front T → Type 0
IsWithin Nothing = Unit {0}
IsWithin (First len list) = len ≤ length list.value
