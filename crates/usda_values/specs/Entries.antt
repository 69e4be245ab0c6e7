-- The entries of a dictionary that is open: in byte order of keys, each key once.
use Rattle.std.specs.Prelude.{ℕ, Bool, List, [], ◌∷◌}
use Rattle.std.specs.Option.{is_some}
use Rattle.std.specs.Ordering.{nat_cmp}
use Rattle.std.specs.Cmp.Lexicographic.{slice_cmp}
use Rattle.std.specs.BTreeMap.{insert_entry, is_at}
use Rattle.std.specs.Map.{lookup}
use Rattle.sdf_values.specs.declared.value.DictItem.{DictItem}

-- entries by their keys, in byte order
abbrev pub Table : Type 0
Table = List (List ℕ × DictItem)

-- whether there is an entry of this key
abbrev pub has_key : List ℕ → Table → Bool
has_key key table = is_some (lookup (is_at (slice_cmp nat_cmp key)) table)

-- the entries with this one at its key
abbrev pub with_entry : List ℕ → DictItem → Table → Table
with_entry key item table = insert_entry (slice_cmp nat_cmp) table key item

-- the entries, in order of their keys
abbrev pub items_of : Table → List DictItem
items_of [] = []
items_of (e ∷ es) = e.1 ∷ items_of es
