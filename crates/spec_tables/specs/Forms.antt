-- How the entries of a table are kept.
use Rattle.std.specs.Prelude.{ℕ, ◌≤◌, ◌<◌, List, [], ◌∷◌, length, ⊤}
use Rattle.spec_tables.specs.declared.form.Form.{Form}
use Rattle.spec_tables.specs.declared.form.Form.TheVariants.{Empty, One, Few, Many}

-- how many entries stand in a list at most
abbrev pub most_listed : ℕ
most_listed = 32

module _ {K V : Type 0} where
  -- the entries, in order
  abbrev pub form_entries : Form K V → List (K × V)
  form_entries Empty = []
  form_entries (One entry) = entry.value ∷ []
  form_entries (Few list) = list.value.items
  form_entries (Many tree) = tree.value.entries

  -- a list has few entries
  abbrev pub IsFew : Form K V → Type 0
  IsFew Empty = ⊤
  IsFew (One entry) = ⊤
  IsFew (Few list) = length list.value.items ≤ most_listed
  IsFew (Many tree) = ⊤

  -- one more entry can be put there: it does not make a list too long, and a single entry is no list
  abbrev pub HasRoom : Form K V → Type 0
  HasRoom Empty = ⊤
  HasRoom (One entry) = ⊥
  HasRoom (Few list) = length list.value.items < most_listed
  HasRoom (Many tree) = ⊤
