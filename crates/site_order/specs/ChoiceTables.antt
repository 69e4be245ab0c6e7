-- Tables of what is chosen or selected for variant sets.
use Rattle.std.specs.Prelude.{◌≡◌, true, false, Option, Some, None}
use Rattle.std.specs.BTreeMap.{BTreeMap, get}
use Rattle.plain_data.specs.contracts.text.TextOrd.TheImpl.{ghosts as text_order}
use Rattle.composition.specs.Texts.{Text, same_text}

-- what an entry of a set and its variant says of a set
abbrev pub said_by : Text × Text → Text → Option Text
said_by e set = elim (same_text set e.0) [ true ↦ Some e.1 | false ↦ None ]

-- what a table says of a set
abbrev pub noted_for : BTreeMap Text Text → Text → Option Text
noted_for table set = get text_order.cmp table set

-- the table says this of each set
abbrev pub Tells : BTreeMap Text Text → (Text → Option Text) → Type 0
Tells table said = (set : Text) → noted_for table set ≡ said set
