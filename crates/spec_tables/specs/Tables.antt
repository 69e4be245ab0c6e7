-- Tables as lists of entries in the order of their keys, each key once.
use Rattle.std.specs.Prelude.{List, Option, filter, not}
use Rattle.std.specs.BTreeMap.{insert_entry, is_at}
use Rattle.std.specs.List.Sorted.{IsStrictlySortedBy}
use Rattle.std.specs.Ordering.{is_le, is_lt}
use Rattle.std.specs.Map.{lookup, remove_entry, set_value, keys_of}
use Rattle.std.specs.declared.cmp.Ordering.{Ordering}

module _ {K V : Type 0} (cmp : K → K → Ordering) where
  -- the keys ascend, so each stands once
  abbrev pub IsTable : List (K × V) → Type 0
  IsTable entries = IsStrictlySortedBy cmp (keys_of entries)

  -- what stands at a key
  abbrev pub at_key : K → List (K × V) → Option V
  at_key key entries = lookup (is_at (cmp key)) entries

  -- with a value at a key: a key that is there keeps its place, a new one goes to its place in the order
  abbrev pub with_key : K → V → List (K × V) → List (K × V)
  with_key key value entries = insert_entry cmp entries key value

  -- without a key
  abbrev pub without_key : K → List (K × V) → List (K × V)
  without_key key entries = remove_entry (is_at (cmp key)) entries

  -- with another value at a key that is there
  abbrev pub with_value : K → V → List (K × V) → List (K × V)
  with_value key value entries = set_value (is_at (cmp key)) entries value

  -- the entries from a key on
  abbrev pub entries_from : K → List (K × V) → List (K × V)
  entries_from key entries = filter (λ e. is_le (cmp key e.0)) entries

  -- the entries up to a key
  abbrev pub entries_until : K → List (K × V) → List (K × V)
  entries_until key entries = filter (λ e. not (is_lt (cmp key e.0))) entries
