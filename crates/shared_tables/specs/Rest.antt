-- What is left of a table from an entry on.
use Rattle.std.specs.Prelude.{List, [], ◌∷◌, Option, Some, None, filter}
use Rattle.std.specs.Ordering.{is_lt}
use Rattle.std.specs.declared.cmp.Ordering.{Ordering}

-- the first of a list
abbrev pub head : {A : Type 0} → List A → Option A
head [] = None
head (x ∷ xs) = Some x

module _ {K V : Type 0} (cmp : K → K → Ordering) where
  -- the entries past a key
  abbrev pub entries_after : K → List (K × V) → List (K × V)
  entries_after key entries = filter (λ e. is_lt (cmp key e.0)) entries

  -- an entry with what comes after it; nothing where there is none
  abbrev pub onwards : List (K × V) → Option (K × V) → List (K × V)
  onwards entries None = []
  onwards entries (Some e) = e ∷ entries_after e.0 entries
