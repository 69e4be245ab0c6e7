-- What stands at names of layers.
use Rattle.std.specs.Prelude.{ℕ, List, Option}
use Rattle.std.specs.Cmp.Lexicographic.{slice_cmp}
use Rattle.std.specs.Ordering.{nat_cmp}
use Rattle.std.specs.declared.cmp.Ordering.{Ordering}
use Rattle.spec_tables.specs.Tables.{IsTable, at_key, with_key}

-- names in the order of their bytes
abbrev pub name_cmp : List ℕ → List ℕ → Ordering
name_cmp = slice_cmp nat_cmp

module _ {V : Type 0} where
  -- the names ascend, so each stands once
  abbrev pub AreNamed : List (List ℕ × V) → Type 0
  AreNamed entries = IsTable name_cmp entries

  -- what stands at a name
  abbrev pub at_name : List ℕ → List (List ℕ × V) → Option V
  at_name name entries = at_key name_cmp name entries

  -- with something at a name
  abbrev pub with_name : List ℕ → V → List (List ℕ × V) → List (List ℕ × V)
  with_name name value entries = with_key name_cmp name value entries
