-- A table of places and keys, as its entries in the order of places.
use Rattle.std.specs.Prelude.{Bool, false, List, Option, Some, None, filter}
use Rattle.std.specs.List.{list_any}
use Rattle.std.specs.declared.cmp.Ordering.{Ordering}
use Rattle.std.specs.BTreeMap.{BTreeMap, get, is_at}
use Rattle.std.specs.BTreeSet.{BTreeSet, contains}
use Rattle.std.specs.Map.{lookup, keys_of}

-- whether the key is in the list
abbrev pub is_listed : {K : Type 0} → (K → K → Ordering) → List K → K → Bool
is_listed cmp keys k = list_any (is_at (cmp k)) keys

-- whether the two lists have a key in common
abbrev pub meets : {K : Type 0} → (K → K → Ordering) → List K → List K → Bool
meets cmp keys others = list_any (is_listed cmp keys) others

-- the places one of whose keys is among these, in order
abbrev pub marked : {P K : Type 0} → (K → K → Ordering) → List (P × List K) → List K → List P
marked cmp table keys = keys_of (filter (λ e. meets cmp e.1 keys) table)

-- whether a key is among those found
abbrev pub keys_found : {K : Type 0} → (K → K → Ordering) → Option (List K) → K → Bool
keys_found cmp None k = false
keys_found cmp (Some keys) k = is_listed cmp keys k

-- whether a place is among those found
abbrev pub places_found : {P : Type 0} → (P → P → Ordering) → Option (BTreeSet P) → P → Bool
places_found cmp None p = false
places_found cmp (Some places) p = contains cmp places p

module _ {P K : Type 0} (place_cmp : P → P → Ordering) (key_cmp : K → K → Ordering) where
  -- whether the key is one of the place's
  abbrev pub has_key : List (P × List K) → P → K → Bool
  has_key table p k = keys_found key_cmp (lookup (is_at (place_cmp p)) table) k

  -- whether the place is noted at the key
  abbrev pub is_noted : BTreeMap K (BTreeSet P) → K → P → Bool
  is_noted readers k p = places_found place_cmp (get key_cmp readers k) p
