-- What is kept of a stage: each place's entry, and how its reads differ from those of the place above.
-- docs/ARCHITECTURE.md, 'A stage that is kept'.
use Rattle.std.specs.Prelude.{◌≡◌, Bool, true, false, ◌&&◌, ◌||◌, not, List, [], Option, Some, None, map}
use Rattle.std.specs.List.{list_any}
use Rattle.std.specs.declared.cmp.Ordering.{Ordering}
use Rattle.std.specs.BTreeMap.{is_at}
use Rattle.std.specs.BTreeSet.{BTreeSet, contains}
use Rattle.change_core.specs.declared.kept.Kept.{Kept}

-- whether the key is in the list
abbrev pub is_listed : {K : Type 0} → (K → K → Ordering) → List K → K → Bool
is_listed cmp keys k = list_any (is_at (cmp k)) keys

-- a set of keys
abbrev pub Keys : Type 0 → Type 0
Keys K = BTreeSet K

-- the world in which places were composed, and the places with their entries, depth first
pub record Seen (World Place Entry : Type 0) : Type 0 where
  pub world : World
  pub stage : List (Place × Entry)

-- a place with its entry
abbrev pub item_of : {Place Entry Key : Type 0} → Kept Place Entry Key → Place × Entry
item_of k = (k.place, k.entry)

-- what is kept, seen as the world with its places
abbrev pub seen : {World Place Entry Key : Type 0} → World → List (Kept Place Entry Key) → Seen World Place Entry
seen w kept = record { world = w; stage = map item_of kept }

-- the reads are those of the place above without the dropped, and the added
abbrev pub AreRead : {Key : Type 0} → (Key → Key → Ordering) → (reads above added dropped : List Key) → Type 0
AreRead {Key} cmp reads above added dropped = (k : Key) → is_listed cmp reads k ≡ (is_listed cmp added k || (is_listed cmp above k && not (is_listed cmp dropped k)))

module _ {World Place Key : Type 0} (reads_of : World → Place → List Key) where
  -- what the place above reads; above the root place nothing is read
  abbrev pub reads_above : World → Option Place → List Key
  reads_above w None = []
  reads_above w (Some above) = reads_of w above

module _ {World Place Key Entry : Type 0} (cmp : Key → Key → Ordering) (entry_of : World → Place → Entry) (reads_of : World → Place → List Key) (parent_of : Place → Option Place) where
  -- what is kept is what is composed at its place, with what that reads
  pub record IsCurrent (w : World) (k : Kept Place Entry Key) : Type 0 where
    pub entry : k.entry ≡ entry_of w k.place
    pub reads : AreRead cmp (reads_of w k.place) (reads_above reads_of w (parent_of k.place)) k.added k.dropped

-- each key at which two worlds do not have the same is in the set
abbrev pub Covers : {Key Held : Type 0} → (Key → Key → Ordering) → (before after : Key → Held) → BTreeSet Key → Type 0
Covers {Key} cmp before after changed = (k : Key) → contains cmp changed k ≡ false → before k ≡ after k

-- each changed key of a list is among the hits
abbrev pub AreHits : {Key : Type 0} → (Key → Key → Ordering) → BTreeSet Key → (reads hits : List Key) → Type 0
AreHits {Key} cmp changed reads hits = (k : Key) → is_listed cmp reads k ≡ true → contains cmp changed k ≡ true → is_listed cmp hits k ≡ true
