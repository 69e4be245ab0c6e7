-- What is known of a place while those right below it are composed, and what is kept at a place that is reached.
-- docs/ARCHITECTURE.md, 'A stage that is kept'.
use Rattle.std.specs.Prelude.{◌≡◌, true, List, [], Option, Some, None, IfSome}
use Rattle.std.specs.Option.{option_map}
use Rattle.std.specs.declared.cmp.Ordering.{Ordering}
use Rattle.std.specs.BTreeSet.{BTreeSet}
use Rattle.change_core.specs.declared.above.Above.{Above}
use Rattle.change_core.specs.declared.above.Found.{Found}
use Rattle.change_core.specs.declared.above.Found.TheVariants.{Holds, Stale, Nothing}
use Rattle.change_core.specs.declared.arrive.Arrival.{Arrival}
use Rattle.change_core.specs.Kept.{AreHits, IsCurrent, reads_above}

-- the keys, where they are told
abbrev pub told_keys : {Key : Type 0} → Option (List Key) → List Key
told_keys None = []
told_keys (Some keys) = keys

-- the fact, unless what was found holds
abbrev pub UnlessHolds : {Place Entry Key : Type 0} → Found Place Entry Key → Type 0 → Type 0
UnlessHolds (Holds kept) P = Unit {0}
UnlessHolds (Stale kept hits) P = P
UnlessHolds Nothing P = P

module _ {World Place Index Key : Type 0} (index_of : World → Place → Index) (reads_of : World → Place → List Key) where
  -- what is told of a place, its index and its reads, is that of this world
  pub record IsTold (now : World) (above : Above Place Index Key) : Type 0 where
    pub index : IfSome above.index (λ i. Some i ≡ option_map (index_of now) above.place)
    pub reads : IfSome above.reads (λ keys. Some keys ≡ option_map (reads_of now) above.place)

  -- what it reads is told
  abbrev pub IsFilled : World → Above Place Index Key → Type 0
  IsFilled now above = told_keys above.reads ≡ reads_above reads_of now above.place

  -- and so are the changed keys that it read in the world that was seen before, and whether it reads what it read there
  pub record IsAbove (cmp : Key → Key → Ordering) (now before : World) (changed : BTreeSet Key) (above : Above Place Index Key) : Type 0 where
    pub told : IsTold now above
    pub hits : IfSome above.hits (AreHits cmp changed (reads_above reads_of before above.place))
    pub same : above.same ≡ true → reads_above reads_of now above.place ≡ reads_above reads_of before above.place

  module _ {Entry : Type 0} (cmp : Key → Key → Ordering) (entry_of : World → Place → Entry) (parent_of : Place → Option Place) where
    -- what was found at a place is what was composed there in the world that was seen before; it holds where it read no changed key and the
    -- place above reads what it read
    abbrev pub IsFound : World → BTreeSet Key → Above Place Index Key → Place → Found Place Entry Key → Type 0
    IsFound before changed above place (Holds kept) = (kept.place ≡ place) × IsCurrent cmp entry_of reads_of parent_of before kept × AreHits cmp changed (reads_of before kept.place) [] × (above.same ≡ true)
    IsFound before changed above place (Stale kept hits) = (kept.place ≡ place) × IsCurrent cmp entry_of reads_of parent_of before kept × AreHits cmp changed (reads_of before kept.place) hits
    IsFound before changed above place Nothing = Unit {0}

    -- what is kept at a place that was reached is what is composed there, and what is known for the places right below is right
    pub record Arrives (now before : World) (changed : BTreeSet Key) (place : Place) (a : Arrival Place Entry Index Key) : Type 0 where
      pub place_is : a.kept.place ≡ place
      pub current : IsCurrent cmp entry_of reads_of parent_of now a.kept
      pub above : IsAbove cmp now before changed a.below
      pub below_is : a.below.place ≡ Some place
