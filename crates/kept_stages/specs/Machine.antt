-- A stage that is kept while its layers are edited: what is composed stays until something of what it read changes.
-- docs/ARCHITECTURE.md, 'A stage that is kept'.
use Rattle.std.specs.Prelude.{ℕ, zero, suc, Bool, true, false, ◌||◌, List, [], ◌∷◌, ◌++◌, map, Option, Some, None}
use Rattle.std.specs.Option.{option_map}

-- what was composed at a place, with what it read
pub record Kept (Entry Key : Type 0) : Type 0 where
  pub entry : Entry
  pub reads : List Key

-- what a worker composes at a place, and whether a batch that came after it began changed something of what it reads
pub record Flight (Entry Key : Type 0) : Type 0 where
  pub kept : Kept Entry Key
  pub is_stale : Bool

-- the world after the batches so far, what is kept at places, which of it is marked since a batch changed something of what it read, and
-- what workers compose
pub record State (World Place Key Entry : Type 0) : Type 0 where
  pub world : World
  pub cache : Place → Option (Kept Entry Key)
  pub marked : Place → Bool
  pub flights : Place → Option (Flight Entry Key)

-- What befalls a kept stage, in any order: a batch that is accepted leads to another world, and one that is refused changes nothing; a
-- worker begins at a place; it ends there; it gives up; and what is kept at a place is forgotten.
pub data Event (World Place : Type 0) : Type 0 where
  accepted : World → Event World Place
  refused : Event World Place
  begun : Place → Event World Place
  ended : Place → Event World Place
  given_up : Place → Event World Place
  forgotten : Place → Event World Place

-- a function with another value at a place
abbrev pub with_value : {Place A : Type 0} → (Place → Place → Bool) → Place → A → (Place → A) → Place → A
with_value same p x f q = elim (same p q) [ true ↦ x | false ↦ f q ]

-- all of them joined, if none is missing
abbrev pub all_joined : {A : Type 0} → List (Option (List A)) → Option (List A)
all_joined [] = Some []
all_joined (None ∷ xs) = None
all_joined (Some x ∷ xs) = option_map (λ rest. x ++ rest) (all_joined xs)

-- What is composed at a place of a world, what that reads, the places that an entry lists, and two tests: whether places are one, and whether
-- a batch from one world to another changes one of these keys.
module _ {World Place Key Entry : Type 0} (entry_of : World → Place → Entry) (reads_of : World → Place → List Key) (listed : Place → Entry → List Place) (same : Place → Place → Bool)
    (meets : World → World → List Key → Bool) where
  -- what is composed at a place
  abbrev pub composed : World → Place → Kept Entry Key
  composed w p = record { entry = entry_of w p; reads = reads_of w p }

  -- a batch changes something of what is kept
  abbrev pub meets_kept : World → World → Option (Kept Entry Key) → Bool
  meets_kept w v None = false
  meets_kept w v (Some k) = meets w v k.reads

  -- a flight after a batch
  abbrev pub flight_after : World → World → Option (Flight Entry Key) → Option (Flight Entry Key)
  flight_after w v None = None
  flight_after w v (Some f) = Some (record f { is_stale = f.is_stale || meets w v f.kept.reads })

  -- what a worker composed is kept, unless it is stale
  abbrev pub after_flight : State World Place Key Entry → Place → Option (Flight Entry Key) → State World Place Key Entry
  after_flight s p None = s
  after_flight s p (Some f) = elim f.is_stale [
    | true ↦ record s { flights = with_value same p None s.flights }
    | false ↦ record s {
      cache = with_value same p (Some f.kept) s.cache;
      marked = with_value same p false s.marked;
      flights = with_value same p None s.flights;
    }
  ]

  -- after one event
  abbrev pub step : State World Place Key Entry → Event World Place → State World Place Key Entry
  step s (accepted v) = record {
    world = v;
    cache = s.cache;
    marked = λ p. s.marked p || meets_kept s.world v (s.cache p);
    flights = λ p. flight_after s.world v (s.flights p);
  }
  step s refused = s
  step s (begun p) = record s { flights = with_value same p (Some (record { kept = composed s.world p; is_stale = false })) s.flights }
  step s (ended p) = after_flight s p (s.flights p)
  step s (given_up p) = record s { flights = with_value same p None s.flights }
  step s (forgotten p) = record s { cache = with_value same p None s.cache }

  -- after some events, the first of which is given first
  abbrev pub run : State World Place Key Entry → List (Event World Place) → State World Place Key Entry
  run s [] = s
  run s (e ∷ es) = run (step s e) es

  -- nothing is kept yet
  abbrev pub opened : World → State World Place Key Entry
  opened w = record { world = w; cache = λ p. None; marked = λ p. false; flights = λ p. None }

  -- the entry at a place, where one is kept that is not marked
  abbrev pub clean : State World Place Key Entry → Place → Option Entry
  clean s p = elim (s.marked p) [ true ↦ None | false ↦ option_map (λ k. k.entry) (s.cache p) ]

  -- the place and all below it by what is kept, depth first, for so many levels; none where something is missing or marked
  unfoldable pub published : ℕ → State World Place Key Entry → Place → Option (List (Place × Entry))
  published zero s p = Some []
  published (suc levels) s p = elim (clean s p) [
    | None ↦ None
    | Some e ↦ option_map (λ below. (p, e) ∷ below) (all_joined (map (published levels s) (listed p e)))
  ]

-- the world after these events
abbrev pub world_after : {World Place : Type 0} → World → List (Event World Place) → World
world_after w [] = w
world_after w (accepted v ∷ es) = world_after v es
world_after w (refused ∷ es) = world_after w es
world_after w (begun p ∷ es) = world_after w es
world_after w (ended p ∷ es) = world_after w es
world_after w (given_up p ∷ es) = world_after w es
world_after w (forgotten p ∷ es) = world_after w es
