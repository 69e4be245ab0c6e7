-- A stage that is kept is the one that is composed from scratch.
-- docs/ARCHITECTURE.md, 'A stage that is kept'.
use Rattle.std.specs.Prelude.{◌≡◌, ℕ, Bool, true, false, List, Some}
use Rattle.compose_api.specs.Stage.{walked as walked_below}
use Rattle.composition.specs.Paths.{Path, Limits, same_path}
use Rattle.composition.specs.World.{World}
use Rattle.composition.specs.Views.{PrimView, view}
use Rattle.composition.specs.Keys.{Key, reads, Agree}
use Rattle.composition.specs.Fields.{child_path}
use Rattle.std.specs.Prelude.{map}
use Rattle.kept_stages.specs.Machine.{Kept, Flight, State, Event, run, opened, published, world_after}

-- what is composed is settled by what it reads: worlds between which a batch changes none of these keys have the same entry there, which
-- reads the same; and places of which a test says so are one
pub record AreComposed {World Place Key Entry : Type 0} (entry_of : World → Place → Entry) (reads_of : World → Place → List Key) (same : Place → Place → Bool) (meets : World → World → List Key → Bool) : Type 0 where
  pub one_place : (p q : Place) → same p q ≡ true → p ≡ q
  pub covered : (w v : World) (p : Place) → meets w v (reads_of w p) ≡ false → (entry_of v p ≡ entry_of w p) × (reads_of v p ≡ reads_of w p)

-- What is kept at a place and is not marked, and what a worker composes and is not stale, is what is composed there in the world as it is.
pub record IsRight {World Place Key Entry : Type 0} (entry_of : World → Place → Entry) (reads_of : World → Place → List Key) (s : State World Place Key Entry) : Type 0 where
  pub cached : (p : Place) (k : Kept Entry Key) → s.cache p ≡ Some k → s.marked p ≡ false → (k.entry ≡ entry_of s.world p) × (k.reads ≡ reads_of s.world p)
  pub flying : (p : Place) (f : Flight Entry Key) → s.flights p ≡ Some f → f.is_stale ≡ false → (f.kept.entry ≡ entry_of s.world p) × (f.kept.reads ≡ reads_of s.world p)

-- whatever is composed, and whatever befalls it
pub record KeptIsComposed (World Place Key Entry : Type 0) : Type 0 where
  -- so the stage is after any events, in any order
  pub right : (entry_of : World → Place → Entry) (reads_of : World → Place → List Key) (listed : Place → Entry → List Place) (same : Place → Place → Bool) (meets : World → World → List Key → Bool)
      → AreComposed entry_of reads_of same meets → (w : World) (events : List (Event World Place))
      → IsRight entry_of reads_of (run entry_of reads_of listed same meets (opened entry_of reads_of listed same meets w) events)
  -- and what is published of it, where nothing is missing, is the stage that is composed from scratch of the world after the batches that were
  -- accepted, from any place down
  pub published : (entry_of : World → Place → Entry) (reads_of : World → Place → List Key) (listed : Place → Entry → List Place) (same : Place → Place → Bool) (meets : World → World → List Key → Bool)
      → AreComposed entry_of reads_of same meets → (w : World) (events : List (Event World Place)) (levels : ℕ) (p : Place) (items : List (Place × Entry))
      → published entry_of reads_of listed same meets levels (run entry_of reads_of listed same meets (opened entry_of reads_of listed same meets w) events) p ≡ Some items
      → items ≡ walked_below entry_of listed levels (world_after w events) p

-- the places that the view of a path lists
abbrev pub children_of : Path → PrimView → List Path
children_of p v = map (child_path p) v.children

-- a test that tells where worlds differ in one of these keys, and may see a difference where there is none
abbrev pub TellsChanges : (World → World → List Key → Bool) → Type 0
TellsChanges meets = (w v : World) (keys : List Key) → meets w v keys ≡ false → Agree w v keys

-- so it is of composition: views by paths, with the keys that they read
pub record ViewsAreComposed : Type 0 where
  pub composed : (l : Limits) (meets : World → World → List Key → Bool) → TellsChanges meets → AreComposed (view l) (reads l) same_path meets
