-- What a prim's date says: since that version of the stage its view is as it is.
-- docs/COMPOSITION.md, 'Since when a prim is as it is'.
use Rattle.std.specs.Prelude.{◌≡◌, ℕ, nat_le, true, false, List, [], ◌∷◌, length, All}
use Rattle.composition.specs.Paths.{Path, Limits}
use Rattle.composition.specs.World.{World}
use Rattle.composition.specs.Views.{view}
use Rattle.composition.specs.Keys.{Key, value_of, reads, IsChanged}
use Rattle.composition.specs.Dates.{Version, IsTouchedBy, IsTouched, IsSince}

-- the world after the batches of a version, each of which gives the next of these worlds
abbrev pub after : World → List World → World
after w [] = w
after w (v ∷ vs) = after v vs

-- each of these versions, which are given from the newest to the first, comes of the one before it by its batches
abbrev pub AreVersions : List Version → Type 0
AreVersions [] = Unit {0}
AreVersions (first ∷ []) = Unit {0}
AreVersions (new ∷ old ∷ older) = (after old.world new.steps ≡ new.world) × AreVersions (old ∷ older)

-- those of these versions that have this number or a later one, where a version's number tells how many stand before it
abbrev pub from_number : ℕ → List Version → List Version
from_number since [] = []
from_number since (v ∷ older) = elim (nat_le since (length older)) [ true ↦ v ∷ from_number since older | false ↦ [] ]

-- whatever the limits and the worlds are
pub record DatesHold : Type 0 where
  -- a key at which two worlds do not differ has the same value in both
  pub unchanged : (w v : World) (key : Key) → ¬ (IsChanged w v key) → value_of w key ≡ value_of v key
  -- an edit that changes no key that a path read before it leaves its view, and what it reads, as they were
  pub untouched : (l : Limits) (w v : World) (p : Path) → ¬ (IsTouchedBy l w v p) → (view l v p ≡ view l w p) × (reads l v p ≡ reads l w p)
  -- so do any number of them
  pub never_touched : (l : Limits) (w : World) (steps : List World) (p : Path) → ¬ (IsTouched l w steps p)
      → (view l (after w steps) p ≡ view l w p) × (reads l (after w steps) p ≡ reads l w p)
  -- the view of a path is the same in all versions since its date
  pub as_it_is : (l : Limits) (new : Version) (older : List Version) (p : Path) (since : ℕ) → AreVersions (new ∷ older) → IsSince l (new ∷ older) p since
      → All (λ v. view l v.world p ≡ view l new.world p) (from_number since (new ∷ older))
