-- Since which version of the stage a prim is as it is.
-- docs/COMPOSITION.md, 'Since when a prim is as it is'.
use Rattle.std.specs.Prelude.{ℕ, ◌≡◌, ◌⊎◌, List, [], ◌∷◌, map, length}
use Rattle.std.specs.List.{Contains}
use Rattle.composition.specs.Paths.{Path, Limits}
use Rattle.composition.specs.World.{World}
use Rattle.composition.specs.Keys.{Key, reads, IsChanged}
use Rattle.composition.specs.Views.{stage}

-- a version of the stage: its world, and the worlds after each batch that was accepted since the version before, the last of which
-- is the world of this one
pub record Version : Type 0 where
  pub world : World
  pub steps : List World

module _ (l : Limits) where
  -- an edit from one world to another changed a key that the prim read before it
  pub record IsTouchedBy (w v : World) (p : Path) : Type 0 where
    pub key : Key
    pub is_read : Contains (reads l w p) key
    pub is_changed : IsChanged w v key

  -- some batch changed what the prim read
  abbrev pub IsTouched : World → List World → Path → Type 0
  IsTouched w [] p = ⊥
  IsTouched w (v ∷ vs) p = IsTouchedBy w v p ⊎ IsTouched v vs p

  -- the path is `/`, or that of a prim that a path on the stage lists
  abbrev pub IsOnStage : World → Path → Type 0
  IsOnStage w p = Contains (map (λ e. e.0) (stage l w)) p

  -- a version dates the prim anew: it was not on the stage before, or a batch between the two changed what it read
  abbrev pub IsDatedAnew : Version → Version → Path → Type 0
  IsDatedAnew new old p = ¬ (IsOnStage old.world p) ⊎ IsTouched old.world new.steps p

  -- of a prim of the newest of these versions, which are given from the newest to the first, the version since which it is as it is
  abbrev pub IsSince : List Version → Path → ℕ → Type 0
  IsSince [] p since = ⊥
  IsSince (first ∷ []) p since = since ≡ 0
  IsSince (new ∷ old ∷ older) p since = (IsDatedAnew new old p × (since ≡ length (old ∷ older))) ⊎ (¬ (IsDatedAnew new old p) × IsSince (old ∷ older) p since)
