-- The dates of a kept stage of views are those of composition.
-- docs/COMPOSITION.md, 'Since when a prim is as it is'.
use Rattle.std.specs.Prelude.{◌≡◌, Bool, true, false, suc, List, [], ◌∷◌, map}
use Rattle.std.specs.List.{Contains}
use Rattle.composition.specs.Paths.{Path, Limits, same_path}
use Rattle.composition.specs.World.{World}
use Rattle.composition.specs.Views.{view}
use Rattle.composition.specs.Keys.{Key, reads, Agree, IsChanged}
use Rattle.composition.specs.Dates.{IsSince}
use Rattle.composition.specs.Dates as composed
use Rattle.kept_stages.specs.Laws.{children_of}
use Rattle.kept_stages.specs.Dates.{Version, since}

-- some key of these has another value in the second world
pub record SomeChanged (w v : World) (keys : List Key) : Type 0 where
  pub key : Key
  pub among : Contains keys key
  pub changed : IsChanged w v key

-- a test that tells exactly where worlds differ in one of these keys
pub record TellsExactly (meets : World → World → List Key → Bool) : Type 0 where
  pub some : (w v : World) (keys : List Key) → meets w v keys ≡ true → SomeChanged w v keys
  pub none : (w v : World) (keys : List Key) → meets w v keys ≡ false → Agree w v keys

-- a version, as composition dates it
abbrev pub version_of : Version World → composed.Version
version_of v = record { world = v.world; steps = v.steps }

-- whatever the limits are, the test and the versions, from the newest to the first
pub record ViewsAreDated : Type 0 where
  pub dated : (l : Limits) (meets : World → World → List Key → Bool) → TellsExactly meets → (new : Version World) (older : List (Version World)) (p : Path)
      → IsSince l (map version_of (new ∷ older)) p (since (view l) (reads l) children_of same_path meets [] (suc l.names) (new ∷ older) p)
