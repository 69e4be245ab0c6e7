-- A test of changed keys that tells exactly where worlds differ.
-- docs/COMPOSITION.md, 'Since when a prim is as it is'.
use Rattle.std.specs.Prelude.{Bool, List}
use Rattle.composition.specs.World.{World}
use Rattle.composition.specs.Keys.{Key}
use Rattle.kept_stages.specs.DatedViews.{TellsExactly}

-- such a test, of any two worlds and any keys
pub record ExactTest : Type 0 where
  pub meets : World → World → List Key → Bool
  pub tells : TellsExactly meets
