-- The stage by which the program walks is that of composition, and no bound on levels leaves anything out of it.
-- docs/COMPOSITION.md, 'The stage'.
use Rattle.std.specs.Prelude.{◌≡◌, ◌⊎◌, ℕ, suc, ◌+◌, ◌≤◌, List, [], Contains}
use Rattle.sdf_paths.specs.Paths.{depth}
use Rattle.compose_api.specs.Stage.{stage_of, walked as walked_below}
use Rattle.composition.specs.Texts.{Text}
use Rattle.composition.specs.Paths.{Path, Limits, limits}
use Rattle.composition.specs.World.{World}
use Rattle.composition.specs.Fields.{child_path}
use Rattle.composition.specs.Views.{PrimView, view, walked, stage}
use Rattle.layer_set.specs.LookUps.{look_ups}
use Rattle.layer_set.specs.Worlds.{WorldData}
use Rattle.prim_compose.specs.Listing.{entry_at, listed_below}

-- whatever the world is, the stage of the program is that of composition
pub record WalksTheStage : Type 0 where
  -- what the program composes of a world is the stage of composition: the same paths with the same views in the same order
  pub same_stage : (w : WorldData) → stage_of entry_at listed_below w [] ≡ stage limits (look_ups w)
  -- so it is below each path, however deep a walk goes: where composition goes so many names below the path, the program goes as many
  -- levels and that of the path itself
  pub same_below : (w : WorldData) (names : ℕ) (p : Path) → walked_below entry_at listed_below (suc names) w p ≡ walked limits (look_ups w) names p
  -- the levels of the program leave nothing out: with more of them the list is the same
  pub no_more_levels : (w : WorldData) (levels : ℕ) → limits.names + 1 ≤ levels → walked_below entry_at listed_below levels w [] ≡ stage limits (look_ups w)

-- one of these paths lists the path as a child
pub record IsListed (items : List (Path × PrimView)) (p : Path) : Type 0 where
  pub owner : Path
  pub owner_view : PrimView
  pub name : Text
  pub on_it : Contains items (owner, owner_view)
  pub lists : Contains owner_view.children name
  pub is_child : p ≡ child_path owner name

-- whatever the limits and the world are
pub record StageIsWhole : Type 0 where
  -- a child that is listed has one name more than the path that lists it, and no more names than a path may have
  pub within : (l : Limits) (w : World) (p : Path) (name : Text) → Contains (view l w p).children name
      → (depth (child_path p name) ≡ depth p + 1) × (depth (child_path p name) ≤ l.names)
  -- so a walk from a path that goes as many names deep as the path may still take goes as deep as any
  pub no_deeper : (l : Limits) (w : World) (p : Path) (names deeper : ℕ) → l.names ≤ depth p + names → names ≤ deeper → walked l w deeper p ≡ walked l w names p
  -- `/` is on the stage
  pub root : (l : Limits) (w : World) → Contains (stage l w) ([], view l w [])
  -- each path on it has its view
  pub views : (l : Limits) (w : World) (p : Path) (v : PrimView) → Contains (stage l w) (p, v) → v ≡ view l w p
  -- each name that a path on it lists is on it
  pub listed : (l : Limits) (w : World) (p : Path) (v : PrimView) (name : Text) → Contains (stage l w) (p, v) → Contains v.children name
      → Contains (stage l w) (child_path p name, view l w (child_path p name))
  -- and nothing else is
  pub nothing_else : (l : Limits) (w : World) (p : Path) (v : PrimView) → Contains (stage l w) (p, v) → (p ≡ []) ⊎ IsListed (stage l w) p
