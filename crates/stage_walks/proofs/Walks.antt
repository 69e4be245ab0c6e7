-- The two walks, level by level.
use Rattle.std.proofs.Common.{◌≡◌, refl, sym, ap, ◌∙◌, ℕ, zero, suc, ◌+◌, ◌≤◌, List, [], ◌∷◌, flat_map, arith}
use Rattle.std.proofs.lemmas.List.Folds.{flat_map-map}
use Rattle.compose_api.specs.Stage.{stage_of, walked as walked_below}
use Rattle.composition.specs.Paths.{Path, Limits, limits}
use Rattle.composition.specs.World.{World}
use Rattle.composition.specs.Fields.{child_path}
use Rattle.composition.specs.Views.{PrimView, view, walked, stage}
use Rattle.layer_set.specs.LookUps.{look_ups}
use Rattle.layer_set.specs.Worlds.{WorldData}
use Rattle.prim_compose.specs.Composed.{view_at}
use Rattle.prim_compose.specs.Listing.{entry_at, listed_below}
use Rattle.stage_walks.specs.Laws.{WalksTheStage}
use Rattle.stage_walks.proofs.Members.{all_none, all_alike}
use Rattle.stage_walks.proofs.Deep.{no_deeper}

-- ---- one level of the program's walk

at_no_level : (w : WorldData) (p : Path) → walked_below entry_at listed_below 0 w p ≡ []
unfolding walked_below
at_no_level w p = refl

at_a_level : (w : WorldData) (levels : ℕ) (p : Path)
    → walked_below entry_at listed_below (suc levels) w p ≡ (p, entry_at w p) ∷ flat_map (walked_below entry_at listed_below levels w) (listed_below p (entry_at w p))
unfolding walked_below
at_a_level w levels p = refl

-- the same, by the names of the children
by_names : (w : WorldData) (levels : ℕ) (p : Path)
    → walked_below entry_at listed_below (suc levels) w p ≡ (p, entry_at w p) ∷ flat_map (λ name. walked_below entry_at listed_below levels w (child_path p name)) (entry_at w p).children
by_names w levels p =
    at_a_level w levels p
    ∙ ap (λ (below : List (Path × PrimView)). (p, entry_at w p) ∷ below) (flat_map-map (walked_below entry_at listed_below levels w) (child_path p) (entry_at w p).children)

viewed : (w : WorldData) (p : Path) → entry_at w p ≡ view limits (look_ups w) p
unfolding entry_at view_at
viewed w p = refl

-- ---- the walks

same_below : (w : WorldData) (names : ℕ) (p : Path) → walked_below entry_at listed_below (suc names) w p ≡ walked limits (look_ups w) names p
same_below w zero p =
    by_names w zero p
    ∙ ap (λ (below : List (Path × PrimView)). (p, entry_at w p) ∷ below) (
    all_none (λ name. walked_below entry_at listed_below zero w (child_path p name)) (λ name. at_no_level w (child_path p name)) (entry_at w p).children)
    ∙ ap (λ (v : PrimView). (p, v) ∷ []) (viewed w p)
same_below w (suc names) p =
    by_names w (suc names) p
    ∙ ap (λ (below : List (Path × PrimView)). (p, entry_at w p) ∷ below) (
    all_alike (λ name. walked_below entry_at listed_below (suc names) w (child_path p name)) (λ name. walked limits (look_ups w) names (child_path p name))
    (λ name. same_below w names (child_path p name)) (entry_at w p).children)
    ∙ ap (λ (v : PrimView). (p, v) ∷ flat_map (λ name. walked limits (look_ups w) names (child_path p name)) v.children) (viewed w p)

-- ---- from the root

from_root : (l : Limits) (w : World) (names : ℕ) → names ≡ l.names → walked l w names [] ≡ stage l w
from_root l w names is = ap (λ (n : ℕ). walked l w n []) is

by_levels : (w : WorldData) (names : ℕ) → suc names ≡ 65 → names ≡ limits.names → stage_of entry_at listed_below w [] ≡ stage limits (look_ups w)
unfolding stage_of
by_levels w names levels is =
    ap (λ (n : ℕ). walked_below entry_at listed_below n w []) (sym levels) ∙ same_below w names [] ∙ from_root limits (look_ups w) names is

same_stage : (w : WorldData) → stage_of entry_at listed_below w [] ≡ stage limits (look_ups w)
same_stage w = by_levels w 64 refl refl

deeper_stage : (l : Limits) (w : World) (names : ℕ) → l.names ≤ names → walked l w names [] ≡ stage l w
deeper_stage l w names more = no_deeper l w l.names names [] (omega arith) more

no_more_levels : (w : WorldData) (levels : ℕ) → limits.names + 1 ≤ levels → walked_below entry_at listed_below levels w [] ≡ stage limits (look_ups w)
no_more_levels w zero more = absurd (omega (arith, more))
no_more_levels w (suc names) more = same_below w names [] ∙ deeper_stage limits (look_ups w) names (omega (arith, more))

pub walks_the_stage : WalksTheStage
walks_the_stage = record {
  same_stage = same_stage;
  same_below = same_below;
  no_more_levels = no_more_levels;
}
