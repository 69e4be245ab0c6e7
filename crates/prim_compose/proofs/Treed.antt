-- The view of a path by its tree.
use Rattle.std.proofs.Common.{◌≡◌, ◌≢◌, ◌∙◌, ap, sym, refl, Bool, true, false, [], Option, Some, None}
use Rattle.std.specs.List.{list_all}
use Rattle.sdf_paths.specs.Paths.{is_prim_name}
use Rattle.composition.specs.Faults.{Index}
use Rattle.composition.specs.Paths.{Path, limits}
use Rattle.composition.specs.Trees.{Tree}
use Rattle.composition.specs.Views.{PrimView, empty_view}
use Rattle.composition.specs.World.{World}
use Rattle.layer_set.specs.LookUps.{look_ups}
use Rattle.layer_set.specs.Worlds.{WorldData}
use Rattle.prim_index.specs.Answer.{indexed_of, stage_tree_at}
use Rattle.prim_index.proofs.Answering.{index_is}
use Rattle.prim_compose.specs.Listing.{entry_at}
use Rattle.prim_compose.specs.Trees.{tree_at}
use Rattle.prim_compose.specs.Viewed.{seen_by}
use Rattle.prim_compose.proofs.Seen.{entry_at_prim, entry_elsewhere}

module _ (w : World) (p : Path) where
  abbrev tree_if : Bool → Option Tree
  tree_if b = elim b as (λ _. Option Tree) [ true ↦ Some (stage_tree_at limits w p) | false ↦ None ]

  pub made_tree : (t : Tree) → list_all is_prim_name p ≡ true → t ≡ stage_tree_at limits w p → Some t ≡ tree_at w p
  made_tree t prims is = ap (λ (x : Tree). Some x) is ∙ sym (ap tree_if prims)

  pub no_tree : list_all is_prim_name p ≡ false → None ≡ tree_at w p
  no_tree other = sym (ap tree_if other)

  there_by : (t : Tree) (b : Bool) → Some t ≡ tree_if b → (b ≡ true) × (t ≡ stage_tree_at limits w p)
  there_by t true is = (refl, cc)
  there_by t false is = absurd cc

  pub tree_there : (t : Tree) → Some t ≡ tree_at w p → (list_all is_prim_name p ≡ true) × (t ≡ stage_tree_at limits w p)
  tree_there t is = there_by t (list_all is_prim_name p) is

  nowhere_by : (b : Bool) → None ≡ tree_if b → b ≡ false
  nowhere_by true is = absurd cc
  nowhere_by false is = refl

  pub tree_nowhere : None ≡ tree_at w p → list_all is_prim_name p ≡ false
  tree_nowhere is = nowhere_by (list_all is_prim_name p) is

-- the view by the tree of a path
pub entry_by_tree : (w : WorldData) (p : Path) (t : Tree) → p ≢ [] → Some t ≡ tree_at (look_ups w) p → seen_by (look_ups w) p (indexed_of limits t) ≡ entry_at w p
entry_by_tree w p t below is =
    let there = tree_there (look_ups w) p t is in
    ap (λ (i : Option Index). seen_by (look_ups w) p i) (ap (indexed_of limits) there.1 ∙ index_is limits (look_ups w) p) ∙ entry_at_prim w p below there.0

pub entry_without : (w : WorldData) (p : Path) → None ≡ tree_at (look_ups w) p → empty_view ≡ entry_at w p
entry_without w p is = entry_elsewhere w p (tree_nowhere (look_ups w) p is)
