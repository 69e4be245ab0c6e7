-- What is told of the path above, and what a batch changed.
use Rattle.std.specs.Prelude.{◌≡◌, ◌-◌, ◌∷◌, [], ℕ, List, Bool, true, false, Option, Some, None, option_map, length, take}
use Rattle.std.specs.List.{list_all}
use Rattle.std.proofs.Common.{ap, arith, sym, ◌∙◌}
use Rattle.std.proofs.lemmas.List.Elements.{All-contains}
use Rattle.sdf_paths.specs.Paths.{is_prim_name, parent}
use Rattle.sdf_paths.specs.declared.element.Element.{Element}
use Rattle.composition.specs.Paths.{limits, up}
use Rattle.composition.specs.Trees as defined
use Rattle.compose_api.specs.Agreement.{IsChanged}
use Rattle.layer_changes.specs.Changed.{AreChanged, IsChangedKey}
use Rattle.layer_set.specs.LookUps.{look_ups, stands_at}
use Rattle.layer_set.specs.Worlds.{WorldData}
use Rattle.layer_set.specs.declared.key.Key.{Key}
use Rattle.prim_trees.specs.declared.tree.Tree.{Tree}
use Rattle.prim_trees.specs.Meant.{meant}
use Rattle.prim_index.specs.Answer.{stage_tree_at}
use Rattle.prim_reads.specs.Reads.{listed_reads}
use Rattle.stage_composer.specs.Indexes.{at, HasTree}

-- what is told of the path above is told of the path that is one name shorter
above_is : {A : Type 0} → (f : List Element → A) (p : List Element) (x : A) → Some x ≡ option_map f (parent p) → x ≡ f (up p 1)
above_is f [] x told = absurd cc
above_is f (e ∷ rest) x told =
    let less : length (e ∷ rest) - 1 ≡ length rest = omega arith in
    let is : x ≡ f (take (length rest) (e ∷ rest)) = cc in
    is ∙ ap (λ (n : ℕ). f (take n (e ∷ rest))) (sym less)

-- so is an index
pub index_above : (w : WorldData) (p : List Element) (i : WorldData × List Element) → Some i ≡ option_map (at w) (parent p) → i ≡ at w (up p 1)
index_above w p i told = above_is (at w) p i told

-- and so are keys
pub keys_above : (w : WorldData) (p : List Element) (keys : List Key) → Some keys ≡ option_map (listed_reads w) (parent p) → keys ≡ listed_reads w (up p 1)
keys_above w p keys told = above_is (listed_reads w) p keys told

tree_by : (w : WorldData) (p : List Element) (t : Tree) (prims : Bool) → Some (meant t) ≡ elim prims as (λ _. Option defined.Tree) [ true ↦ Some (stage_tree_at limits (look_ups w) p) | false ↦ None ]
    → meant t ≡ stage_tree_at limits (look_ups w) p
tree_by w p t true has = cc
tree_by w p t false has = absurd cc

-- the tree of an index is that of its path
pub tree_told : (w : WorldData) (p : List Element) (t : Tree) → HasTree w p (Some t) → meant t ≡ stage_tree_at limits (look_ups w) p
tree_told w p t has = tree_by w p t (list_all is_prim_name p) has

-- the keys that a batch changed are those at which the two worlds do not have the same
pub changes_told : (w v : WorldData) (keys : List Key) → AreChanged w v keys → IsChanged (stands_at w) (stands_at v) keys
changes_told w v keys are k = (λ has. All-contains (IsChangedKey w v) keys k are.only has, are.kept k)
