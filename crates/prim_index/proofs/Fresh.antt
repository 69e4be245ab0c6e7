-- What is grown from nothing below an arc, and the items of a kind one level down.
use Rattle.std.proofs.Common.{◌≡◌, ◌∙◌, ap, refl, ℕ, zero, suc, List, ◌++◌}
use Rattle.std.proofs.lemmas.List.{append_assoc}
use Rattle.path_maps.specs.declared.kind.ArcKind.{ArcKind}
use Rattle.composition.specs.Arcs.{Opinion}
use Rattle.composition.specs.Nodes.{Node, Tried, here}
use Rattle.composition.specs.Paths.{limits}
use Rattle.composition.specs.Trees.{Branch, Meaning, child_tree, tree_with}
use Rattle.composition.specs.World.{World}
use Rattle.laws_extending.specs.Extending.{below_depth}
use Rattle.prim_index.specs.Depths.{deeper, tree_below, child_below}
use Rattle.prim_index.specs.Extending.{fresh, kind_below, known_items}
use Rattle.prim_index.specs.Reading.{said, tried_level}

depth_same : (w : World) (d : ℕ) → deeper limits (said limits w) d ≡ below_depth limits (here limits w) d
unfolding deeper said
depth_same w zero = refl
depth_same w (suc d) = refl

full_depth : (w : World) (n : Node) (b : Branch) (room : ℕ) → child_below limits (said limits w) n.depth 4096 n b room ≡ fresh w n b room
unfolding fresh child_below tree_below said
full_depth w n b room = ap (λ (m : Meaning). child_tree m (tree_with limits (here limits w) m 4096) n b room) (depth_same w n.depth)

-- what stands below an arc where it is grown with all the depth of its node
pub fresh_is : (w : World) (n : Node) (b : Branch) (room d nodes : ℕ) → d ≡ n.depth → nodes ≡ 4096 → child_below limits (said limits w) d nodes n b room ≡ fresh w n b room
fresh_is w n b room d nodes deep most = (λ i. child_below limits (said limits w) (deep i) (most i) n b room) ∙ full_depth w n b room

-- the items of a kind: those of the new level, and then those that were there
pub kind_told : (w : World) (n : Node) (os : List Opinion) (old : List Tried) (k : ArcKind) (out first new : List Tried) → first ≡ out ++ tried_level w n k (0, os)
    → new ≡ first ++ known_items n old k → new ≡ out ++ kind_below w n os old k
unfolding kind_below
kind_told w n os old k out first new one two =
    two ∙ ap (λ (xs : List Tried). xs ++ known_items n old k) one ∙ append_assoc out (tried_level w n k (0, os)) (known_items n old k)
