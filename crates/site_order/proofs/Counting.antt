-- What is counted and looked for in a tree, child by child.
use Rattle.std.proofs.Common.{◌≡◌, ◌∙◌, sym, ap, refl, suc, ◌+◌, Bool, true, false, ◌||◌, List, [], ◌∷◌}
use Rattle.std.specs.Prelude.{sum_by}
use Rattle.std.specs.List.{list_any}
use Rattle.std.proofs.lemmas.List.Sums.{sum_by-cons}
use Rattle.std.proofs.lemmas.List.Folds.{list_any-append}
use Rattle.composition.specs.Nodes.{Node}
use Rattle.composition.specs.Trees.{size, size_among, is_overgrown, is_overgrown_among, has_spec_in, has_spec_among, nodes_of, nodes_among}
use Rattle.composition.specs.Compose.{rests_on_overgrown}
use Rattle.prim_trees.specs.declared.tree.Tree.{Tree, out-Tree}
use Rattle.prim_trees.specs.declared.tree.Child.{Child, out-Child}
use Rattle.prim_trees.specs.Meant.{meant, trees_of}
use Rattle.prim_trees.specs.Unfolded.{meant_is}
use Rattle.site_order.specs.Sizes.{child_size, child_has_spec, child_rests, is_frame_overgrown}

-- the second where the first does not hold
pub either : (a b : Bool) → (elim a as (λ _. Bool) [ true ↦ true | false ↦ b ]) ≡ (a || b)
either true b = refl
either false b = refl

size_listed : (cs : List Child) (is_cut : Bool) → size_among (trees_of cs is_cut) ≡ sum_by child_size cs
size_listed [] true = refl
size_listed [] false = refl
size_listed (c ∷ cs) is_cut = ap (λ n. child_size c + n) (size_listed cs is_cut) ∙ sym (sum_by-cons child_size c cs)

pub size_is : (t : Tree) → size (meant t) ≡ suc (sum_by child_size (out-Tree t).own + sum_by child_size (out-Tree t).lifted)
size_is t = ap size (meant_is t) ∙ λ i. suc (size_listed (out-Tree t).own (out-Tree t).own_cut i + size_listed (out-Tree t).lifted (out-Tree t).lifted_cut i)

pub overgrown_is : (t : Tree) → is_overgrown (meant t) ≡ (elim (is_overgrown_among (trees_of (out-Tree t).own (out-Tree t).own_cut)) as (λ _. Bool) [ true ↦ true | false ↦ is_overgrown_among (trees_of (out-Tree t).lifted (out-Tree t).lifted_cut) ])
overgrown_is t = ap is_overgrown (meant_is t)

specs_listed : (cs : List Child) (is_cut : Bool) → has_spec_among (trees_of cs is_cut) ≡ list_any child_has_spec cs
specs_listed [] true = refl
specs_listed [] false = refl
specs_listed (c ∷ cs) is_cut = either (child_has_spec c) _ ∙ ap (λ b. child_has_spec c || b) (specs_listed cs is_cut)

pub has_spec_is : (t : Tree) → has_spec_in (meant t) ≡ (out-Tree t).here.has_spec || (list_any child_has_spec (out-Tree t).own || list_any child_has_spec (out-Tree t).lifted)
has_spec_is t =
    ap has_spec_in (meant_is t)
    ∙ either (out-Tree t).here.has_spec _
    ∙ ap (λ b. (out-Tree t).here.has_spec || b) (either (has_spec_among (trees_of (out-Tree t).own (out-Tree t).own_cut)) _)
    ∙ λ i. (out-Tree t).here.has_spec || (specs_listed (out-Tree t).own (out-Tree t).own_cut i || specs_listed (out-Tree t).lifted (out-Tree t).lifted_cut i)

abbrev rests : Node → Bool
rests n = list_any is_frame_overgrown n.frames

rests_listed : (cs : List Child) (is_cut : Bool) → list_any rests (nodes_among (trees_of cs is_cut)) ≡ list_any child_rests cs
rests_listed [] true = refl
rests_listed [] false = refl
rests_listed (c ∷ cs) is_cut =
    list_any-append rests (nodes_of (meant (out-Child c).tree)) (nodes_among (trees_of cs is_cut)) ∙ ap (λ b. child_rests c || b) (rests_listed cs is_cut)

pub rests_is : (t : Tree) → rests_on_overgrown (meant t) ≡ rests (out-Tree t).node || (list_any child_rests (out-Tree t).own || list_any child_rests (out-Tree t).lifted)
rests_is t =
    let own = nodes_among (trees_of (out-Tree t).own (out-Tree t).own_cut) in
    let lifted = nodes_among (trees_of (out-Tree t).lifted (out-Tree t).lifted_cut) in
    ap rests_on_overgrown (meant_is t)
    ∙ ap (λ b. rests (out-Tree t).node || b) (list_any-append rests own lifted)
    ∙ λ i. rests (out-Tree t).node || (rests_listed (out-Tree t).own (out-Tree t).own_cut i || rests_listed (out-Tree t).lifted (out-Tree t).lifted_cut i)
