-- The choices in the index at a plain prim path are those of its frame.
use Rattle.std.proofs.Common.{◌≡◌, ℕ, zero, suc, Bool, true, false, ◌∷◌, map, flat_map, length, take, Option, Some, None, refl, sym, ap, ◌∙◌}
use Rattle.std.proofs.Math.Seq.{take-length}
use Rattle.sdf_paths.specs.declared.element.Element.{Element}
use Rattle.list_ops.specs.ListEdits.{firsts}
use Rattle.composition.specs.Paths.{Path, Limits}
use Rattle.composition.specs.World.{World, is_loaded}
use Rattle.composition.specs.Nodes.{Node, Here, here, frame_at}
use Rattle.composition.specs.Trees.{Tree, node_of, Meaning, tree_with}
use Rattle.composition.specs.Strength.{listing, sites}
use Rattle.composition.specs.Compose.{bottom, meaning, stage_node, stage_tree, is_overgrown_on_the_way}
use Rattle.composition.specs.Faults.{Index, index, index_of, site_of, same_fault, node_faults}

at_the_top : (l : Limits) (said : Node → Here) (deeper : Meaning) (steps room : ℕ) (n : Node) → node_of (tree_with l said deeper steps room n) ≡ n
at_the_top l said deeper zero room n = refl
at_the_top l said deeper (suc steps) room n = refl

node_is : (l : Limits) (said : Node → Here) (d room : ℕ) (n : Node) → node_of ((meaning l said d).tree room n) ≡ n
unfolding meaning
node_is l said zero room n = at_the_top l said bottom l.nodes room n
node_is l said (suc d) room n = at_the_top l said (meaning l said d) l.nodes room n

where_there_is_one : (b : Bool) (j i : Index) → elim b as (λ _. Option Index) [ true ↦ None | false ↦ Some j ] ≡ Some i → i.choices ≡ j.choices
where_there_is_one true j i h = absurd cc
where_there_is_one false j i h = let same : j ≡ i = cc in sym (ap (λ (x : Index). x.choices) same)

by_tree : (l : Limits) (t : Tree) (i : Index) → index_of l t ≡ Some i → i.choices ≡ (frame_at (node_of t) 0).choices
by_tree l t i h =
    where_there_is_one (is_overgrown_on_the_way t)
    (record { choices = (frame_at (node_of t) 0).choices; sites = map site_of (sites l t); faults = firsts same_fault (flat_map node_faults (listing l t)) }) i h

pub index_is : (l : Limits) (w : World) (p : Path) (i : Index) → index l w p ≡ Some i → i.choices ≡ (frame_at (stage_node l (here l w) (is_loaded w) p) 0).choices
index_is l w p i h =
    by_tree l (stage_tree l (here l w) (is_loaded w) p) i h
    ∙ ap (λ (n : Node). (frame_at n 0).choices) (node_is l (here l w) l.depth l.nodes (stage_node l (here l w) (is_loaded w) p))

pub whole : (e : Element) (p : Path) → take (suc (length p)) (e ∷ p) ≡ e ∷ p
whole e p = ap (λ (q : Path). e ∷ q) (take-length p)
