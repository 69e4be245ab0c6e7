-- The faults of a node, kind by kind.
use Rattle.std.proofs.Common.{◌≡◌, ap, refl, Bool, true, false, List, [], ◌∷◌, ◌++◌, filter}
use Rattle.path_maps.specs.declared.kind.ArcKind.{ArcKind}
use Rattle.path_maps.specs.declared.kind.ArcKind.TheVariants.{Inherits, Reference, Payload, Specializes}
use Rattle.composition.specs.Arcs.{same_kind}
use Rattle.composition.specs.Trees as defined
use Rattle.composition.specs.Faults.{Fault, node_faults, kind_faults, own_children}
use Rattle.prim_trees.specs.declared.tree.Tree.{Tree, out-Tree}
use Rattle.prim_trees.specs.declared.tree.Child.{Child}
use Rattle.prim_trees.specs.Meant.{meant, trees_of, led}
use Rattle.prim_trees.specs.Unfolded.{meant_is}

-- whether there was room for further children makes no difference
pub children_are : (k : ArcKind) (cs : List Child) (is_cut : Bool) → own_children k (trees_of cs is_cut) ≡ own_children k (trees_of cs false)
children_are k [] true = refl
children_are k [] false = refl
children_are k (c ∷ cs) is_cut =
    ap (λ (rest : List defined.Tree). elim (same_kind k (led c).0.kind) as (λ _. List defined.Tree) [ true ↦ (led c).1 ∷ rest | false ↦ rest ]) (children_are k cs is_cut)

abbrev pub of_kind : Tree → ArcKind → List Fault
of_kind t k = kind_faults (out-Tree t).node (trees_of (out-Tree t).own (out-Tree t).own_cut) k (filter (λ a. same_kind k a.kind) (out-Tree t).here.arcs)

pub faults_are : (t : Tree) → node_faults (meant t) ≡ of_kind t Inherits ++ (of_kind t Reference ++ (of_kind t Payload ++ (of_kind t Specializes ++ [])))
faults_are t = ap node_faults (meant_is t)
