use Rattle.std.proofs.Common.{◌≡◌, ◌∙◌, ap, ◌++◌, List, filter, Bor}
use Rattle.prim_nodes.specs.declared.here.Tried.{Tried}
use Rattle.composition.specs.Arcs.{same_kind}
use Rattle.composition.specs.Faults.{kind_faults}
use Rattle.prim_trees.specs.declared.tree.Tree.{out-Tree}
use Rattle.prim_trees.specs.Meant.{trees_of}
use Rattle.site_order.specs.Groups.{items}
use Rattle.site_order.proofs.faults.push_kind_faults.Goals as goal

pub returns : goal.returns
returns c =
    let own = trees_of (out-Tree c.args.tree.now).own (out-Tree c.args.tree.now).own_cut in
    let arcs : items c.as_slice-2.result.now ≡ filter (λ a. same_kind c.args.kind a.kind) (out-Tree c.args.tree.now).here.arcs =
    ap (λ (xs : List (Bor Tried)). items xs) c.as_slice-2.ensures.value ∙ c.in_ok-arcs.ensures ∙ ap (λ (xs : List Tried). filter (λ a. same_kind c.args.kind a.kind) xs) c.as_slice.ensures in
    c.in_ok-push_faults.ensures ∙ ap (λ (xs : List Tried). c.args.out.now ++ kind_faults (out-Tree c.args.tree.now).node own c.args.kind xs) arcs
