use Rattle.prim_trees.specs.declared.tree.Tree.{out-Tree}
use Rattle.site_order.proofs.faults.push_unresolved_among.Goals as goal

pub returns : goal.returns
returns c =
    simp (c.in_ok-push_all_unresolved.ensures, c.as_slice-2.ensures.value, c.as_slice-3.ensures.value, c.in_ok-kept.ensures, c.in_ok-children.ensures (out-Tree c.args.tree.now).own_cut, c.as_slice.ensures)
