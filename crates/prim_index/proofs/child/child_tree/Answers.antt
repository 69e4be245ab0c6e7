use Rattle.std.proofs.lemmas.Result.{IfOk-weaker}
use Rattle.layer_set.specs.LookUps.{look_ups}
use Rattle.prim_trees.specs.Meant.{meant}
use Rattle.prim_index.proofs.Rounded.{child_made}
use Rattle.prim_index.proofs.child.child_tree.Goals as goal

pub returns : goal.returns
returns c =
    IfOk-weaker c.tree_below_with.result _ _
    (λ t is. child_made (look_ups c.args.world.now) c.args.name.now (meant c.args.parent.now) c.args.loaded c.first_frame-first.result c.in_ok-settled.settled.frame (meant t)
    c.first_frame-first.ensures c.in_ok-settled.ensures.frame is)
    c.tree_below_with.ensures
