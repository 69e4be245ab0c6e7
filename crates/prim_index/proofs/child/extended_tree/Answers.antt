use Rattle.std.proofs.lemmas.Result.{IfOk-weaker}
use Rattle.layer_set.specs.LookUps.{look_ups}
use Rattle.prim_trees.specs.Meant.{meant}
use Rattle.prim_index.proofs.Rounded.{child_there}
use Rattle.prim_index.proofs.child.extended_tree.Goals as goal

pub returns : goal.returns
returns c =
    IfOk-weaker c.child_tree.result _ _
    (λ t is. child_there (look_ups c.args.world.now) c.args.place.now c.in-Some.name.now (meant c.args.parent.now) (meant t) c.in_ok-loaded.loaded
    c.requires.prims c.in-Some.ensures c.requires.parent c.in_ok-loaded.ensures is)
    c.child_tree.ensures
