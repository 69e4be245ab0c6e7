use Rattle.std.proofs.Common.{arith}
use Rattle.std.proofs.lemmas.Result.{IfOk-weaker}
use Rattle.layer_set.specs.LookUps.{look_ups}
use Rattle.prim_trees.specs.Meant.{meant}
use Rattle.prim_index.proofs.Rounded.{rounds_over, child_settled, child_moved, child_tree_kept}
use Rattle.prim_index.proofs.child.+settled_below.Goals as goal

pub returns-then-rounds-eq0-clause-frame : goal.returns-then-rounds-eq0-clause-frame
returns-then-rounds-eq0-clause-frame t c = rounds_over (look_ups c.args.world.now) c.args.name.now (meant c.args.parent.now) c.args.rounds c.args.frame c.if-rounds-eq0.true

pub returns-then-not-settled-clause-frame : goal.returns-then-not-settled-clause-frame
returns-then-not-settled-clause-frame t c =
    IfOk-weaker c.settled_below.result _ _
    (λ s goes. child_moved (look_ups c.args.world.now) c.args.name.now (meant c.args.parent.now) c.args.rounds c.choice_count-count.result c.args.frame c.in-Ok.next s.frame
    (meant c.in_ok-tree.tree) c.is_settled-settled.result (omega arith) c.in_ok-tree.ensures c.in-Ok.ensures c.choice_count-count.ensures c.is_settled-settled.ensures c.if-not-settled.true goes)
    c.settled_below.ensures.frame

pub returns-then-next-clause-frame : goal.returns-then-next-clause-frame
returns-then-next-clause-frame t c =
    child_settled (look_ups c.args.world.now) c.args.name.now (meant c.args.parent.now) c.args.rounds c.choice_count-count.result c.args.frame c.in-Ok.next (meant c.in_ok-tree.tree)
    c.is_settled-settled.result (omega arith) c.in_ok-tree.ensures c.in-Ok.ensures c.choice_count-count.ensures c.is_settled-settled.ensures c.if-not-settled.false

pub returns-clause-frame : goal.returns-clause-frame
returns-clause-frame t c =
    child_settled (look_ups c.args.world.now) c.args.name.now (meant c.args.parent.now) c.args.rounds c.choice_count-count.result c.args.frame c.in-Ok.next (meant c.in_ok-tree.tree)
    c.is_settled-settled.result (omega arith) c.in_ok-tree.ensures c.in-Ok.ensures c.choice_count-count.ensures c.is_settled-settled.ensures c.if-not-settled.false

pub returns-clause-tree : goal.returns-clause-tree
returns-clause-tree t c =
    child_tree_kept (look_ups c.args.world.now) c.args.name.now (meant c.args.parent.now) c.choice_count-count.result c.args.frame c.in-Ok.next (meant c.in_ok-tree.tree)
    c.is_settled-settled.result c.in_ok-tree.ensures c.in-Ok.ensures c.choice_count-count.ensures c.is_settled-settled.ensures c.if-not-settled.false c.if-next.false
