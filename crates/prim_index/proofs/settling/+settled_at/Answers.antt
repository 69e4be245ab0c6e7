use Rattle.std.proofs.Common.{refl, arith}
use Rattle.std.proofs.lemmas.Result.{IfOk-weaker}
use Rattle.composition.specs.Paths.{limits}
use Rattle.layer_set.specs.LookUps.{look_ups}
use Rattle.prim_trees.specs.Meant.{meant}
use Rattle.prim_index.specs.Reading.{said}
use Rattle.prim_index.proofs.Steps.{rounds_end}
use Rattle.prim_index.proofs.Settled.{settled_tree, frame_settled, frame_moved}
use Rattle.prim_index.proofs.settling.+settled_at.Goals as goal

pub returns-then-rounds-eq0-clause-frame : goal.returns-then-rounds-eq0-clause-frame
returns-then-rounds-eq0-clause-frame t c = rounds_end limits (said limits (look_ups c.args.world.now)) 64 c.args.rounds c.args.node.now c.args.above.now c.args.frame c.if-rounds-eq0.true

pub returns-then-not-settled-clause-frame : goal.returns-then-not-settled-clause-frame
returns-then-not-settled-clause-frame t c =
    IfOk-weaker c.settled_at.result _ _
    (λ s goes. frame_moved limits (said limits (look_ups c.args.world.now)) 64 c.args.rounds 4096 c.choice_count-count.result c.args.node.now c.args.above.now c.args.frame c.in-Ok.next s.frame
    (meant c.in_ok-tree.tree) c.is_settled-settled.result (omega arith) refl c.in_ok-tree.ensures c.in-Ok.ensures c.choice_count-count.ensures c.is_settled-settled.ensures c.if-not-settled.true goes)
    c.settled_at.ensures.frame

pub returns-then-next-clause-frame : goal.returns-then-next-clause-frame
returns-then-next-clause-frame t c =
    frame_settled limits (said limits (look_ups c.args.world.now)) 64 c.args.rounds 4096 c.choice_count-count.result c.args.node.now c.args.above.now c.args.frame c.in-Ok.next (meant c.in_ok-tree.tree)
    c.is_settled-settled.result (omega arith) refl c.in_ok-tree.ensures c.in-Ok.ensures c.choice_count-count.ensures c.is_settled-settled.ensures c.if-not-settled.false

pub returns-clause-frame : goal.returns-clause-frame
returns-clause-frame t c =
    frame_settled limits (said limits (look_ups c.args.world.now)) 64 c.args.rounds 4096 c.choice_count-count.result c.args.node.now c.args.above.now c.args.frame c.in-Ok.next (meant c.in_ok-tree.tree)
    c.is_settled-settled.result (omega arith) refl c.in_ok-tree.ensures c.in-Ok.ensures c.choice_count-count.ensures c.is_settled-settled.ensures c.if-not-settled.false

pub returns-clause-tree : goal.returns-clause-tree
returns-clause-tree t c =
    settled_tree limits (said limits (look_ups c.args.world.now)) 64 4096 c.choice_count-count.result c.args.node.now c.args.above.now c.args.frame c.in-Ok.next (meant c.in_ok-tree.tree)
    c.is_settled-settled.result c.in_ok-tree.ensures c.in-Ok.ensures c.choice_count-count.ensures c.is_settled-settled.ensures c.if-not-settled.false c.if-next.false
