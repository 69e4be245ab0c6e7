use Rattle.std.proofs.lemmas.Result.{IfOk-weaker}
use Rattle.layer_set.specs.LookUps.{look_ups}
use Rattle.prim_index.proofs.Fresh.{kind_told}
use Rattle.prim_index.proofs.lower.push_kind_below.Goals as goal

pub returns : goal.returns
returns c =
    IfOk-weaker c.push_known.result _ _
    (λ u made. kind_told (look_ups c.args.world.now) c.args.node.now c.args.said.now c.args.old.now c.args.kind c.args.out.now c.push_level.new.out c.push_known.new.out c.in_ok-push_level.ensures made)
    c.push_known.ensures
