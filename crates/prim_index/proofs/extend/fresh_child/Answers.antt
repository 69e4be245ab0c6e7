use Rattle.std.proofs.Common.{◌∙◌, refl}
use Rattle.layer_set.specs.LookUps.{look_ups}
use Rattle.prim_index.proofs.Fresh.{fresh_is}
use Rattle.prim_index.proofs.extend.fresh_child.Goals as goal

pub returns : goal.returns
returns c = c.in_ok-below.ensures ∙ fresh_is (look_ups c.args.world.now) c.args.node.now c.args.branch.now c.args.room c.args.node.now.depth 4096 refl refl
