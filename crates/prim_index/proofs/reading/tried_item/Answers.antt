use Rattle.layer_set.specs.LookUps.{look_ups}
use Rattle.prim_index.proofs.Saying.{tried_made}
use Rattle.prim_index.proofs.reading.tried_item.Goals as goal

pub returns-in-Ok : goal.returns-in-Ok
returns-in-Ok c =
    tried_made (look_ups c.args.world.now) c.args.node.now c.args.kind c.args.level c.args.item.now c.in-Ok.authored c.in_ok-fault.fault c.in_ok-sublayers.sublayers
    c.in-Ok.ensures c.in_ok-fault.ensures c.in_ok-sublayers.ensures
