use Rattle.std.proofs.Common.{◌∙◌, sym}
use Rattle.layer_apply.specs.Parts.{layer_edited}
use Rattle.layer_apply.proofs.Ways.{no_layer, refused, done}
use Rattle.layer_apply.proofs.layers.edit_in_layer.Goals as goal

pub returns-in_ok-put_present-in-Ok : goal.returns-in_ok-put_present-in-Ok
returns-in_ok-put_present-in-Ok c =
    done c.args.name.now (layer_edited c.args.op.now) c.args.world.now c.in-Some.layer c.edit_layer.new.layer c.take_layer.new.self c.put_present.new.world
    (sym c.in-Some.is ∙ c.in_ok-layer.ensures.taken) c.in-Ok.ensures c.in_ok-layer.ensures.rest c.in_ok-put_present-in-Ok.ensures

pub returns-in-Err : goal.returns-in-Err
returns-in-Err c =
    refused c.args.name.now (layer_edited c.args.op.now) c.args.world.now c.in-Some.layer c.edit_layer.new.layer c.take_layer.new.self c.in-Err.refused
    (sym c.in-Some.is ∙ c.in_ok-layer.ensures.taken) c.in-Err.ensures

pub returns-in-None : goal.returns-in-None
returns-in-None c = no_layer c.args.name.now (layer_edited c.args.op.now) c.args.world.now (sym c.in-None.is ∙ c.in_ok-layer.ensures.taken)
