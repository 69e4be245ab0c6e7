use Rattle.layer_edit.specs.Properties.{default_given, default_set}
use Rattle.layer_edit.proofs.Attributes.{does_missed, does_found}
use Rattle.layer_edit.proofs.properties.set_default.Goals as goal

pub returns-in-Err : goal.returns-in-Err
unfolding default_set
returns-in-Err c =
    does_missed (λ ty. default_given c.args.path.now ty c.args.value.now c.args.layer.now) c.in-Err.refused c.args.path.now c.args.layer.now c.args.layer.now c.in-Err.ensures

pub returns-in-Ok : goal.returns-in-Ok
unfolding default_set
returns-in-Ok c =
    does_found (λ ty. default_given c.args.path.now ty c.args.value.now c.args.layer.now) c.give_default.result c.args.path.now c.args.layer.now c.args.layer.now c.give_default.new.layer c.in-Ok.ty c.in-Ok.ensures c.give_default.ensures
