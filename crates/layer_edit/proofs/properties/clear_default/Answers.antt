use Rattle.layer_edit.specs.Properties.{default_dropped, default_cleared}
use Rattle.layer_edit.proofs.Attributes.{does_missed, does_found}
use Rattle.layer_edit.proofs.properties.clear_default.Goals as goal

pub returns-in-Err : goal.returns-in-Err
unfolding default_cleared
returns-in-Err c =
    does_missed (λ ty. default_dropped c.args.path.now c.args.layer.now) c.in-Err.refused c.args.path.now c.args.layer.now c.args.layer.now c.in-Err.ensures

pub returns-in-Ok : goal.returns-in-Ok
unfolding default_cleared
returns-in-Ok c =
    does_found (λ ty. default_dropped c.args.path.now c.args.layer.now) c.drop_default.result c.args.path.now c.args.layer.now c.args.layer.now c.drop_default.new.layer c.in-Ok._ty c.in-Ok.ensures c.drop_default.ensures
