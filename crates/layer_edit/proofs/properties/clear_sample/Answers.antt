use Rattle.layer_edit.specs.Properties.{sample_dropped, sample_cleared}
use Rattle.layer_edit.proofs.Attributes.{does_missed, does_found}
use Rattle.layer_edit.proofs.properties.clear_sample.Goals as goal

pub returns-in-Err : goal.returns-in-Err
unfolding sample_cleared
returns-in-Err c =
    does_missed (λ ty. sample_dropped c.args.path.now c.args.time c.args.layer.now) c.in-Err.refused c.args.path.now c.args.layer.now c.args.layer.now c.in-Err.ensures

pub returns-in-Ok : goal.returns-in-Ok
unfolding sample_cleared
returns-in-Ok c =
    does_found (λ ty. sample_dropped c.args.path.now c.args.time c.args.layer.now) c.drop_sample.result c.args.path.now c.args.layer.now c.args.layer.now c.drop_sample.new.layer c.in-Ok._ty c.in-Ok.ensures c.drop_sample.ensures
