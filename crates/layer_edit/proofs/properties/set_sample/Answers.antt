use Rattle.layer_edit.specs.Properties.{sample_given, sample_set}
use Rattle.layer_edit.proofs.Attributes.{does_missed, does_found}
use Rattle.layer_edit.proofs.properties.set_sample.Goals as goal

pub returns-in-Err : goal.returns-in-Err
unfolding sample_set
returns-in-Err c =
    does_missed (λ ty. sample_given c.args.path.now ty c.args.time c.args.value.now c.args.layer.now) c.in-Err.refused c.args.path.now c.args.layer.now c.args.layer.now c.in-Err.ensures

pub returns-in-Ok : goal.returns-in-Ok
unfolding sample_set
returns-in-Ok c =
    does_found (λ ty. sample_given c.args.path.now ty c.args.time c.args.value.now c.args.layer.now) c.give_sample.result c.args.path.now c.args.layer.now c.args.layer.now c.give_sample.new.layer c.in-Ok.ty c.in-Ok.ensures c.give_sample.ensures
