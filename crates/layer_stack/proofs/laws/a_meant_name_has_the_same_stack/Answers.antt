use Rattle.layer_set.specs.LookUps.{look_ups}
use Rattle.layer_stack.proofs.Meaning.{meant_is_one}
use Rattle.layer_stack.proofs.laws.a_meant_name_has_the_same_stack.Goals as goal

pub returns : goal.returns
returns c = meant_is_one (look_ups c.args.world.now) c.args.name.now
