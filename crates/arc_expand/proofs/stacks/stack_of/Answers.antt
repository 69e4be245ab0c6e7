use Rattle.layer_set.specs.LookUps.{look_ups}
use Rattle.arc_expand.proofs.StackLaws.{is_stack}
use Rattle.arc_expand.proofs.stacks.stack_of.Goals as goal

pub returns-clause-stack : goal.returns-clause-stack
returns-clause-stack c = is_stack (look_ups c.args.world.now) c.in_ok-found.found c.args.name.now c.in_ok-found.ensures.name c.in_ok-found.ensures.layers
