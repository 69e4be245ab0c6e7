use Rattle.composition.proofs.Same.{stack_told}
use Rattle.class_arcs.proofs.class.same_stack.Goals as goal

pub returns : goal.returns
returns c = stack_told c.args.a.now c.args.b.now c.same.result c.same.ensures
