use Rattle.value_shapes.proofs.Answered.{answer_read}
use Rattle.value_shapes.proofs.shaped.read_of_type.Goals as goal

pub returns-clause-of_the_type : goal.returns-clause-of_the_type
returns-clause-of_the_type c = answer_read _ c.args.ty _ _ c.read_shaped.ensures.answer
