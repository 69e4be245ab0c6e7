use Rattle.value_shapes.proofs.Answered.{answer_of_the_type, answer_of_the_meaning, answer_kept, answer_only}
use Rattle.value_shapes.proofs.shaped.value_of_type.Goals as goal

pub returns-clause-of_the_type : goal.returns-clause-of_the_type
returns-clause-of_the_type c = answer_of_the_type _ c.args.ty c.args.v c.take_shape.ensures

pub returns-clause-of_the_meaning : goal.returns-clause-of_the_meaning
returns-clause-of_the_meaning c = answer_of_the_meaning _ c.args.ty c.args.v c.take_shape.ensures

pub returns-clause-kept : goal.returns-clause-kept
returns-clause-kept c = λ h. answer_kept _ c.args.ty c.args.v c.take_shape.ensures h

pub returns-clause-only : goal.returns-clause-only
returns-clause-only c = λ w hv hw same is. answer_only _ c.args.ty c.args.v w c.take_shape.ensures hv hw same is
