use Rattle.value_shapes.proofs.Whole.{shape_fits}
use Rattle.value_shapes.proofs.laws.taken_values_are_of_the_type.Goals as goal

pub returns : goal.returns
returns c = λ t v w h. (shape_fits t v w h).of_type
