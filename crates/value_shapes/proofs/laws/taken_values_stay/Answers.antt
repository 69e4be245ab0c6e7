use Rattle.value_shapes.proofs.Whole.{shape_fits, shape_kept}
use Rattle.value_shapes.proofs.laws.taken_values_stay.Goals as goal

pub returns : goal.returns
returns c = λ t v w h. shape_kept t w (shape_fits t v w h).of_type
