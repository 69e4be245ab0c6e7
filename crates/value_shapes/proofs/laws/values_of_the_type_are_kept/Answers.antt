use Rattle.value_shapes.proofs.Whole.{shape_kept}
use Rattle.value_shapes.proofs.laws.values_of_the_type_are_kept.Goals as goal

pub returns : goal.returns
returns c = shape_kept
