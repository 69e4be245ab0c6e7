use Rattle.value_shapes.proofs.TypedReading.{typed_read}
use Rattle.value_shapes.proofs.laws.typed_values_are_of_the_type.Goals as goal

pub returns : goal.returns
returns c = typed_read
