use Rattle.value_shapes.proofs.Forms.{form_is, form_found}
use Rattle.value_shapes.proofs.Only.{shape_found, shape_refused, one_shape}
use Rattle.value_shapes.proofs.Whole.{shape_fits}
use Rattle.value_shapes.proofs.laws.taken_values_are_the_only.Goals as goal

pub returns : goal.returns
returns c = record {
  held = λ t v w hv h. (shape_fits t v w h).held hv;
  found = shape_found;
  refused = λ t v w k hv h hw same is. shape_refused t v w k h hv hw same is;
  one = one_shape;
  decimals = λ d. (form_is d, form_found d);
}
