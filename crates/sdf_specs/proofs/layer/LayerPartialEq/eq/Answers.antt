use Rattle.sdf_values.specs.Equality.{value_decided}
use Rattle.sdf_specs.specs.contracts.layer.Layer.{the_row}
use Rattle.sdf_specs.proofs.layer.LayerPartialEq.eq.Goals as goal

pub returns : goal.returns
returns c = value_decided the_row.coded c.args.self.now c.args.other.now c.same_layer.result c.same_layer.ensures
