use Rattle.sdf_values.specs.Equality.{value_decided}
use Rattle.sdf_values.specs.contracts.value.Value.{the_row}
use Rattle.sdf_values.proofs.value.ValuePartialEq.eq.Goals as goal

pub returns : goal.returns
returns c = value_decided the_row.coded c.args.self.now c.args.other.now c.same.result c.same.ensures
