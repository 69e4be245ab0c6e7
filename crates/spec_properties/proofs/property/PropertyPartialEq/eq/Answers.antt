use Rattle.sdf_values.specs.Equality.{value_decided}
use Rattle.spec_properties.specs.contracts.property.Property.{the_row}
use Rattle.spec_properties.proofs.property.PropertyPartialEq.eq.Goals as goal

pub returns : goal.returns
returns c = value_decided the_row.coded c.args.self.now c.args.other.now c.same_property.result c.same_property.ensures
