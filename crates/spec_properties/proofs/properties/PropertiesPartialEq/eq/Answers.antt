use Rattle.sdf_values.specs.Equality.{value_decided}
use Rattle.spec_properties.specs.contracts.properties.Properties.{the_row}
use Rattle.spec_properties.proofs.properties.PropertiesPartialEq.eq.Goals as goal

pub returns : goal.returns
returns c = value_decided the_row.coded c.args.self.now c.args.other.now c.same_properties.result c.same_properties.ensures
