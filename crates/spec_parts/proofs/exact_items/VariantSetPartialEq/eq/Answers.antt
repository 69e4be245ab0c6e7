use Rattle.sdf_values.specs.Equality.{value_decided}
use Rattle.spec_parts.specs.contracts.items.VariantSet.{the_row}
use Rattle.spec_parts.proofs.exact_items.VariantSetPartialEq.eq.Goals as goal

pub returns : goal.returns
returns c = value_decided the_row.coded c.args.self.now c.args.other.now c.same_set.result c.same_set.ensures
