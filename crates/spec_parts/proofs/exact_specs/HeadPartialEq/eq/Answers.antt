use Rattle.sdf_values.specs.Equality.{value_decided}
use Rattle.spec_parts.specs.contracts.spec.Head.{the_row}
use Rattle.spec_parts.proofs.exact_specs.HeadPartialEq.eq.Goals as goal

pub returns : goal.returns
returns c = value_decided the_row.coded c.args.self.now c.args.other.now c.same_head.result c.same_head.ensures
