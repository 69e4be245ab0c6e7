use Rattle.sdf_values.specs.Equality.{value_decided}
use Rattle.prim_view.specs.contracts.view.PrimView.{the_row}
use Rattle.prim_view.proofs.exact_view.PrimViewPartialEq.eq.Goals as goal

pub returns : goal.returns
returns c = value_decided the_row.coded c.args.self.now c.args.other.now c.same_view.result c.same_view.ensures
